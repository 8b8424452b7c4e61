-- How a slot is cut, seen from one of its sons: a hole is filled from the heir's side, and x is taken out on its own; so in a sound pool x is
-- taken out at the place where the way to it ends.
use Prim.Native.Nat.{ℕ, suc}
use mathlib.Core.Path.{◌≡◌, refl, ap, ◌∙◌}
use mathlib.Core.Logic.{◌≢◌}
use mathlib.Core.Bool.{Bool, true, false, not, cond}
use mathlib.Core.List.{List}
use lib.ListN.{get_or}
use borrow.Author.Tests.{eq-eqb, ne_eqb}
use Rattle.kinds.specs.declared.Pair.{Pair}
use Rattle.kinds.specs.Pairs.{beats}
use Rattle.stripes.specs.Stripe.{root_stripe}
use Rattle.stripes.specs.Heights.{stripe_at}
use Rattle.trees.specs.Tree.{Tree, none, fork, itself}
use Rattle.trees.specs.Changes.{Cut, fill, take_out}
use Rattle.pools.specs.Cells.{pair_at}
use Rattle.pools.specs.Sound.{Sound}
use Rattle.stripes.proofs.Heights.{root_at}
use Rattle.pools.proofs.Leads.{tree_fork}
use Rattle.way.specs.Way.{tree_there, OnTheWay, root, on, WayEnds}
use Rattle.way.proofs.Sides.{fork_on, son_tree, side_of, part_side}
use Rattle.way.proofs.Ways.{around, around_same}

-- the near tree is cut, under the pair p
abbrev pub cut_on : Bool → ℕ → Pair → Tree Pair → Cut Pair → Cut Pair
cut_on left s p far cut = record { tree = fork_on left s p cut.tree far; slot = cut.slot }

-- the pair q at the top of one side's tree wins over the other side's top
pub data Wins (left : Bool) (q : Pair) : Tree Pair → Type 0 where
  alone : Wins left q none
  over : {a : ℕ} {v : Pair} {l r : Tree Pair} → beats (cond left q v) (cond left v q) ≡ left → Wins left q (fork a v l r)

-- law: the hole is filled from that side
pub fill_on : {q : Pair} {far : Tree Pair} (s a : ℕ) (p : Pair) (l r : Tree Pair) (left : Bool) → Wins left q far
    → fill itself (fork_on left s p (fork a q l r) far) ≡ cut_on left s q far (fill itself (fork a q l r))
unfolding fill fork_on
fill_on s a p l r true alone = refl
fill_on s a p l r false alone = refl
fill_on s a p l r true (over e) = rw e
fill_on s a p l r false (over e) = rw e

-- law: x is taken out on its side
out_on : (s : ℕ) (p : Pair) (near far : Tree Pair) (k x : ℕ) (left : Bool) → side_of (suc k) x ≡ left → p.x ≢ x
    → take_out itself x (stripe_at (suc k) x) (fork_on left s p near far) ≡ cut_on left s p far (take_out itself x (stripe_at k x) near)
unfolding take_out fork_on
out_on s p near far k x true e n = rw (ne_eqb p.x x n, e) (ap (λ at. cut_on true s p far (take_out itself x at near)) (part_side k x true e))
out_on s p near far k x false e n = rw (ne_eqb p.x x n, e) (ap (λ at. cut_on false s p far (take_out itself x at near)) (part_side k x false e))

-- the root's tree, cut at a place
abbrev pub cut_around : {c : List ℕ} {x k cell : ℕ} → OnTheWay c x k cell → Cut Pair → Cut Pair
cut_around w cut = record { tree = around w cut.tree; slot = cut.slot }

-- law: x is taken out at the place
out_around : {c : List ℕ} {x k cell : ℕ} (w : OnTheWay c x k cell) (t : Tree Pair) → take_out itself x root_stripe (around w t) ≡ cut_around w (take_out itself x (stripe_at k x) t)
unfolding around
out_around {x = x} (root i) t = rw (root_at x i.to)
out_around {c} {x} (on {k} {cell} w ne nx) t =
    let s = get_or c cell 0 in
    let left = side_of (suc k) x in
    let far = son_tree c (suc k) s (not left) in
    out_around w (fork_on left s (pair_at c s) t far)
    ∙ ap (cut_around w) (out_on s (pair_at c s) t far k x left refl nx)

module _ {c : List ℕ} (s : Sound c) {x k cell : ℕ} (E : WayEnds c x k cell) (ne : get_or c cell 0 ≢ 0) where
  out_here : take_out itself x (stripe_at k x) (tree_there c k cell) ≡ fill itself (tree_there c k cell)
  unfolding take_out
  out_here = rw (tree_fork c k (get_or c cell 0) ne, eq-eqb (pair_at c (get_or c cell 0)).x x (E.met ne))

  -- law: where x is met, what is left of the tree is what the filled hole leaves at the place
  pub cut_there : take_out itself x root_stripe s.tree ≡ cut_around E.way (fill itself (tree_there c k cell))
  cut_there = rw (← around_same s E.way) (out_around E.way (tree_there c k cell) ∙ ap (cut_around E.way) out_here)
