-- A walk's start at the root, and its end: what the walk at the root finds is what the whole tree gives. Assumed is a sound pool.
use Rattle.std.specs.Prelude.{Option}
use Prim.Native.Nat.{ℕ, ◌≤◌}
use mathlib.Core.Path.{◌≡◌, ◌∙◌}
use mathlib.Core.List.{List}
use native.Mathlib.Omega.{arith}
use Rattle.kinds.specs.declared.Pair.{Pair}
use Rattle.kinds.specs.declared.Walked.{Walked}
use Rattle.pools.specs.Cells.{most_slots, root_of, tree_at}
use Rattle.pools.specs.Links.{Fits}
use Rattle.pools.specs.Sound.{Sound}
use Rattle.stripes.specs.Stripe.{all_levels}
use Rattle.trees.specs.Tree.{size}
use Rattle.walks.specs.Walks.{seen}
use Rattle.pools.proofs.Leads.{leads_tree}
use Rattle.places.specs.Places.{root_place}
use Rattle.questions.specs.Walking.{found_at, Walkable, Made}

module _ (c : List ℕ) (o : Sound c) where
  -- the header is there
  pub header : Fits c 0
  header = let w = o.pool.whole in let m = o.pool.some in omega arith

  root_tree : tree_at c all_levels (root_of c) ≡ o.tree
  root_tree = leads_tree c all_levels o.links o.levels

  few : size o.tree ≤ most_slots
  few = let n = o.count in let r = o.rest in let m = o.pool.most in omega arith

  -- law: what a walk relies on, at the root, before its first visit
  pub root_asked : Walkable c (root_place c) 0
  root_asked = record { leads = rw root_tree o.links; few = rw root_tree (omega (arith, few)) }

-- law: at its end, what was found is read from its slot
pub walked : (c : List ℕ) (w : Walked) (s v : ℕ) (f : Option Pair) → Made c 0 w s v → f ≡ found_at c s → seen f v ≡ w
walked c w s v f M e =
    let z = M.visits in
    let y : v ≡ w.visits = omega arith in
    λ i. record { finding = (e ∙ M.found) i; visits = y i }
