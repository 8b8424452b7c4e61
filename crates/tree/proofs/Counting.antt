-- The tree part of the check, one step at a time, as the code takes it: a son by what it is, and a slot by what its sons gave. Nothing is
-- assumed of the cells but what the tests have shown.
use Rattle.std.specs.Prelude.{Option, Some, None}
use Prim.Native.Nat.{ℕ, zero, suc, ◌+◌, ◌-◌, ◌≤◌, ◌<◌}
use mathlib.Core.Path.{◌≡◌, refl, sym, ap, ◌∙◌}
use mathlib.Core.Bool.{Bool, true, false, cond, not}
use mathlib.Core.List.{List}
use native.Mathlib.Omega.{arith}
use lib.Pow.{pow_mono}
use lib.Dec.{ltb}
use borrow.Author.Tests.{eq-eqb, ne_eqb}
use Rattle.kinds.specs.declared.Pair.{Pair}
use Rattle.kinds.specs.Pairs.{beats}
use Rattle.stripes.specs.Stripe.{low_levels, Stripe, middle, left_part, right_part}
use Rattle.trees.specs.Tree.{size}
use Rattle.trees.specs.Changes.{met}
use Rattle.pools.specs.Cells.{pair_at, left_at, right_at, tree_at}
use Rattle.pools.specs.Links.{Fits}
use Rattle.pools.specs.Test.{slot_fine, alone, fine, below}
use Rattle.pools.proofs.Leads.{back, tree_none, tree_fork, few}
use Rattle.pools.proofs.Decided.{fine_true}
use Rattle.pools.specs.Sound.{Leads}
use Rattle.places.specs.declared.Place.{Place}
use Rattle.places.specs.Places.{tree_here, LeadsHere, left_place, right_place}
use Rattle.tree.proofs.Sons.{fine_fits}
use Rattle.tree.specs.declared.Son.{Son}
use Rattle.tree.specs.declared.Son.TheVariants.{Empty, Leaf, Fork, Bad}
use Rattle.tree.specs.Checked.{count_if, from_link, from_slot, SonIs, empty, leaf, branch, bad}

pub was_counted : (b : Bool) (n a : ℕ) → count_if b n ≡ Some a → (b ≡ true) × (n ≡ a)
was_counted true n a h = (refl, cc)
was_counted false n a h = let z : ◌≡◌ {A = ℕ} 0 1 = cc in absurd (omega arith)

pub was_faulty : (b : Bool) (n : ℕ) → count_if b n ≡ None → b ≡ false
was_faulty true n h = cc
was_faulty false n h = refl

-- a son, by what it is
fine_empty : (c : List ℕ) (k : ℕ) (p : Pair) (s : ℕ) (at : Stripe) → s ≡ 0 → fine c k p s at ≡ true
unfolding fine
fine_empty c zero p s at e = eq-eqb s 0 e
fine_empty c (suc k) p s at e = rw (eq-eqb s 0 e)

module _ (c : List ℕ) (k : ℕ) (p : Pair) (s : ℕ) (at : Stripe) where
  none_there : s ≡ 0 → Some 0 ≡ from_link c k p s at
  unfolding from_link
  none_there e = rw (fine_empty c k p s at e, tree_none c k s e)

  -- a slot that passes its own tests is as fine as what is below it
  slot_there : (j : ℕ) → k ≡ suc j → (s ≡ 0 → ⊥) → slot_fine c s at ≡ true → beats p (pair_at c s) ≡ true → from_slot c j s at ≡ from_link c k p s at
  unfolding from_link from_slot fine below
  slot_there j e ne f b = rw (e, tree_fork c j s ne, ne_eqb s 0 ne, f, b)

  nothing_below : (j : ℕ) → left_at c s ≡ 0 → right_at c s ≡ 0 → Some 1 ≡ from_slot c j s at
  unfolding from_slot below alone met
  nothing_below j l r =
      rw (
        fine_empty c j (pair_at c s) (left_at c s) (left_part at) l,
        fine_empty c j (pair_at c s) (right_at c s) (right_part at) r,
        tree_none c j (left_at c s) l,
        tree_none c j (right_at c s) r,
      ) (go (ltb (pair_at c s).x (middle at)))
    where
      go : (b : Bool) → Some 1 ≡ count_if (not (cond b false false)) (0 + 0 + 1)
      go true = refl
      go false = refl

  -- what look_at_son says, at each of its cases
  pub son_empty : {what : Son} → SonIs c k p s at what → what ≡ Empty → Some 0 ≡ from_link c k p s at
  son_empty (empty e) t = none_there e
  son_empty (leaf a b d e f g) t = cc
  son_empty (branch a b d e) t = cc
  son_empty (bad e) t = cc

  pub son_leaf : {what : Son} → SonIs c k p s at what → what ≡ Leaf → Some 1 ≡ from_link c k p s at
  son_leaf (empty e) t = cc
  son_leaf (leaf ne d f b l r) t = nothing_below (k - 1) l r ∙ slot_there (k - 1) (sym (back k d)) ne f b
  son_leaf (branch a b d e) t = cc
  son_leaf (bad e) t = cc

  pub son_bad : {what : Son} → SonIs c k p s at what → what ≡ Bad → None ≡ from_link c k p s at
  unfolding from_link
  son_bad (empty e) t = cc
  son_bad (leaf a b d e f g) t = cc
  son_bad (branch a b d e) t = cc
  son_bad (bad e) t = rw e

  pub record Branch : Type 0 where
    pub some : s ≡ 0 → ⊥
    pub deep : k ≡ 0 → ⊥
    pub fine : slot_fine c s at ≡ true
    pub beaten : beats p (pair_at c s) ≡ true

  pub son_fork : {what : Son} → SonIs c k p s at what → what ≡ Fork → Branch
  son_fork (empty e) t = let z : ◌≡◌ {A = ℕ} 0 1 = cc in absurd (omega arith)
  son_fork (leaf a b d e f g) t = let z : ◌≡◌ {A = ℕ} 0 1 = cc in absurd (omega arith)
  son_fork (branch a b d e) t = record { some = a; deep = b; fine = d; beaten = e }
  son_fork (bad e) t = let z : ◌≡◌ {A = ℕ} 0 1 = cc in absurd (omega arith)

  pub fork_fits : Branch → Fits c s
  fork_fits b = let n = b.some in fine_fits c s at true (omega arith) (sym b.fine) refl

  pub fork_there : (w : Option ℕ) → Branch → w ≡ from_slot c (k - 1) s at → w ≡ from_link c k p s at
  fork_there w b e = e ∙ slot_there (k - 1) (sym (back k b.deep)) b.some b.fine b.beaten

-- the sons of a slot, in the code's order
module _ (c : List ℕ) (here : Place) {p : Pair} (ep : p ≡ pair_at c here.slot) {l : Place} (el : l ≡ left_place c here) {u : Option ℕ} (eu : u ≡ from_link c l.levels p l.slot l.stripe) where
  abbrev k : ℕ
  k = here.levels - 1

  abbrev s : ℕ
  s = here.slot

  abbrev at' : Stripe
  at' = here.stripe

  left_is : u ≡ from_link c k (pair_at c s) (left_at c s) (left_part at')
  left_is = rw (ep, el) at eu

  pub left_faulty : u ≡ None → None ≡ from_slot c k s at'
  unfolding from_link from_slot below
  left_faulty f = rw (was_faulty (fine c k (pair_at c s) (left_at c s) (left_part at')) (size (tree_at c k (left_at c s))) (sym left_is ∙ f))

  module _ {a : ℕ} (ea : u ≡ Some a) {r : Place} (er : r ≡ right_place c here) {v : Option ℕ} (ev : v ≡ from_link c r.levels p r.slot r.stripe) where
    fine_left : (fine c k (pair_at c s) (left_at c s) (left_part at') ≡ true) × (size (tree_at c k (left_at c s)) ≡ a)
    unfolding from_link
    fine_left = was_counted _ _ _ (sym left_is ∙ ea)

    right_is : v ≡ from_link c k (pair_at c s) (right_at c s) (right_part at')
    right_is = rw (ep, er) at ev

    pub right_faulty : v ≡ None → None ≡ from_slot c k s at'
    unfolding from_link from_slot below
    right_faulty f =
        rw (fine_left.0, was_faulty (fine c k (pair_at c s) (right_at c s) (right_part at')) (size (tree_at c k (right_at c s))) (sym right_is ∙ f))

    module _ {b : ℕ} (eb : v ≡ Some b) where
      fine_right : (fine c k (pair_at c s) (right_at c s) (right_part at') ≡ true) × (size (tree_at c k (right_at c s)) ≡ b)
      unfolding from_link
      fine_right = was_counted _ _ _ (sym right_is ∙ eb)

      module _ (y : Bool) (ey : not y ≡ alone p.x at' (tree_here c (left_place c here)) (tree_here c (right_place c here))) where
        alone_here : (z : Bool) → not y ≡ z → alone (pair_at c s).x at' (tree_at c k (left_at c s)) (tree_at c k (right_at c s)) ≡ z
        alone_here z h = rw ep at (sym ey ∙ h)

        pub again_faulty : y ≡ true → None ≡ from_slot c k s at'
        unfolding from_slot below
        again_faulty t = rw (fine_left.0, fine_right.0, alone_here false (ap not t))

        pub both_counted : y ≡ false → Some (a + b + 1) ≡ from_slot c k s at'
        unfolding from_slot below
        both_counted t = rw (fine_left.0, fine_right.0, alone_here true (ap not t), fine_left.1, fine_right.1)

-- a link that is found fine leads to the tree that is read, so its tree may be searched
pub may_search : (c : List ℕ) (p : Pair) (q here : Place) (u : Option ℕ) (a : ℕ) → u ≡ from_link c here.levels p here.slot here.stripe → u ≡ Some a → here ≡ q → LeadsHere c q
unfolding from_link
may_search c p q here u a eu ea e = rw e at (fine_true c here.levels p here.slot here.stripe (was_counted _ _ _ (sym eu ∙ ea)).0).fine.leads

-- a count is of few slots
pub few_counted : (c : List ℕ) (k : ℕ) (p : Pair) (s : ℕ) (at : Stripe) (u : Option ℕ) (a : ℕ) → k ≤ low_levels → u ≡ from_link c k p s at → u ≡ Some a
    → a < 4294967296
unfolding from_link
few_counted c k p s at u a h eu ea =
    let e = (was_counted (fine c k p s at) (size (tree_at c k s)) a (sym eu ∙ ea)).1 in
    let f = few c k s in
    let g = pow_mono h in
    omega arith
