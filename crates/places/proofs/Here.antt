-- What is there at a place: nothing, or a slot with its cells and a level, over its sons' places. It assumes that the link leads to the tree
-- that is read (`LeadsHere`).
use Prim.Native.Nat.{ℕ, suc, ◌-◌, ◌≤◌}
use mathlib.Core.Path.{◌≡◌, refl, sym, ap, ◌∙◌}
use mathlib.Core.Bool.{true, false}
use mathlib.Core.List.{List}
use native.Mathlib.Omega.{arith}
use lib.Dec.{ltb}
use Rattle.kinds.proofs.Tests.{on}
use Rattle.stripes.specs.Stripe.{middle}
use Rattle.trees.specs.Tree.{none, fork}
use Rattle.pools.specs.Cells.{pair_at, tree_at}
use Rattle.pools.specs.Links.{Fits, son_at}
use Rattle.pools.specs.Sound.{Leads}
use Rattle.pools.proofs.Leads.{back, tree_none, tree_fork, leads_deep, leads_fits, leads_son}
use Rattle.places.specs.declared.Place.{Place}
use Rattle.places.specs.Places.{tree_here, LeadsHere, left_place, right_place, place_towards}

module _ (c : List ℕ) (p : Place) where
  pub none_here : p.slot ≡ 0 → tree_here c p ≡ none
  none_here e = tree_none c p.levels p.slot e

  -- law: a slot with a level is the fork of its sons' trees
  pub fork_here : (p.slot ≡ 0 → ⊥) → (p.levels ≡ 0 → ⊥) → tree_here c p ≡ fork p.slot (pair_at c p.slot) (tree_here c (left_place c p)) (tree_here c (right_place c p))
  fork_here ne d = sym (ap (λ k. tree_at c k p.slot) (back p.levels d)) ∙ tree_fork c (p.levels - 1) p.slot ne

  -- a son's place is a level lower
  pub level_lower : (x : ℕ) {q : Place} → q ≡ place_towards c p x → q.levels ≡ p.levels - 1
  unfolding place_towards
  level_lower x e = rw e (on (ltb x (middle p.stripe)) (λ t. rw t refl) (λ f. rw f refl))

  module _ (o : LeadsHere c p) (ne : p.slot ≡ 0 → ⊥) where
    pub deep_here : p.levels ≡ 0 → ⊥
    deep_here = leads_deep c p.levels p.slot o ne

    pub fits_here : Fits c p.slot
    fits_here = leads_fits c o ne

    -- what the code needs to go on to a son
    pub goes_down : Fits c p.slot × (1 ≤ p.levels)
    goes_down = (fits_here, omega (arith, deep_here))

    leads_here : Leads c p.slot (tree_at c (suc (p.levels - 1)) p.slot)
    leads_here = rw (back p.levels deep_here) o

    -- law: the sons' links lead to the trees that are read from their places
    pub leads_left : LeadsHere c (left_place c p)
    unfolding son_at
    leads_left = leads_son c (p.levels - 1) p.slot true leads_here ne

    pub leads_right : LeadsHere c (right_place c p)
    unfolding son_at
    leads_right = leads_son c (p.levels - 1) p.slot false leads_here ne

    pub leads_towards : (x : ℕ) → LeadsHere c (place_towards c p x)
    unfolding place_towards
    leads_towards x = on (ltb x (middle p.stripe)) (λ t. rw t leads_left) (λ f. rw f leads_right)
