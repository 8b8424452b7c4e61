-- The side of a slot that is searched for its x is that where x lies. It assumes that both sons' links lead to the trees that are read.
use Prim.Native.Nat.{ℕ}
use mathlib.Core.Path.{◌≡◌, refl}
use mathlib.Core.Bool.{Bool, not}
use mathlib.Core.List.{List}
use lib.Dec.{ltb}
use Rattle.kinds.proofs.Tests.{on}
use Rattle.stripes.specs.Stripe.{middle}
use Rattle.trees.specs.Tree.{itself}
use Rattle.trees.specs.Changes.{met}
use Rattle.pools.specs.Test.{alone}
use Rattle.places.specs.declared.Place.{Place}
use Rattle.places.specs.Places.{tree_here, LeadsHere, left_place, right_place, place_towards}

module _ (c : List ℕ) (p : Place) (x : ℕ) {q : Place} (e : q ≡ place_towards c p x) where
  pub towards_leads : LeadsHere c (left_place c p) → LeadsHere c (right_place c p) → LeadsHere c q
  unfolding place_towards
  towards_leads l r = rw e (on (ltb x (middle p.stripe)) (λ t. rw t l) (λ f. rw f r))

  pub searched : {m : Bool} → m ≡ met itself x q.stripe (tree_here c q) → not m ≡ alone x p.stripe (tree_here c (left_place c p)) (tree_here c (right_place c p))
  unfolding alone place_towards
  searched h = rw (h, e) (on (ltb x (middle p.stripe)) (λ t. rw t refl) (λ f. rw f refl))
