-- The search below a place, a step at a time: nothing is there, x is met, or it goes on to x's side of the middle. It assumes that the link
-- leads to the tree that is read (`LeadsHere`).
use Prim.Native.Nat.{ℕ}
use mathlib.Core.Path.{◌≡◌}
use mathlib.Core.Bool.{true, false}
use mathlib.Core.List.{List}
use lib.Dec.{ltb}
use borrow.Author.Tests.{eq-eqb, ne_eqb}
use Rattle.kinds.proofs.Tests.{on}
use Rattle.stripes.specs.Stripe.{middle}
use Rattle.trees.specs.Changes.{met}
use Rattle.trees.specs.Tree.{itself}
use Rattle.pools.specs.Cells.{pair_at}
use Rattle.places.specs.declared.Place.{Place}
use Rattle.places.specs.Places.{tree_here, LeadsHere, place_towards}
use Rattle.places.proofs.Here.{none_here, fork_here, deep_here}

module _ (c : List ℕ) (p : Place) (x : ℕ) where
  pub ends_here : p.slot ≡ 0 → false ≡ met itself x p.stripe (tree_here c p)
  unfolding met
  ends_here e = rw (none_here c p e)

  module _ (o : LeadsHere c p) (ne : p.slot ≡ 0 → ⊥) where
    pub hit : (pair_at c p.slot).x ≡ x → true ≡ met itself x p.stripe (tree_here c p)
    unfolding met
    hit h = rw (fork_here c p ne (deep_here c p o ne), eq-eqb (pair_at c p.slot).x x h)

    pub search_goes_on : ((pair_at c p.slot).x ≡ x → ⊥) → {p' : Place} → p' ≡ place_towards c p x
        → met itself x p'.stripe (tree_here c p') ≡ met itself x p.stripe (tree_here c p)
    unfolding met place_towards
    search_goes_on h e = on (ltb x (middle p.stripe))
        (λ t. rw (e, fork_here c p ne (deep_here c p o ne), ne_eqb (pair_at c p.slot).x x h, t))
        (λ f. rw (e, fork_here c p ne (deep_here c p o ne), ne_eqb (pair_at c p.slot).x x h, f))
