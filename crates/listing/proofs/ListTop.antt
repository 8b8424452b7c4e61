-- A listing from the root, into the whole of a lent slice. Assumed is a sound pool, and what the walk at the root does.
use Prim.Native.Nat.{ℕ, ◌-◌, ◌≤◌, ◌<◌}
use mathlib.Core.Path.{◌≡◌, refl, sym, ◌∙◌}
use mathlib.Core.Bool.{true, false}
use mathlib.Core.List.{List}
use native.Mathlib.Omega.{arith}
use lib.ListN.{length}
use Rattle.kinds.specs.declared.Limits.{Limits}
use Rattle.pools.specs.Cells.{root_of, tree_at}
use Rattle.pools.specs.Sound.{Sound}
use Rattle.stripes.specs.Stripe.{all_levels, root_stripe}
use Rattle.walks.specs.Walks.{ListWalked, listing, room_of}
use Rattle.walks.proofs.Sizes.{listing_size}
use Rattle.kinds.specs.declared.Listing.{Listing}
use Rattle.places.specs.declared.Place.{Place}
use Rattle.places.specs.Places.{tree_here, root_place}
use Rattle.listing.specs.Listing.{Lists, Lent}
use Rattle.questions.proofs.Top.{root_asked}
use Rattle.listing.proofs.Filling.{Fills, fills, put_written, stopped, goes_on, next_place}

module _ (c : List ℕ) (S : Sound c) (q : Limits) (o : List ℕ) {room : ℕ} (er : room ≡ room_of o) {p : Place} (ep : p ≡ root_place c) {o' : List ℕ} {n v : ℕ}
    (X : Lists o 0 0 (listing q p.stripe (tree_here c p) (room_of o - 0)) o' n v) where
  abbrev W : ListWalked
  W = listing q root_stripe (tree_at c all_levels (root_of c)) (room_of o)

  whole : room_of o - 0 ≡ room_of o
  whole = omega arith

  made : Lists o 0 0 W o' n v
  made = rw (ep, whole) at X

  filled : Fills (room_of o) W
  filled = fills q root_stripe (tree_at c all_levels (root_of c)) (room_of o)

  filled_here : Fills (room_of o - 0) W
  filled_here = rw whole filled

  -- as many as there are slots at most
  listed_few : length W.pairs < 4294967296
  listed_few =
      let a = filled.each in
      let b = listing_size q root_stripe (tree_at c all_levels (root_of c)) (room_of o) in
      let d = (root_asked c S).few in
      omega arith

  lent : (r : Listing) → r.count ≡ length W.pairs → r.more ≡ W.more → r.visits ≡ v → Lent o W o' r
  lent r e m y =
      let z = made.visits in
      record { count = e; more = m; visits = omega arith; cells = made.put.cells ∙ put_written o W.pairs filled.few }

  module _ (b : room < n) where
    no_room : W.more ≡ true
    no_room = stopped o 0 W o' n (omega arith) filled_here made.put (omega arith)

    all_full : room ≡ length W.pairs
    all_full = er ∙ sym (filled.full no_room)

    pub room_fits : room < 4294967296
    room_fits = let z = all_full in let y = listed_few in omega arith

    pub list_full : Lent o W o' (record { count = room; more = true; visits = v })
    list_full = lent _ all_full (sym no_room) refl

  module _ (b : n ≤ room) where
    all_listed : n ≡ length W.pairs
    all_listed = let z = next_place o 0 W o' n (omega arith) filled_here made.put (omega arith) in omega arith

    pub count_fits : n < 4294967296
    count_fits = let z = all_listed in let y = listed_few in omega arith

    pub list_whole : Lent o W o' (record { count = n; more = false; visits = v })
    list_whole = lent _ all_listed (sym (goes_on o 0 W o' n (omega arith) filled_here made.put (omega arith))) refl
