-- The listing, one step at a time, as the code takes it. It assumes a place that can be walked (`Walkable`), and a count within the room.
use Prim.Native.Nat.{ℕ, ◌+◌, ◌-◌, ◌≤◌, ◌<◌}
use mathlib.Core.Path.{◌≡◌, sym, ◌∙◌}
use mathlib.Core.Bool.{Bool, true, false, cond, not}
use mathlib.Core.List.{List, []}
use native.Mathlib.Omega.{arith}
use lib.Dec.{ltb, leb}
use lib.ListN.{length}
use borrow.Author.Tests.{lt-ltb, le-ltb, le-leb}
use Rattle.kinds.specs.declared.Limits.{Limits}
use Rattle.kinds.specs.declared.Pair.{Pair}
use Rattle.pools.specs.Cells.{pair_at}
use Rattle.plain.specs.Plain.{in_range, matches}
use Rattle.stripes.specs.Stripe.{middle, left_part, right_part}
use Rattle.trees.specs.Tree.{size}
use Rattle.walks.specs.Walks.{ListWalked, list_walked, and_then, list_own, listing, room_of}
use Rattle.kinds.proofs.Tests.{on}
use Rattle.walks.proofs.Sizes.{listing_size}
use Rattle.jot.specs.Jotting.{Put}
use Rattle.listing.specs.Listing.{Lists}
use Rattle.places.specs.declared.Place.{Place}
use Rattle.places.specs.Places.{tree_here, left_place, right_place}
use Rattle.places.proofs.Here.{none_here}
use Rattle.questions.specs.Walking.{Walkable}
use Rattle.questions.proofs.Finding.{not_lt}
use Rattle.questions.proofs.Places.{slot_here, asked_right}
use Rattle.listing.proofs.Filling.{Fills, fills, fills_own, fills_ask, own_visits, same_room, still_fits, stopped, goes_on, left_over, lists_stopped, lists_then, lists_nothing}

-- at the place h, after n matches and v visits, with the cells o: what is listed from there completes what is listed from the place s
pub record Completes (c : List ℕ) (q : Limits) (s : Place) (os : List ℕ) (ns vs : ℕ) (h : Place) (o : List ℕ) (n v : ℕ) : Type 0 where
  pub one : 1 ≤ h.slot
  pub walkable : Walkable c h v
  pub fits : n ≤ room_of o
  pub below : h.levels ≤ s.levels
  pub onward : (o' : List ℕ) (n' v' : ℕ) → Lists o n v (listing q h.stripe (tree_here c h) (room_of o - n)) o' n' v' → Lists os ns vs (listing q s.stripe (tree_here c s) (room_of os - ns)) o' n' v'

pub at_start : (c : List ℕ) (q : Limits) (s : Place) (o : List ℕ) (n v : ℕ) → 1 ≤ s.slot → Walkable c s v → n ≤ room_of o → Completes c q s o n v s o n v
at_start c q s o n v one w fit = record { one = one; walkable = w; fits = fit; below = omega arith; onward = λ o' n' v' X. X }

-- a slot
module _ (c : List ℕ) (p : Place) (q : Limits) (o : List ℕ) (n v : ℕ) (one : 1 ≤ p.slot) (w : Walkable c p v) (fit : n ≤ room_of o) {y : Pair} (ey : y ≡ pair_at c p.slot) where
  abbrev W : ListWalked
  W = listing q p.stripe (tree_here c p) (room_of o - n)

  abbrev M : ListWalked
  M = list_own (matches q (pair_at c p.slot)) (room_of o - n) (pair_at c p.slot)

  abbrev L : ℕ → ListWalked
  L room = cond (ltb q.x0 (middle p.stripe)) (listing q (left_part p.stripe) (tree_here c (left_place c p)) room) (list_walked [] false 0)

  abbrev R : ℕ → ListWalked
  R room = cond (leb (middle p.stripe) q.x1) (listing q (right_part p.stripe) (tree_here c (right_place c p)) room) (list_walked [] false 0)

  abbrev A : ListWalked
  A = L (room_of o - n - length M.pairs)

  abbrev B : ListWalked
  B = R (room_of o - n - length M.pairs - length A.pairs)

  list_fork : W ≡ cond (ltb q.y1 (pair_at c p.slot).y) (list_walked [] false 1) (and_then M (and_then A B))
  unfolding listing
  list_fork = rw (slot_here c p v one w)

  pub list_stop : q.y1 < y.y → Lists o n v W o n (v + 1)
  list_stop h =
      let h' : q.y1 < (pair_at c p.slot).y = rw ey at h in
      rw (list_fork, lt-ltb q.y1 (pair_at c p.slot).y h') (lists_nothing o n v 1)

  module _ (h : y.y ≤ q.y1) {room : ℕ} (er : room ≡ room_of o) {o1 : List ℕ} {n1 : ℕ} (P : Put o n (list_own (in_range q.x0 q.x1 y) (room_of o - n) y) o1 n1) where
    goes_below : W ≡ and_then M (and_then A B)
    goes_below =
        let h' : (pair_at c p.slot).y ≤ q.y1 = rw ey at h in
        list_fork ∙ rw (le-ltb q.y1 (pair_at c p.slot).y h')

    own_is : in_range q.x0 q.x1 (pair_at c p.slot) ≡ matches q (pair_at c p.slot)
    own_is =
        let h' : (pair_at c p.slot).y ≤ q.y1 = rw ey at h in
        on (in_range q.x0 q.x1 (pair_at c p.slot)) (λ t. rw (t, le-leb (pair_at c p.slot).y q.y1 h')) (λ f. rw f)

    put_own : Put o n M o1 n1
    put_own = rw (ey, own_is) at P

    fills_m : Fills (room_of o - n) M
    fills_m = fills_own (matches q (pair_at c p.slot)) (room_of o - n) (pair_at c p.slot)

    lists_own : Lists o n v M o1 n1 (v + 1)
    lists_own = record { put = put_own; visits = rw (own_visits (matches q (pair_at c p.slot)) (room_of o - n) (pair_at c p.slot)) }

    pub list_own_full : room < n1 → Lists o n v W o1 n1 (v + 1)
    list_own_full b = rw goes_below (lists_stopped o n v M (and_then A B) o1 n1 (v + 1) lists_own (stopped o n M o1 n1 fit fills_m put_own (omega arith)))

    module _ (b1 : n1 ≤ room) where
      own_fits : n1 ≤ room_of o1
      own_fits = still_fits o n M o1 n1 put_own room er b1

      on_left : M.more ≡ false
      on_left = goes_on o n M o1 n1 fit fills_m put_own (omega arith)

      over_left : room_of o1 - n1 ≡ room_of o - n - length M.pairs
      over_left = left_over o n M o1 n1 fit fills_m put_own (omega arith)

      module _ {o2 : List ℕ} {n2 v2 : ℕ} (left_here : Lists o1 n1 (v + 1) (L (room_of o1 - n1)) o2 n2 v2) where
        lists_left : Lists o1 n1 (v + 1) A o2 n2 v2
        lists_left = rw over_left at left_here

        fills_left : Fills (room_of o1 - n1) A
        fills_left = rw (← over_left) (fills_ask (ltb q.x0 (middle p.stripe)) _ _ (fills q (left_part p.stripe) (tree_here c (left_place c p)) (room_of o1 - n1)))

        -- what the left son visited leaves room for the right one
        pub right_asked : {r : Place} → r ≡ right_place c p → Walkable c r v2
        right_asked er =
            let z = lists_left.visits in
            let y : A.visits ≤ size (tree_here c (left_place c p)) = ask_size (ltb q.x0 (middle p.stripe)) _ _
            (listing_size q (left_part p.stripe) (tree_here c (left_place c p)) (room_of o - n - length M.pairs)) in
            asked_right c p v one w _ v2 er (omega arith)
          where
            ask_size : (go : Bool) (w : ListWalked) (m : ℕ) → w.visits ≤ m → (cond go w (list_walked [] false 0)).visits ≤ m
            ask_size true w m e = e
            ask_size false w m e = omega arith

        room_here : room_of o1 ≡ room_of o
        room_here = same_room o n M o1 n1 put_own

        pub list_left_full : room < n2 → Lists o n v W o2 n2 v2
        list_left_full b =
            let z = room_here in
            rw goes_below (lists_then o n v M (and_then A B) o1 n1 (v + 1) lists_own on_left o2 n2 v2
            (lists_stopped o1 n1 (v + 1) A B o2 n2 v2 lists_left (stopped o1 n1 A o2 n2 own_fits fills_left lists_left.put (omega arith))))

        module _ (b2 : n2 ≤ room) where
          on_right : A.more ≡ false
          on_right = let z = room_here in goes_on o1 n1 A o2 n2 own_fits fills_left lists_left.put (omega arith)

          over_right : room_of o2 - n2 ≡ room_of o - n - length M.pairs - length A.pairs
          over_right = let z = room_here in left_over o1 n1 A o2 n2 own_fits fills_left lists_left.put (omega arith) ∙ rw over_left

          pub list_left_fits : n2 ≤ room_of o2
          list_left_fits = still_fits o1 n1 A o2 n2 lists_left.put room (er ∙ sym room_here) b2

          pub list_both : {r : Place} {b : Bool} {o3 : List ℕ} {n3 v3 : ℕ} → r ≡ right_place c p → b ≡ ltb q.x1 (middle p.stripe)
              → Lists o2 n2 v2 (cond (not b) (listing q r.stripe (tree_here c r) (room_of o2 - n2)) (list_walked [] false 0)) o3 n3 v3 → Lists o n v W o3 n3 v3
          list_both {o3 = o3} {n3 = n3} {v3 = v3} er eb Y =
              let Y' : Lists o2 n2 v2 (R (room_of o2 - n2)) o3 n3 v3 = rw (er, eb, not_lt q.x1 (middle p.stripe)) at Y in
              let Z : Lists o2 n2 v2 B o3 n3 v3 = rw over_right at Y' in
              rw goes_below (lists_then o n v M (and_then A B) o1 n1 (v + 1) lists_own on_left o3 n3 v3
              (lists_then o1 n1 (v + 1) A B o2 n2 v2 lists_left on_right o3 n3 v3 Z))

          -- the right son is there and asked: what is listed from it completes the slot's listing, and so the whole one
          pub goes_right : {s : Place} {os : List ℕ} {ns vs : ℕ} {r : Place} {b : Bool} → Completes c q s os ns vs p o n v → r ≡ right_place c p → b ≡ ltb q.x1 (middle p.stripe)
              → b ≡ false → (r.slot ≡ 0 → ⊥) → Completes c q s os ns vs r o2 n2 v2
          goes_right {r = r} {b = b} G er eb asked ne = record {
            one = omega (arith, ne);
            walkable = right_asked er;
            fits = list_left_fits;
            below = let z = G.below in rw er (omega arith);
            onward = λ o' n' v' X. G.onward o' n' v' (list_both er eb (rw asked X));
          }

-- a son's place
module _ (c : List ℕ) (p : Place) (q : Limits) (o : List ℕ) (n v room : ℕ) (go : Bool) where
  nowhere : Lists o n v (list_walked [] false 0) o n v
  nowhere = let e : v + 0 ≡ v = omega arith in rw e at (lists_nothing o n v 0)

  pub list_none : p.slot ≡ 0 → Lists o n v (cond go (listing q p.stripe (tree_here c p) room) (list_walked [] false 0)) o n v
  unfolding listing
  list_none e = rw (none_here c p e) (on go (λ t. rw t nowhere) (λ f. rw f nowhere))

  pub list_unasked : go ≡ false → Lists o n v (cond go (listing q p.stripe (tree_here c p) room) (list_walked [] false 0)) o n v
  list_unasked e = rw e nowhere
