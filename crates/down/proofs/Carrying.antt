-- A pair that goes down, a level at a time: at an empty place it takes the free slot; at a slot the better pair stays, the beaten one can go
-- down from the son's place on its side, and where it has, the first has gone down here. It assumes that the first can (`Going`).
use Prim.Native.Nat.{ℕ, suc, ◌-◌, ◌≤◌, ◌<◌}
use mathlib.Core.Path.{◌≡◌, refl, sym, ap, ◌∙◌, subst}
use mathlib.Core.Logic.{◌≢◌, ⊎_elim}
use mathlib.Core.Bool.{Bool, true, false, not}
use mathlib.Core.List.{List}
use native.Mathlib.Omega.{arith}
use lib.ListN.{get_or}
use Rattle.kinds.specs.declared.Pair.{Pair}
use Rattle.kinds.specs.Pairs.{beats}
use Rattle.stripes.specs.Stripe.{Stripe, In}
use Rattle.stripes.specs.Heights.{stripe_at}
use Rattle.trees.specs.Tree.{Tree, All, Under, Well, itself}
use Rattle.trees.specs.Standing.{Stands, New}
use Rattle.trees.specs.Changes.{go_down}
use Rattle.pools.specs.Cells.{free_of, pair_at, right_at, put_pair}
use Rattle.pools.specs.Links.{Fits, link_cell}
use Rattle.kinds.proofs.Tests.{on}
use Rattle.stripes.proofs.Heights.{in_at, same_at}
use Rattle.trees.proofs.Trees.{under_new}
use Rattle.trees.proofs.GoDown.{down_view}
use Rattle.pools.proofs.Leads.{back, tree_none, tree_fork, leads_fits}
use Rattle.trees.proofs.Standing.{down_stands}
use Rattle.pools.proofs.Agreement.{same_slot}
use Rattle.way.specs.Way.{tree_there}
use Rattle.way.proofs.Links.{link_slot}
use Rattle.way.proofs.Sides.{fork_on, son_tree, side_of, part_side, inside_slot, level_below, Outside, WellOn, well_on, new_near}
use Rattle.way.proofs.Replacing.{Paired, paired_put, there_on, son_distinct, outside_on, son_tree_lem, son_place, replaced_up}
use Rattle.seat.specs.Seat.{stays, goes_on, Settled, Room, free_taken}
use Rattle.down.specs.Down.{Going, Carried}
use Rattle.down.proofs.Taking.{taken_first, taken_replaced}

-- law: the pair that goes on lies in the stripe, is new below, and goes down on its side
module _ (p q : Pair) where
  goes_in : {at : Stripe} → In at p.x → In at q.x → In at (goes_on p q).x
  unfolding goes_on
  goes_in i j = on (beats p q) (λ e. rw e j) (λ e. rw e i)

  goes_new : (t : Tree Pair) → New itself p.x t → All (λ u. Under q u) t → New itself (goes_on p q).x t
  unfolding goes_on
  goes_new t n u = on (beats p q) (λ e. rw e (under_new itself q t u)) (λ e. rw e n)

  down_on : (f s k : ℕ) (near far : Tree Pair) (left : Bool) → side_of (suc k) (goes_on p q).x ≡ left
      → go_down itself f p (stripe_at (suc k) (goes_on p q).x) (fork_on left s q near far)
      ≡ fork_on left s (stays p q) (go_down itself f (goes_on p q) (stripe_at k (goes_on p q).x) near) far
  unfolding go_down fork_on stays goes_on
  down_on f s k near far true e = rw e (ap (λ at. fork_on true s (stays p q) (go_down itself f (goes_on p q) at near) far) (part_side k (goes_on p q).x true e))
  down_on f s k near far false e = rw e (ap (λ at. fork_on false s (stays p q) (go_down itself f (goes_on p q) at near) far) (part_side k (goes_on p q).x false e))

module _ {c : List ℕ} {k cell : ℕ} {p : Pair} (g : Going c k cell p) where
  pub going_room : Room c cell
  going_room = record { inside = g.place.inside; slot = g.free }

  pub going_fits : get_or c cell 0 ≢ 0 → Fits c (get_or c cell 0)
  going_fits ne = leads_fits c g.place.leads ne

  -- law: at an empty place the free slot is taken
  pub put_there : {d : List ℕ} → get_or c cell 0 ≡ 0 → d ≡ free_taken c cell p → Carried c k cell p d
  unfolding go_down
  put_there z e = rw e (record {
    place = rw (tree_none c (suc k) (get_or c cell 0) z) (taken_replaced p going_room g.elsewhere g.place.other);
    first = taken_first p going_room g.elsewhere g.place.other;
  })

  -- a slot there holds another x, so there is a level below
  deep : get_or c cell 0 ≢ 0 → k ≢ 0
  deep ne =
      let new = rw (tree_fork c k (get_or c cell 0) ne) at g.new in
      level_below c k (get_or c cell 0) ne p.x g.well (λ e. new.0 (sym e))

-- one level down: p meets q; w is the one that stays, and z the one that goes on
module _ {c : List ℕ} {k cell : ℕ} {p : Pair} (g : Going c (suc k) cell p) (ne : get_or c cell 0 ≢ 0) where
  abbrev s : ℕ
  s = get_or c cell 0

  abbrev q : Pair
  q = pair_at c s

  abbrev w : Pair
  w = stays p q

  abbrev z : Pair
  z = goes_on p q

  abbrev at : Stripe
  at = stripe_at (suc k) p.x

  abbrev left : Bool
  left = side_of (suc k) z.x

  abbrev near : Tree Pair
  near = son_tree c (suc k) s left

  abbrev far : Tree Pair
  far = son_tree c (suc k) s (not left)

  abbrev d : List ℕ
  d = put_pair c s w

  -- both pairs lie in one stripe
  same_stripe : stripe_at (suc k) z.x ≡ at
  same_stripe = same_at (suc k) p.x z.x (goes_in p q (in_at (suc k) p.x) (inside_slot c (suc k) s ne at g.well))

  slot_there : tree_there c (suc k) cell ≡ fork_on left s q near far
  slot_there = there_on g.place ne left

  slot_well : WellOn k z.x q near
  slot_well = well_on s q near far k z.x left refl (subst (λ at. Well itself at (fork_on left s q near far)) (sym same_stripe) (rw slot_there at g.well))

  near_new : New itself z.x near
  near_new = goes_new p q near (new_near s q near far left p.x (rw slot_there at g.new)).1 slot_well.over

  -- w is written; the free slot is another, and stays the first
  written : Paired c s w d
  written = paired_put c s w (going_fits g ne)

  free_outside : Outside (free_of c) s near far
  free_outside = outside_on g.place ne left g.out

  same_free : free_of d ≡ free_of c
  same_free = (written.wrote.rest 0 (λ e. ne (sym e))).left

  same_next : right_at d (free_of d) ≡ right_at c (free_of c)
  same_next = rw same_free (written.wrote.rest (free_of c) free_outside.top).right

  near_there : tree_there d k (link_cell s left) ≡ near
  near_there = son_tree_lem g.place ne left written

  below : Going d k (link_cell s left) z
  below = record {
    few = omega (arith, g.few);
    place = son_place g.place ne left written;
    well = rw near_there slot_well.near;
    new = rw near_there near_new;
    free = rw same_free (same_slot written.wrote.long g.free);
    out = rw (near_there, same_free) free_outside.near;
    elsewhere = rw (link_slot s left, same_free) (λ e. free_outside.top (sym e));
  }

  -- the slots of the near tree that z went down in are none of the others
  abbrev grown : Tree Pair
  grown = go_down itself (free_of c) z (stripe_at k z.x) near

  grown_out : {u : ℕ} → u ≢ free_of c → (Stands u near → ⊥) → Stands u grown → ⊥
  grown_out n m i = ⊎_elim (λ e. n e) (λ j. m j) (down_stands itself (down_view itself (free_of c) z (stripe_at k z.x) near slot_well.near (in_at k z.x) near_new) i)

  whole : go_down itself (free_of c) p at (tree_there c (suc k) cell) ≡ fork_on left s w grown far
  whole = rw slot_there (ap (λ at. go_down itself (free_of c) p at (fork_on left s q near far)) (sym same_stripe) ∙ down_on p q (free_of c) s k near far left refl)

  up : {d' : List ℕ} → Carried d k (link_cell s left) z d' → Carried c (suc k) cell p d'
  up h =
      let D = son_distinct g.place ne left in
      let R = rw (same_free, near_there) at h.place in
      record {
        place = rw whole (replaced_up g.place ne left written R (grown_out (λ e. free_outside.top (sym e)) D.not_left)
            (grown_out g.elsewhere (outside_on g.place ne left g.place.apart).near)
            (λ u m n. grown_out (λ e. free_outside.far (rw e at n)) (λ i. D.across u i n) m) w);
        first = h.first ∙ same_next;
      }

-- the same of the pair, the side, the cell and the levels as the code works them out
module _ {c : List ℕ} {k cell : ℕ} {p : Pair} (g : Going c k cell p) (ne : get_or c cell 0 ≢ 0) where
  -- law: there is a level below
  pub some_left : 1 ≤ k
  some_left = let h = deep g ne in omega arith

  pub level_less : {t : ℕ} → k ≡ t → k - 1 < t
  level_less e = let h = deep g ne in omega arith

  module _ {d : List ℕ} {r : Pair} (h : Settled c (get_or c cell 0) p d r) {left : Bool} (el : left ≡ side_of k r.x) {son : ℕ} (es : son ≡ link_cell (get_or c cell 0) left) where
    goes_by : (j : ℕ) → k ≡ suc j → Going d j son r
    goes_by j e = rw (es, el, h.goes, h.cells, e) (below (rw e at g) ne)

    gone_by : {d' : List ℕ} (j : ℕ) → k ≡ suc j → Carried d j son r d' → Carried c k cell p d'
    gone_by j e q = rw e (up (rw e at g) ne (rw (es, el, h.goes, h.cells, e) at q))

    -- law: the beaten pair can go down from the son's place
    pub goes_down : Going d (k - 1) son r
    goes_down = goes_by (k - 1) (sym (back k (deep g ne)))

    -- law: where it has, p has gone down from here
    pub gone_down : {d' : List ℕ} → Carried d (k - 1) son r d' → Carried c k cell p d'
    gone_down q = gone_by (k - 1) (sym (back k (deep g ne))) q
