-- At an empty place the first free slot is taken: it holds the pair with links 0, the place leads to it, and nothing else changes but the
-- first free slot. It assumes that the free slot does not have the place's cell.
use Prim.Native.Nat.{ℕ, ◌/◌}
use mathlib.Core.Path.{◌≡◌, sym, ◌∙◌}
use mathlib.Core.Logic.{◌≢◌}
use mathlib.Core.List.{List}
use native.Mathlib.Omega.{arith}
use lib.ListN.{length, get_or, set, length-set}
use lib.Seq.{get_or-set_same, get_or-set_other}
use Rattle.kinds.specs.declared.Pair.{Pair}
use Rattle.trees.specs.Tree.{none, fork}
use Rattle.trees.specs.Standing.{at_top}
use Rattle.pools.specs.Cells.{per_slot, free_of, right_at}
use Rattle.pools.specs.Sound.{nowhere}
use Rattle.pools.proofs.Agreement.{SlotHolds, holds_agree, same_slot, slot_as, slot_fits, put_slot, slot_wrote, slot_read}
use Rattle.way.specs.Way.{Replaced}
use Rattle.way.proofs.Links.{agree_cells, agree_get}
use Rattle.seat.specs.Seat.{Room, free_taken}

module _ {c : List ℕ} {cell : ℕ} (p : Pair) (r : Room c cell) (away : cell / per_slot ≢ free_of c) (other : cell ≢ 2) where
  abbrev f : ℕ
  f = free_of c

  abbrev slotted : List ℕ
  slotted = put_slot c f p 0 0

  abbrev headed : List ℕ
  headed = set slotted 2 (right_at c f)

  taken_long : length (free_taken c cell p) ≡ length c
  unfolding free_taken
  taken_long = length-set headed cell f ∙ length-set slotted 2 (right_at c f) ∙ (slot_wrote c f p 0 0).long

  taken_else : (j : ℕ) → j ≢ cell → j ≢ 2 → get_or (free_taken c cell p) j 0 ≡ get_or slotted j 0
  unfolding free_taken
  taken_else j n i = get_or-set_other headed cell j f 0 n ∙ get_or-set_other slotted 2 j (right_at c f) 0 i

  taken_slot : SlotHolds (free_taken c cell p) f p 0 0
  taken_slot =
      let some = r.slot.some in
      holds_agree (slot_read c f p 0 0 (slot_fits r.slot)) (agree_cells f (λ j e. taken_else j (λ i. away (omega arith)) (λ i. omega arith)))

  taken_link : get_or (free_taken c cell p) cell 0 ≡ f
  unfolding free_taken
  taken_link =
      let a = length-set slotted 2 (right_at c f) in
      let b = (slot_wrote c f p 0 0).long in
      let i = r.inside in
      get_or-set_same headed cell f 0 (omega arith)

  -- law: the next free slot is the first
  pub taken_first : free_of (free_taken c cell p) ≡ right_at c f
  unfolding free_taken
  taken_first =
      let b = (slot_wrote c f p 0 0).long in
      let o = slot_fits r.slot in
      get_or-set_other headed cell 2 f 0 (λ e. other (sym e)) ∙ get_or-set_same slotted 2 (right_at c f) 0 (omega arith)

  -- law: the place holds the slot
  pub taken_replaced : Replaced c cell (fork f p none none) (fork f p none none) (free_taken c cell p)
  taken_replaced =
      let H = taken_slot in
      record {
        long = taken_long;
        link = taken_link;
        leads = slot_as (same_slot taken_long r.slot) H.pair H.left H.right nowhere nowhere;
        rest = λ j n i m. taken_else j n i ∙ agree_get j ((slot_wrote c f p 0 0).rest (j / per_slot) (λ e. m (at_top e)));
      }
