-- The tree slots that the check tests, counted along the very recursion of its test (`fine`, `below` and `root_fine` of pools/specs/Test.antt).
use Rattle.std.specs.Prelude.{ℕ, zero, suc, ◌+◌, Bool, cond, ◌&&◌, List, eqb}
use Rattle.kinds.specs.declared.Pair.{Pair}
use Rattle.kinds.specs.Pairs.{beats}
use Rattle.stripes.specs.Stripe.{Stripe, root_stripe, left_part, right_part, low_levels}
use Rattle.pools.specs.Cells.{root_of, pair_at, left_at, right_at}
use Rattle.pools.specs.Test.{slot_fine, fine}

-- those on the left, and those on the right only where all is fine on the left
abbrev pub in_turn : Bool → ℕ → ℕ → ℕ
in_turn leftFine a b = cond leftFine (a + b) a

-- from a link down, so many levels, where the father's pair is p: a slot is tested before going below it
unfoldable pub tested : List ℕ → ℕ → Pair → ℕ → Stripe → ℕ
tested c zero p s at = cond (eqb s 0) 0 1
tested c (suc k) p s at =
    let q : Pair = pair_at c s in
    let l : ℕ = left_at c s in
    let r : ℕ = right_at c s in
    let sons : ℕ = in_turn (fine c k q l (left_part at)) (tested c k q l (left_part at)) (tested c k q r (right_part at)) in
    cond (eqb s 0) 0 (cond (slot_fine c s at && beats p q) (sons + 1) 1)

-- below a slot, so many levels
unfoldable pub tested_below : List ℕ → ℕ → ℕ → Stripe → ℕ
tested_below c k s at =
    let q : Pair = pair_at c s in
    let l : ℕ = left_at c s in
    let r : ℕ = right_at c s in
    in_turn (fine c k q l (left_part at)) (tested c k q l (left_part at)) (tested c k q r (right_part at))

-- from the root down: it has no father
unfoldable pub tested_slots : List ℕ → ℕ
tested_slots c =
    let s : ℕ = root_of c in
    cond (eqb s 0) 0 (cond (slot_fine c s root_stripe) (tested_below c low_levels s root_stripe + 1) 1)
