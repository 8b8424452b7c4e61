-- Values stored one after the other from a place on: some and then the rest are all of them. Only the law on what is stored from the start
-- assumes room.
use Prim.Native.Nat.{ℕ, suc, ◌+◌, ◌≤◌}
use mathlib.Core.Path.{◌≡◌, ap, ◌∙◌}
use mathlib.Core.List.{List, [], ◌∷◌, ◌++◌}
use native.Mathlib.Omega.{arith}
use lib.ListN.{length, set, drop}
use lib.Seq.{length-sets, sets-eq}
use Rattle.kinds.specs.Placed.{placed}

-- law: no length changes
pub length_placed : (o : List ℕ) (at : ℕ) (vs : List ℕ) → length (placed o at vs) ≡ length o
unfolding placed
length_placed o at vs = length-sets o at vs

-- law: some, and the rest behind them
pub placed_append : (o : List ℕ) (at : ℕ) (vs ws : List ℕ) → placed o at (vs ++ ws) ≡ placed (placed o at vs) (at + length vs) ws
unfolding placed
placed_append o at [] ws = let z : at + 0 ≡ at = omega arith in rw z
placed_append o at (v ∷ vs) ws =
    let z : at + suc (length vs) ≡ suc at + length vs = omega arith in
    rw z (placed_append (set o at v) (suc at) vs ws)

-- law: from the start on, what is beyond them stays
pub placed_start : (o vs : List ℕ) → length vs ≤ length o → placed o 0 vs ≡ vs ++ drop (length vs) o
unfolding placed
placed_start o vs h = let z : 0 + length vs ≡ length vs = omega arith in sets-eq vs o 0 (omega arith) ∙ ap (λ k. vs ++ drop k o) z
