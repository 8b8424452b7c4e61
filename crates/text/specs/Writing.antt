-- How the code prints: bytes are stored one after the other, and the place behind them is answered.
use Rattle.std.specs.Prelude.{ℕ, ◌+◌, ◌/◌, ◌%◌, ◌≡◌, List, ◌++◌, length}
use Rattle.kinds.specs.Placed.{placed}
use Rattle.line.specs.Line.{space}
use Rattle.text.specs.Text.{item}

-- the bytes vs were stored from place `at` on, and r is the place behind them
pub record Puts (o : List ℕ) (at : ℕ) (vs o' : List ℕ) (r : ℕ) : Type 0 where
  pub bytes : o' ≡ placed o at vs
  pub end : r ≡ at + length vs

-- end, number, start of the pair [x, y], and the byte behind them
abbrev pub strip_items : ℕ → ℕ → ℕ → List ℕ
strip_items x y after = item (x / 65536) space ++ (item (x % 65536) space ++ item y after)
