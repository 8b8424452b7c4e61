-- How the code holds a pair to be compared.
use Rattle.std.specs.Prelude.{ℕ, ◌+◌, ◌*◌, ◌<◌, ◌≡◌}
use Rattle.kinds.specs.declared.Pair.{Pair}

-- the y and behind it the x, as one number
abbrev pub key_of : Pair → ℕ
key_of p = p.y * 4294967296 + p.x

-- k is the key of a pair whose x is of 32 bits: of two such keys the smaller is that of the pair that beats
pub record Keyed (p : Pair) (k : ℕ) : Type 0 where
  pub key : k ≡ key_of p
  pub low : p.x < 4294967296
