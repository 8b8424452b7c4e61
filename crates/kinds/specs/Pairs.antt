-- Pairs, and which of two stands higher.
use Rattle.std.specs.Prelude.{◌<◌, ◌≡◌, Bool, ◌&&◌, ◌||◌, ltb, eqb}
use Rattle.kinds.specs.declared.Pair.{Pair}

-- a pair beats another if its y is smaller, or y is equal and its x is smaller
pub data Beats (p q : Pair) : Type 0 where
  lower : p.y < q.y → Beats p q
  level : p.y ≡ q.y → p.x < q.x → Beats p q

-- the same, as a test
unfoldable pub beats : Pair → Pair → Bool
beats p q = ltb p.y q.y || (eqb p.y q.y && ltb p.x q.x)
