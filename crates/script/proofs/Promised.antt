-- The promise of a line allows one result alone: the pool's cells, the listing room, the output's bytes and how many of them are told.
use Prim.Native.Nat.{ℕ}
use mathlib.Core.Path.{◌≡◌}
use mathlib.Core.List.{List}
use Rattle.kinds.proofs.Promised.{one_answer}
use Rattle.std.specs.Prelude.{Option}
use Rattle.lines.specs.Script.{After, LineKept}

pub one_line : {w : After} {c d o p s t : List ℕ} {q r : Option ℕ} → LineKept w c o s q → LineKept w d p t r → (c ≡ d) × (o ≡ p) × (s ≡ t) × (q ≡ r)
one_line h k = (one_answer h.cells k.cells, one_answer h.room k.room, one_answer h.text k.text, one_answer h.told k.told)
