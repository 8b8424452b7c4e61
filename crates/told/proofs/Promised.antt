-- A promise to a caller in C allows one result alone: the code, the five numbers, and every lent cell or byte.
use Prim.Native.Nat.{ℕ}
use mathlib.Core.Path.{◌≡◌}
use mathlib.Core.List.{List}
use Rattle.kinds.specs.Promise.{Promise}
use Rattle.kinds.proofs.Promised.{one_answer}
use Rattle.told.specs.Told.{Tells, TellsCode}

pub one_told : {P : Promise} {b u : List ℕ} {q r : ℕ} {c d o p s t : List ℕ} → Tells P b u q c o s → Tells P b u r d p t
    → (q ≡ r) × (c ≡ d) × (o ≡ p) × (s ≡ t)
one_told h k = (
  one_answer h.answer.code k.answer.code,
  one_answer h.cells k.cells,
  one_answer h.lent k.lent,
  one_answer h.answer.array k.answer.array,
)

pub one_code : {P : Promise} {b : List ℕ} {q r : ℕ} {c d : List ℕ} → TellsCode P b q c → TellsCode P b r d → (q ≡ r) × (c ≡ d)
one_code h k = (one_answer h.code k.code, one_answer h.cells k.cells)
