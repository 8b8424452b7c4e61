-- What a caller in C is told: an answer as numbers, and what a call leaves in the slices that it was lent.
use Rattle.std.specs.Prelude.{ℕ, ◌≡◌, List, [], ◌∷◌}
use Rattle.kinds.specs.declared.Answer.{Answer}
use Rattle.kinds.specs.Answer.{five}
use Rattle.kinds.specs.Promise.{Promise, given}

-- the code of an answer
unfoldable pub code_of : Answer → ℕ
code_of a = (five a).code

-- the five numbers of an answer, in the order of the array that is lent for them
unfoldable pub array_of : Answer → List ℕ
array_of a = (five a).code ∷ (five a).x ∷ (five a).y ∷ (five a).count ∷ (five a).visits ∷ []

-- an answer's code, and the array that holds its five numbers
pub record Numbered (a : Answer) (told : List ℕ) (r : ℕ) : Type 0 where
  pub code : r ≡ code_of a
  pub array : told ≡ array_of a

-- a call that is lent an array keeps its promise: the code and the five numbers of the promised answer, the promised cells, and the promised lent ones
pub record Tells (P : Promise) (c out : List ℕ) (r : ℕ) (c' out' told : List ℕ) : Type 0 where
  pub answer : Numbered (given P c out).answer told r
  pub cells : c' ≡ (given P c out).cells
  pub lent : out' ≡ (given P c out).lent

-- a call that gives its code alone
pub record TellsCode (P : Promise) (c : List ℕ) (r : ℕ) (c' : List ℕ) : Type 0 where
  pub code : r ≡ code_of (given P c []).answer
  pub cells : c' ≡ (given P c []).cells
