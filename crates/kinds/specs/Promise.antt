-- What a call promises, and how it refuses: by a table of codes, each with when it is given, in 01's order.
use Rattle.std.specs.Prelude.{ℕ, ◌≡◌, Bool, cond, List, [], ◌∷◌, ◌++◌, eqb, Result as Tried, Ok, Err}
use Rattle.kinds.specs.declared.Refusal.{Refusal}
use Rattle.kinds.specs.declared.Answer.{Answer}
use Rattle.kinds.specs.Answer.{five, refused}
use Rattle.kinds.specs.Codes.{done}

-- a line of the table: why it refuses, and when
pub record Line : Type 0 where
  pub refusal : Refusal
  pub when : Bool

-- what a call gives: its answer, the pool's cells, and the cells or bytes of the second slice, if it is lent one
pub record Result : Type 0 where
  pub answer : Answer
  pub cells : List ℕ
  pub lent : List ℕ

-- a promise: the call's lines in 01's order, and what the call gives where none of them holds
pub record Promise : Type 0 where
  pub lines : List Line
  pub made : Result

-- the first line that holds refuses, and leaves all that was lent as it stood; what no line refuses is made
unfoldable pub by_lines : List Line → (cells lent : List ℕ) → Result → Result
by_lines [] c out made = made
by_lines (l ∷ ls) c out made =
    let rest : Result = by_lines ls c out made in
    cond l.when (record { answer = refused l.refusal; cells = c; lent = out }) rest

-- what a call gives by its promise, on these cells and lent these
abbrev pub given : Promise → (cells lent : List ℕ) → Result
given P c out = by_lines P.lines c out P.made

-- a call is accepted where its code is 0
abbrev pub accepted : Result → Bool
accepted w = eqb (five w.answer).code done

-- a table alone: the first line that holds refuses
unfoldable pub tested : List Line → Tried (Unit {0}) Refusal
tested [] = Ok tt
tested (l ∷ ls) = let rest = tested ls in cond l.when (Err l.refusal) rest

-- lines that come before those of a promise
abbrev pub behind : List Line → Promise → Promise
behind ls P = record { lines = ls ++ P.lines; made = P.made }

-- the answer, by its five numbers and itself, the cells and the lent ones are what is given
pub record Gives (w : Result) (r : Answer) (c out : List ℕ) : Type 0 where
  pub numbers : five r ≡ five w.answer
  pub answer : r ≡ w.answer
  pub cells : c ≡ w.cells
  pub lent : out ≡ w.lent

-- a call keeps its promise: lent the cells c and out, it answered r and left the cells c' and out'
pub record Keeps (P : Promise) (c out : List ℕ) (r : Answer) (c' out' : List ℕ) : Type 0 where
  pub gives : Gives (given P c out) r c' out'

-- a call that may change the pool
abbrev pub Changes : Promise → (c : List ℕ) (r : Answer) (c' : List ℕ) → Type 0
Changes P c r c' = Keeps P c [] r c' []

-- a call that only asks
abbrev pub Answers : Promise → (c : List ℕ) (r : Answer) → Type 0
Answers P c r = Keeps P c [] r c []

-- a call that writes into a second slice
abbrev pub Writes : Promise → (c out : List ℕ) (r : Answer) (out' : List ℕ) → Type 0
Writes P c out r out' = Keeps P c out r c out'
