-- How the code prints what is done.
use Rattle.std.specs.Prelude.{ℕ, ◌≤◌, ◌≡◌, List, length, Result, Err}
use Rattle.kinds.specs.declared.Refusal.{Refusal}
use Rattle.kinds.specs.declared.Refusal.TheVariants as refusals
use Rattle.sound.specs.Promises.{verdict_of}
use Rattle.line.specs.declared.Asked.{Asked}
use Rattle.line.specs.declared.Asked.TheVariants.{Open, Close, First, Last, Covers, Malformed}
use Rattle.text.specs.Writing.{Puts}
use Rattle.lines.specs.Script.{Done}

-- what is done, printed from the first byte on within the lent bytes
pub record Prints (d : Done) (o c room o' : List ℕ) (r : ℕ) : Type 0 where
  pub cells : c ≡ d.cells
  pub listing : room ≡ d.room
  pub put : Puts o 0 d.bytes o' r
  pub within : r ≤ length o

-- what refuses a line before its call, if anything does: that it is malformed, or else the verdict on the pool
unfoldable pub refusal_of : (c : List ℕ) → Asked → Result (Unit {0}) Refusal
refusal_of c (Open start end number) = verdict_of c
refusal_of c (Close start end number) = verdict_of c
refusal_of c (First u) = verdict_of c
refusal_of c (Last u e) = verdict_of c
refusal_of c (Covers u) = verdict_of c
refusal_of c Malformed = Err refusals.Malformed
