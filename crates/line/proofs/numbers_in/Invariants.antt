-- The invariant: the numbers so far and those that are left are those of the text. Nothing is assumed.
use Rattle.line.proofs.Words.{Gathers}
use Rattle.line.proofs.numbers_in.Given as goal

abbrev pub invariant-loop-number : goal.invariant-loop-number
invariant-loop-number g l = Gathers g.row.N l.text l.number-items l.rest l.number-index
