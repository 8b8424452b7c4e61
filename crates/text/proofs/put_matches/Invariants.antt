-- The invariant: the rows so far are put, and there is room for those to come. It assumes room for 33 bytes a match.
use Rattle.text.proofs.Printing.{Rows}
use Rattle.text.proofs.put_matches.Given as goal

abbrev pub invariant-loop-x : goal.invariant-loop-x
invariant-loop-x l = Rows l.initial.text l.at l.x-items l.text l.to l.x-index
