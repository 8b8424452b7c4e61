-- The invariant: what is still to be read gives what was to be read at first. Nothing is assumed.
use Rattle.decimal.proofs.Digits.{Reads}
use Rattle.decimal.proofs.digits_in.Given as goal

abbrev pub invariant-loop-b : goal.invariant-loop-b
invariant-loop-b l = Reads l.word l.b-index l.n
