-- The code is that of the answer's numbers. Nothing is assumed.
use Rattle.told.proofs.Telling.{code_told}
use Rattle.told.proofs.code_of.Goals as goal

pub returns : goal.returns
returns c = code_told _ c.from.ensures
