-- A code, and zeros beside it. Nothing is assumed.
use Rattle.told.proofs.Telling.{code_alone}
use Rattle.told.proofs.tell_ended.Goals as goal

pub returns : goal.returns
returns c = rw (c.tell_code.ensures.code, c.tell_code.ensures.array) (code_alone _ c.code_of.ensures)
