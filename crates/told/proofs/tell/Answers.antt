-- The array holds the answer's numbers side by side. Nothing is assumed.
use Rattle.told.proofs.Telling.{all_told}
use Rattle.told.proofs.tell.Goals as goal

pub returns : goal.returns
returns c = all_told _ c.from-n.ensures
