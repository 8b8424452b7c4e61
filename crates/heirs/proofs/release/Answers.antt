-- A slot is given up, by one store after the other. It assumes that its cells are there, and that of the link.
use Rattle.heirs.proofs.Finding.{released_by}
use Rattle.heirs.proofs.release.Goals as goal

pub returns : goal.returns
returns c =
    released_by _ _ _ c.first_free-next.ensures c.put_free.ensures c.put_first_free.ensures
