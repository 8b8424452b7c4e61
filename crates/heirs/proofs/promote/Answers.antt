-- The heir's pair moves up. It assumes that the cells of both slots are there, and that of the link.
use Rattle.heirs.specs.Heirs.{promoted}
use Rattle.heirs.proofs.promote.Goals as goal

pub returns : goal.returns
unfolding promoted
returns c =
    rw c.pair-q.ensures at c.put_pair.ensures
