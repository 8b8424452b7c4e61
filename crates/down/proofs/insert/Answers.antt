-- The pair goes down from the root, and then the count moves. It assumes a sound pool with a free slot, where x is new.
use Rattle.std.proofs.Common.{◌∙◌, arith}
use Rattle.down.proofs.Entering.{root_going, entered}
use Rattle.down.proofs.insert.Goals as goal

pub carry-requires : goal.carry-requires
carry-requires c = root_going c.requires (omega arith)

pub returns : goal.returns
returns c = c.put_count.ensures ∙ rw c.count-count.ensures (entered c.requires (omega arith) c.carry.ensures)
