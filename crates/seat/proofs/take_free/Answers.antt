-- The stores, one after the other. It assumes that there is a free slot, and a cell for the link to it.
use Rattle.seat.proofs.Seating.{took}
use Rattle.seat.proofs.take_free.Goals as goal

pub returns : goal.returns
returns c =
    took _ _ _ _ _ _ _ _ c.first_free-slot.ensures c.right-next.ensures c.put_pair.ensures c.put_links.ensures c.put_first_free.ensures
