-- The test picks the pair that stays. It assumes that the slot's cells are there.
use Rattle.seat.proofs.Seating.{settle_swap, settle_keep}
use Rattle.seat.proofs.settle.Goals as goal

pub returns-then-beats : goal.returns-then-beats
returns-then-beats c =
    settle_swap c.pair-met.ensures c.beats.ensures c.if-beats.true c.put_pair.ensures

pub returns : goal.returns
returns c =
    settle_keep c.pair-met.ensures c.beats.ensures c.if-beats.false
