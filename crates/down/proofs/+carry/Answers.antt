-- At an empty place the free slot is taken; at a slot the beaten pair goes on, to the son's place on its side. Each goal is one law of
-- Carrying.antt.
use Rattle.down.proofs.Carrying.{put_there, some_left, level_less, goes_down, gone_down}
use Rattle.down.proofs.+carry.Goals as goal

pub returns-then-slot-eq0 : goal.returns-then-slot-eq0
returns-then-slot-eq0 t c = put_there c.requires c.if-slot-eq0.true c.take_free.ensures

pub overflow_sub-son : goal.overflow_sub-son
overflow_sub-son t c = some_left c.requires c.if-slot-eq0.false

pub is_left-requires : goal.is_left-requires
is_left-requires t c = (some_left c.requires c.if-slot-eq0.false, c.requires.few)

pub carry-requires : goal.carry-requires
carry-requires t c =
    let g = c.requires in
    let some = c.if-slot-eq0.false in
    (level_less g some c.decreases, goes_down g some c.settle-beaten.ensures c.is_left.ensures c.link_cell.ensures)

pub returns : goal.returns
returns t c = gone_down c.requires c.if-slot-eq0.false c.settle-beaten.ensures c.is_left.ensures c.link_cell.ensures c.carry.ensures
