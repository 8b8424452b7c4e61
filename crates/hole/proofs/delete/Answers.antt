-- Each way out is one law of Deletion.antt, about what the search met: the place is empty, holds another y, or holds the pair. It assumes
-- a sound pool.
use Rattle.std.proofs.Common.{arith}
use Rattle.way.proofs.Ways.{place_there, slot_on_way}
use Rattle.hole.proofs.Deletion.{ends_missing, hole_there, ends_other, some_counted, ends_done}
use borrow.Author.Rules.{rules}
use Rattle.hole.proofs.delete.Goals as goal

pub offset_bounds-pool-end : goal.offset_bounds-pool-end
offset_bounds-pool-end c = let inside = (place_there c.requires c.find-end.ensures.way).inside in search rules

pub bounds-pool-end : goal.bounds-pool-end
bounds-pool-end c = (place_there c.requires c.find-end.ensures.way).inside

pub returns-then-slot-eq0 : goal.returns-then-slot-eq0
returns-then-slot-eq0 c = ends_missing c.requires c.args.p c.find-end.ensures c.if-slot-eq0.true

pub pair-q-requires : goal.pair-q-requires
pair-q-requires c = slot_on_way c.requires c.find-end.ensures.way c.if-slot-eq0.false

pub returns-then-q-p : goal.returns-then-q-p
returns-then-q-p c = ends_other c.requires c.args.p c.find-end.ensures c.if-slot-eq0.false c.pair-q.ensures (omega arith)

pub fill-requires : goal.fill-requires
fill-requires c = hole_there c.requires c.find-end.ensures c.if-slot-eq0.false

pub overflow_sub-left : goal.overflow_sub-left
overflow_sub-left c =
    let some = some_counted c.requires c.args.p c.find-end.ensures c.if-slot-eq0.false c.pair-q.ensures (omega arith) c.fill.ensures c.count-left.ensures in
    omega arith

pub returns : goal.returns
returns c =
    ends_done c.requires c.args.p c.find-end.ensures c.if-slot-eq0.false c.pair-q.ensures (omega arith) c.fill.ensures c.count-left.ensures c.put_count.ensures
