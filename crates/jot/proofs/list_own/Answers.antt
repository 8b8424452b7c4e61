-- Each way out is one law of Own.antt: the pair is out of range, finds no room, or is written. It assumes a count within the room.
use native.Mathlib.Omega.{arith}
use Rattle.jot.proofs.Own.{own_out, own_counted, own_put}
use Rattle.jot.proofs.list_own.Goals as goal

pub returns-then-not-in_range : goal.returns-then-not-in_range
returns-then-not-in_range c =
    own_out _ _ c.args.q.x0 c.args.q.x1 c.args.p c.in_range.ensures c.if-not-in_range.true

pub returns-then-room_of-count : goal.returns-then-room_of-count
returns-then-room_of-count c =
    own_counted _ _ c.args.q.x0 c.args.q.x1 c.args.p c.in_range.ensures c.if-not-in_range.false _ c.room_of.ensures (omega arith)

pub returns : goal.returns
returns c =
    own_put _ _ c.args.q.x0 c.args.q.x1 c.args.p c.in_range.ensures c.if-not-in_range.false _ c.room_of.ensures (omega arith)
