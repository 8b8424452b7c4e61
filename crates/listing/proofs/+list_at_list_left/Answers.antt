-- Each way out of a slot is one law, and completes what is listed from the place; a left son that is asked and there is walked. It assumes a place
-- that can be walked (`Walkable`), and a count within the room.
use mathlib.Core.Bool.{not}
use mathlib.Core.Path.{refl, sym, ◌∙◌}
use native.Mathlib.Omega.{arith}
use Rattle.places.specs.Places.{left_place}
use Rattle.listing.proofs.Filling.{still_fits}
use Rattle.questions.proofs.Places.{there, asked_left, one_more}
use Rattle.listing.proofs.ListWalk.{at_start, list_stop, list_own_full, list_left_full, list_both, goes_right, list_none, list_unasked}
use Rattle.listing.proofs.+list_at_list_left.Goals as goal

pub list_at-loop-here-init : goal.list_at-loop-here-init
list_at-loop-here-init t c = at_start _ _ _ _ _ _ c.requires.0 c.requires.1 c.requires.2

pub list_at-overflow_add-visits : goal.list_at-overflow_add-visits
list_at-overflow_add-visits t c = let i = c.loop-here.invariant in omega (arith, one_more _ _ _ i.one i.walkable)

pub list_at-pair-p-requires : goal.list_at-pair-p-requires
list_at-pair-p-requires t c = let i = c.loop-here.invariant in (there _ _ _ i.one i.walkable).0

pub list_at-list_own-own-requires : goal.list_at-list_own-own-requires
list_at-list_own-own-requires t c = c.loop-here.invariant.fits

pub list_at-list_left-l-requires : goal.list_at-list_left-l-requires
list_at-list_left-l-requires t c =
    let i = c.loop-here.invariant in
    let d = there _ _ _ i.one i.walkable in
    let b = i.below in
    (omega arith, (d.0, d.1, asked_left _ _ _ i.one i.walkable _ _ refl (omega arith), still_fits _ _ _ _ _ c.list_own-own.ensures _ c.room_of-room.ensures c.if-room-own.false))

pub list_at-right-right-requires : goal.list_at-right-right-requires
list_at-right-right-requires t c = let i = c.loop-here.invariant in there _ _ _ i.one i.walkable

pub list_at-loop-here-smaller : goal.list_at-loop-here-smaller
list_at-loop-here-smaller t c =
    let i = c.loop-here.invariant in
    let d = (there _ _ _ i.one i.walkable).1 in
    rw c.right-right.ensures (omega arith)

pub list_at-loop-here-preserved : goal.list_at-loop-here-preserved
list_at-loop-here-preserved t c =
    let i = c.loop-here.invariant in
    goes_right _ _ _ _ _ _ i.one i.walkable i.fits c.pair-p.ensures (omega arith) c.room_of-room.ensures c.list_own-own.ensures c.if-room-own.false c.list_left-l.ensures c.if-room-l.false i c.right-right.ensures c.goes_left.ensures c.if-goes_left.false c.if-right-eq0.false

pub list_at-returns-then-q-p : goal.list_at-returns-then-q-p
list_at-returns-then-q-p t c =
    let i = c.loop-here.invariant in
    i.onward _ _ _ (list_stop _ _ _ _ _ _ i.one i.walkable i.fits c.pair-p.ensures (omega arith))

pub list_at-returns-then-room-own : goal.list_at-returns-then-room-own
list_at-returns-then-room-own t c =
    let i = c.loop-here.invariant in
    i.onward _ _ _ (list_own_full _ _ _ _ _ _ i.one i.walkable i.fits c.pair-p.ensures (omega arith) c.room_of-room.ensures c.list_own-own.ensures c.if-room-own.true)

pub list_at-returns-then-room-l : goal.list_at-returns-then-room-l
list_at-returns-then-room-l t c =
    let i = c.loop-here.invariant in
    i.onward _ _ _ (list_left_full _ _ _ _ _ _ i.one i.walkable i.fits c.pair-p.ensures (omega arith) c.room_of-room.ensures c.list_own-own.ensures c.if-room-own.false c.list_left-l.ensures c.if-room-l.true)

pub list_at-returns-then-goes_left : goal.list_at-returns-then-goes_left
list_at-returns-then-goes_left t c =
    let i = c.loop-here.invariant in
    i.onward _ _ _ (list_both _ _ _ _ _ _ i.one i.walkable i.fits c.pair-p.ensures (omega arith) c.room_of-room.ensures c.list_own-own.ensures c.if-room-own.false c.list_left-l.ensures c.if-room-l.false refl c.goes_left.ensures (list_unasked _ _ _ _ _ _ _ (not c.goes_left.result) (rw c.if-goes_left.true refl)))

pub list_at-returns-then-right-eq0 : goal.list_at-returns-then-right-eq0
list_at-returns-then-right-eq0 t c =
    let i = c.loop-here.invariant in
    i.onward _ _ _ (list_both _ _ _ _ _ _ i.one i.walkable i.fits c.pair-p.ensures (omega arith) c.room_of-room.ensures c.list_own-own.ensures c.if-room-own.false c.list_left-l.ensures c.if-room-l.false c.right-right.ensures c.goes_left.ensures (list_none _ _ _ _ _ _ _ _ c.if-right-eq0.true))

pub list_left-returns-then-not-goes_left : goal.list_left-returns-then-not-goes_left
list_left-returns-then-not-goes_left t c =
    list_unasked _ (left_place _ c.args.place) _ _ _ _ _ _ (sym c.goes_left.ensures ∙ c.if-not-goes_left.true)

pub list_left-returns-then-left-eq0 : goal.list_left-returns-then-left-eq0
list_left-returns-then-left-eq0 t c =
    list_none _ (left_place _ c.args.place) _ _ _ _ _ _ (sym c.left.ensures ∙ c.if-left-eq0.true)
