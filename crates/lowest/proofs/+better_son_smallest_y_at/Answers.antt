-- A slot answers for itself or by its sons, one after the other; a son that is asked is walked. It assumes that the links lead to the trees
-- that are read, and that the visits fit 32 bits.
use mathlib.Core.Path.{refl}
use native.Mathlib.Omega.{arith}
use Rattle.questions.proofs.Finding.{no_slot}
use Rattle.questions.proofs.Places.{there, asked_left, asked_right}
use Rattle.lowest.proofs.YWalk.{lower_first, lower_second, son_there, son_asked, son_unasked, own_pair, right_then, from_sons, better}
use Rattle.lowest.proofs.+better_son_smallest_y_at.Goals as goal

pub smallest_y_at-returns-then-in_range : goal.smallest_y_at-returns-then-in_range
smallest_y_at-returns-then-in_range t c =
    own_pair _ _ _ c.requires.0 c.requires.1 _ _ c.pair.ensures c.in_range.ensures c.if-in_range.true

pub smallest_y_at-returns : goal.smallest_y_at-returns
smallest_y_at-returns t c =
    from_sons _ _ _ c.requires.0 c.requires.1 _ _ c.pair.ensures c.in_range.ensures c.if-in_range.false c.better_son.ensures

pub better_son-left-requires-then-to_left : goal.better_son-left-requires-then-to_left
better_son-left-requires-then-to_left t c = there _ _ _ c.requires.0 c.requires.1.walkable

pub better_son-right-requires-then-to_right : goal.better_son-right-requires-then-to_right
better_son-right-requires-then-to_right t c = there _ _ _ c.requires.0 c.requires.1.walkable

pub better_son-right-requires-then-to_right-2 : goal.better_son-right-requires-then-to_right-2
better_son-right-requires-then-to_right-2 t c = there _ _ _ c.requires.0 c.requires.1.walkable

pub better_son-smallest_y_at-l-requires : goal.better_son-smallest_y_at-l-requires
better_son-smallest_y_at-l-requires t c =
    let d = (there _ _ _ c.requires.0 c.requires.1.walkable).1 in
    let e = c.requires.1.visited in
    let n = son_there _ _ c.asks-to_left.ensures c.if-to_left.true in
    rw c.left-then-to_left.ensures (omega arith, (omega arith, asked_left _ _ _ c.requires.0 c.requires.1.walkable _ _ refl (omega arith)))

pub better_son-smallest_y_at-r-requires : goal.better_son-smallest_y_at-r-requires
better_son-smallest_y_at-r-requires t c =
    let d = (there _ _ _ c.requires.0 c.requires.1.walkable).1 in
    let e = c.requires.1.visited in
    let n = son_there _ _ c.asks-to_right.ensures c.if-to_right.true in
    let A = son_asked _ _ c.asks-to_left.ensures c.if-to_left.true c.smallest_y_at-l.ensures in
    rw c.right-then-to_right.ensures (omega arith, (omega arith, right_then _ _ _ c.requires.0 c.requires.1.walkable _ _ (omega arith) c.left-then-to_left.ensures c.goes_left.ensures A refl))

pub better_son-returns-then-to_right : goal.better_son-returns-then-to_right
better_son-returns-then-to_right t c =
    let e = c.requires.1.visited in
    let A = son_asked _ _ c.asks-to_left.ensures c.if-to_left.true c.smallest_y_at-l.ensures in
    let B = son_asked _ _ c.asks-to_right.ensures c.if-to_right.true c.smallest_y_at-r.ensures in
    better _ _ _ c.requires.0 c.requires.1.walkable _ _ (omega arith) c.left-then-to_left.ensures c.goes_left.ensures A c.right-then-to_right.ensures c.goes_left-2.ensures B c.lower.ensures

pub better_son-returns-then-to_left : goal.better_son-returns-then-to_left
better_son-returns-then-to_left t c =
    let e = c.requires.1.visited in
    let A = son_asked _ _ c.asks-to_left.ensures c.if-to_left.true c.smallest_y_at-l.ensures in
    better _ _ _ c.requires.0 c.requires.1.walkable _ _ (omega arith) c.left-then-to_left.ensures c.goes_left.ensures A refl c.goes_left-2.ensures (son_unasked _ _ c.asks-to_right.ensures _ _ _ c.right.ensures c.if-to_right.false) (lower_first _ _ _ refl A.some)

pub better_son-smallest_y_at-requires : goal.better_son-smallest_y_at-requires
better_son-smallest_y_at-requires t c =
    let d = (there _ _ _ c.requires.0 c.requires.1.walkable).1 in
    let e = c.requires.1.visited in
    let n = son_there _ _ c.asks-to_right.ensures c.if-to_right-2.true in
    rw c.right-then-to_right-2.ensures (omega arith, (omega arith, asked_right _ _ _ c.requires.0 c.requires.1.walkable _ _ refl (omega arith)))

pub better_son-returns-then-to_right-2 : goal.better_son-returns-then-to_right-2
better_son-returns-then-to_right-2 t c =
    let e = c.requires.1.visited in
    let B = son_asked _ _ c.asks-to_right.ensures c.if-to_right-2.true c.smallest_y_at.ensures in
    better _ _ _ c.requires.0 c.requires.1.walkable _ _ (omega arith) refl c.goes_left.ensures (son_unasked _ _ c.asks-to_left.ensures _ _ _ c.left.ensures c.if-to_left.false) c.right-then-to_right-2.ensures c.goes_left-2.ensures B (lower_second _ _ _ refl B.some)

pub better_son-returns : goal.better_son-returns
better_son-returns t c =
    let e = c.requires.1.visited in
    better _ _ _ c.requires.0 c.requires.1.walkable _ _ (omega arith) refl c.goes_left.ensures (son_unasked _ _ c.asks-to_left.ensures _ _ _ c.left.ensures c.if-to_left.false) refl c.goes_left-2.ensures (son_unasked _ _ c.asks-to_right.ensures _ _ _ c.right.ensures c.if-to_right-2.false) (lower_first _ _ _ refl (no_slot _))
