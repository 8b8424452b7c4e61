-- The invariant: what is still to be walked, after what was found so far, gives the answer. The pool is sound by its type; each turn takes away a
-- slot that is still to be walked, or a stop that waits.
use mathlib.Core.Path.{refl}
use native.Mathlib.Omega.{arith}
use Rattle.pools.proofs.Held.{sound_held}
use Rattle.nearest.proofs.AtTurn.{middle_fits, in_rows, at_end, pop, pop_less, fits, one_more, too_high_here, high_less, to_far, to_near, room_left, push, far_less, near_less, push_less, start}
use Rattle.outmost.proofs.outmost.Goals as goal

pub loop-slot-init : goal.loop-slot-init
loop-slot-init g c =
    start (g.S.Side.walk c.args.q) g.S.Side.closer _ (sound_held c.args.pool.sound) _ c.root-slot.ensures _ c.root-at.ensures _ refl _ refl

pub bounds-slots-wait : goal.bounds-slots-wait
bounds-slots-wait g c =
    omega (arith, in_rows c.loop-slot.invariant c.if-wait-eq0.false)

pub bounds-stripes-wait : goal.bounds-stripes-wait
bounds-stripes-wait g c =
    omega (arith, in_rows c.loop-slot.invariant c.if-wait-eq0.false)

pub loop-slot-smaller-then-slot-eq0 : goal.loop-slot-smaller-then-slot-eq0
loop-slot-smaller-then-slot-eq0 g c =
    pop_less c.loop-slot.invariant c.if-wait-eq0.false

pub loop-slot-preserved-then-slot-eq0 : goal.loop-slot-preserved-then-slot-eq0
loop-slot-preserved-then-slot-eq0 g c =
    pop c.loop-slot.invariant (g.met.S.Side.law c.args.q) c.if-slot-eq0.true c.if-wait-eq0.false

pub overflow_add-visits : goal.overflow_add-visits
overflow_add-visits g c =
    omega (arith, one_more c.loop-slot.invariant c.if-slot-eq0.false)

pub pair-p-requires : goal.pair-p-requires
pair-p-requires g c =
    fits c.loop-slot.invariant c.if-slot-eq0.false

pub loop-slot-smaller-then-q-p : goal.loop-slot-smaller-then-q-p
loop-slot-smaller-then-q-p g c =
    high_less c.loop-slot.invariant c.if-slot-eq0.false

pub loop-slot-preserved-then-q-p : goal.loop-slot-preserved-then-q-p
loop-slot-preserved-then-q-p g c =
    too_high_here c.loop-slot.invariant (g.met.S.Side.law c.args.q) c.if-slot-eq0.false c.pair-p.ensures c.if-q-p.true

pub closer_of-best-requires : goal.closer_of-best-requires
closer_of-best-requires g c =
    (omega (arith, c.if-slot-eq0.false), fits c.loop-slot.invariant c.if-slot-eq0.false, c.loop-slot.invariant.goes_on.some)

pub left_asked-left-requires : goal.left_asked-left-requires
left_asked-left-requires g c =
    (fits c.loop-slot.invariant c.if-slot-eq0.false, middle_fits c.loop-slot.invariant)

pub right_asked-right-requires : goal.right_asked-right-requires
right_asked-right-requires g c =
    (fits c.loop-slot.invariant c.if-slot-eq0.false, middle_fits c.loop-slot.invariant)

pub right-right_part-requires : goal.right-right_part-requires
right-right_part-requires g c =
    middle_fits c.loop-slot.invariant

pub loop-slot-smaller-then-near-eq0 : goal.loop-slot-smaller-then-near-eq0
loop-slot-smaller-then-near-eq0 g c =
    far_less c.loop-slot.invariant (g.met.S.Side.law c.args.q) c.if-slot-eq0.false c.pair-p.ensures c.if-q-p.false c.in_range-hit.ensures c.closer_of-best.ensures c.still-wait.ensures c.left_asked-left.ensures c.right_asked-right.ensures c.near-near.ensures c.far-far.ensures c.left-left_part.ensures c.right-right_part.ensures c.near-near_part.ensures c.far-far_part.ensures

pub loop-slot-preserved-then-near-eq0 : goal.loop-slot-preserved-then-near-eq0
loop-slot-preserved-then-near-eq0 g c =
    to_far c.loop-slot.invariant (g.met.S.Side.law c.args.q) c.if-slot-eq0.false c.pair-p.ensures c.if-q-p.false c.in_range-hit.ensures c.closer_of-best.ensures c.still-wait.ensures c.left_asked-left.ensures c.right_asked-right.ensures c.near-near.ensures c.far-far.ensures c.left-left_part.ensures c.right-right_part.ensures c.near-near_part.ensures c.far-far_part.ensures c.if-near-eq0.true

pub bounds-slots-wait-then-far-ne0 : goal.bounds-slots-wait-then-far-ne0
bounds-slots-wait-then-far-ne0 g c =
    let room_here = room_left c.loop-slot.invariant (g.met.S.Side.law c.args.q) c.if-slot-eq0.false c.pair-p.ensures c.if-q-p.false c.in_range-hit.ensures c.closer_of-best.ensures c.still-wait.ensures c.left_asked-left.ensures c.right_asked-right.ensures c.near-near.ensures c.far-far.ensures c.left-left_part.ensures c.right-right_part.ensures c.near-near_part.ensures c.far-far_part.ensures c.if-near-eq0.false in omega arith

pub bounds-stripes-wait-then-far-ne0 : goal.bounds-stripes-wait-then-far-ne0
bounds-stripes-wait-then-far-ne0 g c =
    let room_here = room_left c.loop-slot.invariant (g.met.S.Side.law c.args.q) c.if-slot-eq0.false c.pair-p.ensures c.if-q-p.false c.in_range-hit.ensures c.closer_of-best.ensures c.still-wait.ensures c.left_asked-left.ensures c.right_asked-right.ensures c.near-near.ensures c.far-far.ensures c.left-left_part.ensures c.right-right_part.ensures c.near-near_part.ensures c.far-far_part.ensures c.if-near-eq0.false in omega arith

pub loop-slot-smaller-then-far-ne0 : goal.loop-slot-smaller-then-far-ne0
loop-slot-smaller-then-far-ne0 g c =
    push_less c.loop-slot.invariant (g.met.S.Side.law c.args.q) c.if-slot-eq0.false c.pair-p.ensures c.if-q-p.false c.in_range-hit.ensures c.closer_of-best.ensures c.still-wait.ensures c.left_asked-left.ensures c.right_asked-right.ensures c.near-near.ensures c.far-far.ensures c.left-left_part.ensures c.right-right_part.ensures c.near-near_part.ensures c.far-far_part.ensures c.if-near-eq0.false

pub loop-slot-preserved-then-far-ne0 : goal.loop-slot-preserved-then-far-ne0
loop-slot-preserved-then-far-ne0 g c =
    push c.loop-slot.invariant (g.met.S.Side.law c.args.q) c.if-slot-eq0.false c.pair-p.ensures c.if-q-p.false c.in_range-hit.ensures c.closer_of-best.ensures c.still-wait.ensures c.left_asked-left.ensures c.right_asked-right.ensures c.near-near.ensures c.far-far.ensures c.left-left_part.ensures c.right-right_part.ensures c.near-near_part.ensures c.far-far_part.ensures c.if-near-eq0.false

pub loop-slot-smaller : goal.loop-slot-smaller
loop-slot-smaller g c =
    near_less c.loop-slot.invariant (g.met.S.Side.law c.args.q) c.if-slot-eq0.false c.pair-p.ensures c.if-q-p.false c.in_range-hit.ensures c.closer_of-best.ensures c.still-wait.ensures c.left_asked-left.ensures c.right_asked-right.ensures c.near-near.ensures c.far-far.ensures c.left-left_part.ensures c.right-right_part.ensures c.near-near_part.ensures c.far-far_part.ensures

pub loop-slot-preserved : goal.loop-slot-preserved
loop-slot-preserved g c =
    to_near c.loop-slot.invariant (g.met.S.Side.law c.args.q) c.if-slot-eq0.false c.pair-p.ensures c.if-q-p.false c.in_range-hit.ensures c.closer_of-best.ensures c.still-wait.ensures c.left_asked-left.ensures c.right_asked-right.ensures c.near-near.ensures c.far-far.ensures c.left-left_part.ensures c.right-right_part.ensures c.near-near_part.ensures c.far-far_part.ensures c.if-far-ne0.false

pub returns : goal.returns
returns g c =
    at_end c.loop-slot.invariant (g.met.S.Side.law c.args.q) c.if-slot-eq0.true c.if-wait-eq0.true c.found_at.ensures
