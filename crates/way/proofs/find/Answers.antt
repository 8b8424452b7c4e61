-- A place on the way is one of the tree, so its cell is there, and what it links to has a level below it. The pool is sound by its type.
use native.Mathlib.Omega.{arith}
use Rattle.pools.proofs.Held.{sound_held}
use Rattle.way.specs.Way.{root}
use Rattle.way.proofs.Ways.{few_levels, place_there, slot_on_way, a_level, way_on}
use borrow.Author.Rules.{rules}
use Rattle.way.proofs.find.Goals as goal

pub loop-x-init : goal.loop-x-init
loop-x-init c = root (record { from = omega arith; to = omega arith })

pub offset_bounds-pool-cell : goal.offset_bounds-pool-cell
offset_bounds-pool-cell c = let h = (place_there (sound_held c.args.pool.sound) c.loop-x.invariant).inside in search rules

pub bounds-pool-cell : goal.bounds-pool-cell
bounds-pool-cell c = (place_there (sound_held c.args.pool.sound) c.loop-x.invariant).inside

pub pair-q-requires : goal.pair-q-requires
pair-q-requires c = slot_on_way (sound_held c.args.pool.sound) c.loop-x.invariant c.if-slot-eq0.false

pub is_left-requires : goal.is_left-requires
is_left-requires c =
    (a_level (sound_held c.args.pool.sound) c.loop-x.invariant c.if-slot-eq0.false c.pair-q.ensures (omega arith), few_levels c.loop-x.invariant)

pub overflow_sub-levels : goal.overflow_sub-levels
overflow_sub-levels c =
    a_level (sound_held c.args.pool.sound) c.loop-x.invariant c.if-slot-eq0.false c.pair-q.ensures (omega arith)

pub loop-x-smaller : goal.loop-x-smaller
loop-x-smaller c = let some_left = overflow_sub-levels c in omega arith

pub loop-x-preserved : goal.loop-x-preserved
loop-x-preserved c =
    way_on (sound_held c.args.pool.sound) c.loop-x.invariant c.if-slot-eq0.false c.pair-q.ensures (omega arith) c.is_left.ensures c.link_cell-cell.ensures
