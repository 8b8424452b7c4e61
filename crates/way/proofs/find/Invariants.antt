-- The invariant: the place is on the way to x. In a sound pool a slot with another x has a level below it, and a level fewer is left at
-- each turn.
use Rattle.way.specs.Way.{OnTheWay}
use Rattle.way.proofs.find.Given as goal

abbrev pub invariant-loop-x : goal.invariant-loop-x
invariant-loop-x l = OnTheWay l.pool.cells.now l.x l.levels l.cell

abbrev pub decreases-loop-x : goal.decreases-loop-x
decreases-loop-x l = l.levels
