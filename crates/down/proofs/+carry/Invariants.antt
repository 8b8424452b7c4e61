-- The levels fall: where a slot with another x stands there is a level below.
use Rattle.down.proofs.+carry.Given as goal

abbrev pub decreases-carry : goal.decreases-carry
decreases-carry l = l.place.levels
