-- The levels fall: where there is a son there is a level below.
use Rattle.hole.proofs.+fill.Given as goal

abbrev pub decreases-fill : goal.decreases-fill
decreases-fill l = l.hole.levels
