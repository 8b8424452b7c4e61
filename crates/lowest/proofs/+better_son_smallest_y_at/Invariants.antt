-- A slot's sons are asked behind its own visit, and a son's place has a level less than its slot's.
use Rattle.std.proofs.Common.{◌+◌, ◌*◌}
use Rattle.lowest.proofs.+better_son_smallest_y_at.Given as goal

abbrev pub decreases-smallest_y_at : goal.decreases-smallest_y_at
decreases-smallest_y_at l = 2 * l.place.levels + 1

abbrev pub decreases-better_son : goal.decreases-better_son
decreases-better_son l = 2 * l.place.levels
