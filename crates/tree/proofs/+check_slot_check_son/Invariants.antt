-- A slot tests its sons, a level lower, and a son that has sons goes on at its own place.
use Prim.Native.Nat.{◌+◌, ◌*◌}
use Rattle.tree.proofs.+check_slot_check_son.Given as goal

abbrev pub decreases-check_slot : goal.decreases-check_slot
decreases-check_slot l = 2 * l.place.now.levels

abbrev pub decreases-check_son : goal.decreases-check_son
decreases-check_son l = 2 * l.son.now.levels + 1
