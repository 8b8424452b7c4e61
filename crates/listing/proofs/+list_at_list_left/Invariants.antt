-- The invariant: what is still listed from the slot that is gone down to completes the listing from the place. Each turn goes a level down, and a
-- left son's place has a level less than its slot's.
use Rattle.std.proofs.Common.{◌+◌, ◌*◌}
use Rattle.listing.proofs.ListWalk.{Completes}
use Rattle.listing.proofs.+list_at_list_left.Given as goal

abbrev pub decreases-list_at : goal.decreases-list_at
decreases-list_at l = 2 * l.place.levels + 1

abbrev pub decreases-list_left : goal.decreases-list_left
decreases-list_left l = 2 * l.place.levels

abbrev pub invariant-list_at-loop-here : goal.invariant-list_at-loop-here
invariant-list_at-loop-here l = Completes l.pool l.q l.fn.place l.fn.out l.fn.count l.fn.visits l.here l.out l.listed l.visits

abbrev pub decreases-list_at-loop-here : goal.decreases-list_at-loop-here
decreases-list_at-loop-here l = l.here.levels
