-- Three numbers, and the rows. It assumes room for what a line can print.
use Prim.Native.Nat.{◌+◌, ◌*◌, ◌/◌}
use native.Mathlib.Omega.{arith}
use lib.ListN.{length}
use Rattle.text.proofs.Printing.{room_behind}
use Rattle.prints.proofs.Putting.{listed_put}
use Rattle.prints.proofs.put_listed.Goals as goal

pub put_number-visits-requires : goal.put_number-visits-requires
put_number-visits-requires c =
    room_behind _ _ _ _ _ _ 11 c.put_number-count.ensures (omega (arith, c.requires))

pub put_number-matches-requires : goal.put_number-matches-requires
put_number-matches-requires c =
    let h = room_behind _ _ _ _ _ _ 22 c.put_number-count.ensures (omega (arith, c.requires)) in room_behind _ _ _ _ _ _ 11 c.put_number-visits.ensures (omega (arith, h))

pub put_matches-requires : goal.put_matches-requires
put_matches-requires c =
    let k = 33 * (length c.args.room.now / 2) in
    let g = room_behind _ _ _ _ _ _ (22 + k) c.put_number-count.ensures (omega (arith, c.requires)) in
    let h = room_behind _ _ _ _ _ _ (11 + k) c.put_number-visits.ensures (omega (arith, g)) in
    room_behind _ _ _ _ _ _ k c.put_number-matches.ensures (omega (arith, h))

pub returns : goal.returns
returns c =
    listed_put _ _ c.from-n.ensures _ c.put_number-count.ensures c.put_number-visits.ensures c.put_number-matches.ensures c.put_matches.ensures
