-- Five numbers, three of them a strip's. It assumes room for 55 bytes.
use native.Mathlib.Omega.{arith}
use Rattle.text.proofs.Printing.{room_behind, room_behind_strip}
use Rattle.prints.proofs.Putting.{found_put}
use Rattle.prints.proofs.put_found.Goals as goal

pub put_strip-visits-requires : goal.put_strip-visits-requires
put_strip-visits-requires c = room_behind _ _ _ _ _ _ 33 c.put_number-strip.ensures (omega (arith, c.requires))

pub put_number-requires : goal.put_number-requires
put_number-requires c = let h = room_behind _ _ _ _ _ _ 44 c.put_number-strip.ensures (omega (arith, c.requires)) in room_behind_strip _ _ _ _ _ _ _ 11 c.put_strip-visits.ensures (omega (arith, h))

pub returns : goal.returns
returns c =
    found_put _ _ c.from-n.ensures c.put_number-strip.ensures c.put_strip-visits.ensures c.put_number.ensures
