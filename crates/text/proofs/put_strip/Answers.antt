-- Three numbers, one behind the other. It assumes room for 33 bytes.
use native.Mathlib.Omega.{arith}
use Rattle.text.proofs.Printing.{room_behind, puts_then}
use Rattle.text.proofs.put_strip.Goals as goal

pub put_number-start-requires : goal.put_number-start-requires
put_number-start-requires c = room_behind _ _ _ _ _ _ 11 c.put_number-number.ensures (omega (arith, c.requires))

pub put_number-requires : goal.put_number-requires
put_number-requires c = let h = room_behind _ _ _ _ _ _ 22 c.put_number-number.ensures (omega (arith, c.requires)) in room_behind _ _ _ _ _ _ 11 c.put_number-start.ensures (omega (arith, h))

pub returns : goal.returns
returns c =
    puts_then c.put_number-number.ensures (puts_then c.put_number-start.ensures c.put_number.ensures)
