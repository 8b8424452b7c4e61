-- The invariant: what is answered lies within the input. Nothing is assumed; each turn answers a line.
use Prim.Native.Nat.{◌-◌, ◌≤◌}
use lib.ListN.{length}
use Rattle.taps.proofs.Desk.answer_lines.Given as goal

abbrev pub invariant-loop-length : goal.invariant-loop-length
invariant-loop-length g l = l.from ≤ length l.input

abbrev pub decreases-loop-length : goal.decreases-loop-length
decreases-loop-length g l = length l.input - l.from
