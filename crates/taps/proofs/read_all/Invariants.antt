-- The invariant: the kept bytes lie within the input. Nothing is assumed.
use Prim.Native.Nat.{◌≤◌}
use lib.ListN.{length}
use Rattle.taps.proofs.read_all.Given as goal

abbrev pub invariant-loop : goal.invariant-loop
invariant-loop g l = l.kept ≤ length l.input
