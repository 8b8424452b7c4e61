-- The invariant: what is still to be chained, done, gives what was to be chained at first. It assumes that the length is a pool's.
use Prim.Native.Nat.{suc, ◌+◌, ◌*◌, ◌-◌}
use mathlib.Core.Path.{◌≡◌}
use lib.ListN.{length}
use Rattle.pools.specs.Cells.{per_slot}
use Rattle.pools.proofs.Fresh.{chained}
use Rattle.fresh.proofs.write_fresh.Given as goal

abbrev pub invariant-loop-slot : goal.invariant-loop-slot
invariant-loop-slot l = record {
  whole : length l.pool ≡ per_slot * (l.n + 1);
  chain : chained l.pool l.slot (suc (l.n - l.slot)) ≡ chained l.initial.pool l.initial.slot (suc (l.n - l.initial.slot));
}
