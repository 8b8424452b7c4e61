-- The invariant: what is still to be chained, done, gives what was to be chained at first. It assumes that the length is a pool's.
use mathlib.Core.Path.{◌∙◌}
use native.Mathlib.Omega.{arith}
use Rattle.fresh.proofs.Chaining.{turn, last_chained, whole_chain}
use Rattle.fresh.proofs.write_fresh.Goals as goal

pub loop-slot-preserved : goal.loop-slot-preserved
loop-slot-preserved c = record {
  whole = c.put_free.auto.pool ∙ c.loop-slot.invariant.whole;
  chain = turn _ _ _ _ c.loop-slot-test.true c.put_free.ensures ∙ c.loop-slot.invariant.chain;
}

pub returns : goal.returns
returns c =
    last_chained _ _ _ _ (omega arith) c.put_free-2.ensures ∙ c.loop-slot.invariant.chain ∙ whole_chain _ _ c.requires c.put_header.ensures
