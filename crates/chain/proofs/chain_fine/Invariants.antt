-- The invariant: the rest of the chain is as fine as the whole. Nothing is assumed; the slots that are left fall.
use Rattle.std.proofs.Common.{◌≡◌}
use Rattle.pools.specs.Test.{chain_fine}
use Rattle.chain.proofs.chain_fine.Given as goal

abbrev pub invariant-loop-left : goal.invariant-loop-left
invariant-loop-left l = chain_fine l.pool l.left l.slot ≡ chain_fine l.pool l.count l.first

abbrev pub decreases-loop-left : goal.decreases-loop-left
decreases-loop-left l = l.left
