-- The invariant: what is still to be walked, after what was found so far, gives the answer. The pool is sound by its type; each turn takes away a
-- slot that is still to be walked, or a stop that waits.
use Rattle.pools.specs.Cells.{root_of, tree_at}
use Rattle.stripes.specs.Stripe.{all_levels, root_stripe}
use Rattle.nearest.specs.Waiting.{InRows}
use Rattle.nearest.proofs.AtTurn.{to_walk}
use Rattle.outmost.proofs.outmost.Given as goal

abbrev pub invariant-loop-slot : goal.invariant-loop-slot
invariant-loop-slot g l =
    let S = g.S.Side in
    InRows (S.walk l.q) S.closer l.pool.cells.now (S.walk l.q root_stripe (tree_at l.pool.cells.now all_levels (root_of l.pool.cells.now))) l.slots l.stripes l.wait (record { slot = l.slot; at = l.at }) l.best l.visits

abbrev pub decreases-loop-slot : goal.decreases-loop-slot
decreases-loop-slot g l = to_walk l.pool.cells.now l.slots l.stripes l.wait (record { slot = l.slot; at = l.at })
