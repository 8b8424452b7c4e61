use mathlib.Core.Path.{◌∙◌}
use Rattle.chain.proofs.FreeChain.{free_fits, chain_ends, chain_goes_on, breaks}
use Rattle.chain.proofs.chain_fine.Goals as goal

pub returns-then-left-eq0 : goal.returns-then-left-eq0
returns-then-left-eq0 c = chain_ends _ _ _ c.if-left-eq0.true ∙ c.loop-left.invariant

pub returns-then-not-free_fine : goal.returns-then-not-free_fine
returns-then-not-free_fine c =
    breaks _ _ _ c.if-left-eq0.false c.free_fine.ensures c.if-not-free_fine.true ∙ c.loop-left.invariant

pub right-slot-requires : goal.right-slot-requires
right-slot-requires c = free_fits _ _ c.free_fine.ensures c.if-not-free_fine.false

pub loop-left-preserved : goal.loop-left-preserved
loop-left-preserved c =
    chain_goes_on _ _ _ c.if-left-eq0.false c.free_fine.ensures c.if-not-free_fine.false c.right-slot.ensures ∙ c.loop-left.invariant
