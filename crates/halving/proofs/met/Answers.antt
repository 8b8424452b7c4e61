-- The invariant: what is met from here on is what was to be met. It assumes that the links below lead to a tree of so many levels, and a level
-- fewer is left at each turn.
use mathlib.Core.Path.{◌∙◌}
use native.Mathlib.Omega.{arith}
use Rattle.places.proofs.Here.{goes_down, level_lower, leads_towards}
use Rattle.halving.proofs.Searching.{ends_here, hit, search_goes_on}
use Rattle.halving.proofs.met.Goals as goal

pub towards-here-requires : goal.towards-here-requires
towards-here-requires c = goes_down _ c.loop-here.here c.loop-here.invariant.leads c.loop-here-test.true

pub loop-here-smaller : goal.loop-here-smaller
loop-here-smaller c =
    let below = (goes_down _ c.loop-here.here c.loop-here.invariant.leads c.loop-here-test.true).1 in
    let lower = level_lower _ _ _ c.towards-here.ensures in
    omega arith

pub loop-here-preserved : goal.loop-here-preserved
loop-here-preserved c =
    let turn = c.loop-here.invariant in
    let other = rw c.pair-p.ensures at c.if-p-x.false in
    record {
      leads = rw c.towards-here.ensures (leads_towards _ _ turn.leads c.loop-here-test.true _);
      same = search_goes_on _ _ _ turn.leads c.loop-here-test.true other c.towards-here.ensures ∙ turn.same;
    }

pub returns-then-p-x : goal.returns-then-p-x
returns-then-p-x c =
    let turn = c.loop-here.invariant in
    hit _ _ _ turn.leads c.loop-here-test.true (rw c.pair-p.ensures at c.if-p-x.true) ∙ turn.same

pub returns : goal.returns
returns c = ends_here _ _ _ c.loop-here-test.false ∙ c.loop-here.invariant.same
