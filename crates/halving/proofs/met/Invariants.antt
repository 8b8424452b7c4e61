-- The invariant: what is met from here on is what was to be met. It assumes that the links below lead to a tree of so many levels, and a level
-- fewer is left at each turn.
use mathlib.Core.Path.{◌≡◌}
use Rattle.trees.specs.Changes.{met}
use Rattle.trees.specs.Tree.{itself}
use Rattle.places.specs.Places.{tree_here, LeadsHere}
use Rattle.halving.proofs.met.Given as goal

abbrev pub invariant-loop-here : goal.invariant-loop-here
invariant-loop-here l = record {
  leads : LeadsHere l.pool l.here;
  same : met itself l.x l.here.stripe (tree_here l.pool l.here) ≡ met itself l.x l.initial.here.stripe (tree_here l.pool l.initial.here);
}

abbrev pub decreases-loop-here : goal.decreases-loop-here
decreases-loop-here l = l.here.levels
