-- How the code walks: what it has found is a slot's number, 0 where it is nothing, and the visits are counted beside it.
use Rattle.std.specs.Prelude.{ℕ, ◌+◌, ◌<◌, ◌≡◌, cond, List, eqb, Option, Some, None}
use Rattle.kinds.specs.declared.Pair.{Pair}
use Rattle.kinds.specs.declared.Walked.{Walked}
use Rattle.pools.specs.Cells.{pair_at}
use Rattle.pools.specs.Links.{Fits}
use Rattle.trees.specs.Tree.{size}
use Rattle.places.specs.declared.Place.{Place}
use Rattle.places.specs.Places.{tree_here, LeadsHere}

-- the finding that a slot's number stands for
unfoldable pub found_at : List ℕ → ℕ → Option Pair
found_at c s = cond (eqb s 0) None (Some (pair_at c s))

-- a slot's number, or 0
abbrev pub IsLink : List ℕ → ℕ → Type 0
IsLink c s = (s ≡ 0 → ⊥) → Fits c s

-- what a walk may rely on at a place, after v visits: the link leads to the tree that is read, and the visits fit 32 bits
pub record Walkable (c : List ℕ) (p : Place) (v : ℕ) : Type 0 where
  pub leads : LeadsHere c p
  pub few : v + size (tree_here c p) < 4294967296

-- the walk w was made: s is what it found, and v has become v'
pub record Made (c : List ℕ) (v : ℕ) (w : Walked) (s v' : ℕ) : Type 0 where
  pub found : found_at c s ≡ w.finding
  pub some : IsLink c s
  pub visits : v' ≡ v + w.visits
