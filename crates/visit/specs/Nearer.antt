-- How the x walks choose between a slot's own pair and what was found so far.
use Rattle.std.specs.Prelude.{ℕ, ◌≡◌, Bool, cond, List, Some, None}
use Rattle.kinds.specs.declared.Pair.{Pair}
use Rattle.pools.specs.Cells.{pair_at}
use Rattle.plain.specs.Plain.{closest}
use Rattle.questions.specs.Walking.{found_at, IsLink}

-- the slot's own pair if it is a hit, unless what was found so far is closer
pub record Nearer (c : List ℕ) (closer : Pair → Pair → Bool) (hit : Bool) (slot best s : ℕ) : Type 0 where
  pub found : found_at c s ≡ closest closer (cond hit (Some (pair_at c slot)) None) (found_at c best)
  pub some : IsLink c s
