-- What a change on a checked pool promises besides: the pool is sound again.
use Rattle.std.specs.Prelude.{ℕ, List}
use Rattle.kinds.specs.declared.Answer.{Answer}
use Rattle.kinds.specs.Promise.{Promise, Changes}
use Rattle.pools.specs.Sound.{Sound}

-- the promise is kept, and the cells after it are a sound pool
pub record Changed (P : Promise) (c : List ℕ) (r : Answer) (c' : List ℕ) : Type 0 where
  pub keeps : Changes P c r c'
  pub sound : Sound c'
