-- What the free chain's part of the check yields.
use Rattle.std.specs.Prelude.{ℕ, ◌-◌, Bool, cond, ◌&&◌, List, leb, eqb, Result, Ok, Err}
use Rattle.kinds.specs.declared.Refusal.{Refusal}
use Rattle.kinds.specs.declared.Refusal.TheVariants.{Unsound}
use Rattle.pools.specs.Cells.{slots_of, free_of, count_of}
use Rattle.pools.specs.Test.{chain_fine}

-- it passes where all is fine; else the pool is not sound
abbrev pub verdict : Bool → Result (Unit {0}) Refusal
verdict ok = cond ok (Ok tt) (Err Unsound)

-- a tree of so many slots has as many as cell 3 says, and the free chain the remaining ones
unfoldable pub rest_verdict : List ℕ → ℕ → Result (Unit {0}) Refusal
rest_verdict c n = verdict (eqb n (count_of c) && leb (count_of c) (slots_of c) && chain_fine c (slots_of c - count_of c) (free_of c))
