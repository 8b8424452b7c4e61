-- What is told of a part of a slice. Nothing is assumed.
use Prim.Native.Nat.{ℕ, ◌≤◌}
use mathlib.Core.List.{List}
use native.Mathlib.Omega.{arith}
use lib.ListN.{length, take, length-take}

-- law: what lies within the first so many is no more than so many
pub first_within : (k n : ℕ) (o : List ℕ) → n ≤ length (take k o) → n ≤ k
first_within k n o h = let l = length-take k o in omega arith
