-- Set up leaves a sound pool, whatever the cells held.
use native.Mathlib.Omega.{arith}
use borrow.Author.Rules.{rules}
use Rattle.taps.proofs.Started.{starts_sound}
use Rattle.taps.proofs.main.Goals as goal

pub invariant_of-desk : goal.invariant_of-desk
invariant_of-desk c = record { sound = ∣ starts_sound c.set_up.ensures (search rules) ∣₁; within = omega arith }
