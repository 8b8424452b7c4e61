-- The soundness that a type holds. Nothing is assumed of the cells.
use Prim.Native.Nat.{ℕ}
use mathlib.Core.List.{List}
use Rattle.std.proofs.Math.Bool.{Bool-set}
use Rattle.std.proofs.Math.Logic.{∥∥₁_elim}
use Rattle.pools.specs.Sound.{Sound}
use Rattle.pools.proofs.Decided.{test_sound, sound_test}

-- law: a pool that is sound by some proof is sound: the test has one
pub sound_held : {c : List ℕ} → ∥ Sound c ∥₁ → Sound c
sound_held {c} h = test_sound c (∥∥₁_elim h (Bool-set _ _) (sound_test c))
