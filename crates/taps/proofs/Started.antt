-- The pool that the desk holds: set up makes its cells a sound one, whatever they held, and so they stay.
use Prim.Native.Nat.{ℕ}
use mathlib.Core.Path.{◌≡◌}
use mathlib.Core.List.{List}
use native.Mathlib.Omega.{arith}
use lib.ListN.{length}
use Rattle.kinds.specs.declared.Answer.{Answer}
use Rattle.kinds.specs.Promise.{Changes}
use Rattle.pools.specs.Sound.{Pool, Sound}
use Rattle.sound.specs.Promises.{set_up}
use Rattle.sound.proofs.Meaning.{set_up_sound}

-- 4,096 cells hold 1,023 slots
of_length : (c : List ℕ) → length c ≡ 4096 → Pool c
of_length c l = record { whole = omega (arith, l); some = omega (arith, l); most = omega (arith, l) }

-- law: set up makes them a sound pool
pub starts_sound : {c d : List ℕ} {r : Answer} → Changes (set_up c) c r d → length c ≡ 4096 → Sound d
starts_sound {c} K l = rw K.gives.cells (set_up_sound c (of_length c l))
