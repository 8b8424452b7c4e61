-- What set up and check mean: the check passes exactly where the pool is sound; set up leaves a sound pool with nothing stored.
use Rattle.std.specs.Prelude.{Ok}
use Prim.Native.Nat.{ℕ}
use mathlib.Core.Path.{◌≡◌, refl, ap}
use mathlib.Core.Logic.{◌↔◌}
use mathlib.Core.Bool.{true, not}
use mathlib.Core.List.{List, [], ◌∷◌}
use Rattle.kinds.specs.Answer.{finished}
use Rattle.kinds.specs.Promise.{given}
use Rattle.kinds.proofs.Tables.{none_holds}
use Rattle.kinds.proofs.Tests.{on, clash}
use Rattle.pools.specs.Cells.{slots_of, stored, fresh}
use Rattle.pools.specs.Sound.{Pool, Sound}
use Rattle.pools.specs.Test.{is_pool, is_sound}
use Rattle.pools.proofs.Decided.{pool_true, true_pool, test_sound, sound_test}
use Rattle.pools.proofs.Fresh.{fresh_sound, fresh_stored}
use Rattle.sound.specs.Promises.{length_line, sound_line, check_lines, verdict_of, set_up, check}
use Rattle.sound.proofs.Lines.{no_line, sound_verdict, verdict_sound}

module _ (c : List ℕ) where
  -- law: the line for 1 holds exactly where the length is no pool's
  pub length_line_lem : ((length_line c).when ≡ true) ↔ (Pool c → ⊥)
  length_line_lem = (
    λ h p. clash h (rw (true_pool c p)),
    λ n. on (is_pool c) (λ e. absurd (n (pool_true c e))) (λ e. rw e),
  )

  -- law: the line for 2 holds exactly where the pool is not sound
  pub sound_line_lem : ((sound_line c).when ≡ true) ↔ (Sound c → ⊥)
  sound_line_lem = (
    λ h s. clash h (rw (sound_test c s)),
    λ n. on (is_sound c) (λ e. absurd (n (test_sound c e))) (λ e. rw e),
  )

  -- law: the check passes exactly where the pool is sound
  pub check_sound : (verdict_of c ≡ Ok tt) ↔ Sound c
  check_sound = (λ h. verdict_sound c refl h, λ s. sound_verdict s)

  -- law: on a sound pool the check is done
  pub check_done : Sound c → given (check c) c [] ≡ record { answer = finished; cells = c; lent = [] }
  unfolding check
  check_done s = none_holds c [] _ (check_lines c) (no_line s)

  -- law: set up is accepted on any pool, whatever its cells hold, and leaves a fresh one
  pub set_up_done : Pool c → given (set_up c) c [] ≡ record { answer = finished; cells = fresh (slots_of c); lent = [] }
  unfolding set_up
  set_up_done p = none_holds c [] _ (length_line c ∷ []) (ap not (true_pool c p), tt)

  -- law: the pool that set up leaves is sound
  pub set_up_sound : Pool c → Sound (given (set_up c) c []).cells
  set_up_sound p = rw (set_up_done p) (fresh_sound (slots_of c) p.some p.most)

  -- law: with nothing stored
  pub set_up_stored : Pool c → stored (given (set_up c) c []).cells ≡ []
  set_up_stored p = rw (set_up_done p) (fresh_stored (slots_of c))
