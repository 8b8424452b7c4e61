-- The check's two lines, which come first in every call's table, by the verdict on its pool: where it passes the pool is sound and the call's
-- own lines decide, and else it refuses. Nothing is assumed of the cells.
use Rattle.std.specs.Prelude.{Result, Ok, Err}
use Rattle.kinds.specs.declared.Refusal.{Refusal}
use Prim.Native.Nat.{ℕ}
use mathlib.Core.Path.{◌≡◌, refl, sym, ap, ◌∙◌}
use mathlib.Core.Bool.{not}
use mathlib.Core.List.{List}
use borrow.Author.Tests.{not-false}
use Rattle.kinds.specs.declared.Answer.{Answer}
use Rattle.kinds.specs.Answer.{refused}
use Rattle.kinds.specs.Promise.{given, Promise, Keeps}
use Rattle.kinds.proofs.Tables.{NoLine, passed, none_holds, none_of, none_tested, decides, refuses_first}
use Rattle.pools.specs.Sound.{Sound}
use Rattle.pools.proofs.Decided.{true_pool, test_sound, sound_test}
use Rattle.pools.proofs.Held.{sound_held}
use Rattle.sound.specs.Promises.{check_lines, verdict_of, behind_check}

-- on a sound pool neither line holds
pub no_line : {c : List ℕ} → Sound c → NoLine (check_lines c)
no_line {c} s = (ap not (true_pool c s.pool), (ap not (sound_test c s), tt))

pub sound_verdict : {c : List ℕ} → Sound c → verdict_of c ≡ Ok tt
unfolding verdict_of
sound_verdict {c} s = none_tested (check_lines c) (no_line s)

-- law: on a sound pool, what no line of the call's own refuses is made
pub entry_made : {c : List ℕ} → Sound c → (P : Promise) (out : List ℕ) → NoLine P.lines → given (behind_check c P) c out ≡ P.made
entry_made {c} s P out n = passed c out P.made (check_lines c) P.lines (no_line s) ∙ none_holds c out P.made P.lines n

module _ (c : List ℕ) {v : Result (Unit {0}) Refusal} (e : v ≡ verdict_of c) where
  lines_off : v ≡ Ok tt → NoLine (check_lines c)
  unfolding verdict_of
  lines_off z = none_of (check_lines c) (sym e ∙ z)

  -- law: a pool that passes is sound
  pub verdict_sound : v ≡ Ok tt → Sound c
  verdict_sound z = test_sound c (not-false _ (lines_off z).1.0)

  -- an entry's ways out: the verdict refuses, or the call on the checked pool decides
  module _ {P : Promise} {out : List ℕ} {r : Answer} where
    pub entry_passed : {c' out' : List ℕ} → v ≡ Ok tt → Keeps P c out r c' out' → Keeps (behind_check c P) c out r c' out'
    entry_passed z k = decides (check_lines c) (lines_off z) k

  pub entry_refused : (P : Promise) {out : List ℕ} {r : Answer} {k : Refusal} → v ≡ Err k → r ≡ refused k → Keeps (behind_check c P) c out r c out
  unfolding verdict_of
  entry_refused P n er = refuses_first (check_lines c) P (sym e ∙ n) er

-- law: on a pool that is sound by its type the call decides
pub entry_sound : {c c' out out' : List ℕ} {P : Promise} {r : Answer} → ∥ Sound c ∥₁ → Keeps P c out r c' out' → Keeps (behind_check c P) c out r c' out'
entry_sound s k = entry_passed _ refl (sound_verdict (sound_held s)) k
