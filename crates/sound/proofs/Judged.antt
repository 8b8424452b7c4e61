-- The verdict, by its two tests, and the check's answer by the verdict. Nothing is assumed of the cells.
use Rattle.std.specs.Prelude.{Result, Ok, Err}
use Prim.Native.Nat.{ℕ}
use mathlib.Core.Path.{◌≡◌, refl, sym, ◌∙◌}
use mathlib.Core.Bool.{Bool, true, false}
use mathlib.Core.List.{List, []}
use Rattle.kinds.specs.declared.Refusal.{Refusal}
use Rattle.kinds.specs.declared.Refusal.TheVariants.{Length}
use Rattle.kinds.specs.Answer.{ended}
use Rattle.kinds.specs.Promise.{tested, Answers}
use Rattle.kinds.proofs.Tables.{gives, accepts}
use Rattle.kinds.proofs.Tests.{on}
use Rattle.pools.specs.Test.{is_pool, is_sound}
use Rattle.chain.specs.Judged.{verdict}
use Rattle.sound.specs.Promises.{verdict_of, check}
use Rattle.sound.proofs.Lines.{entry_passed, entry_refused}

module _ (c : List ℕ) {b : Bool} (e : b ≡ is_pool c) where
  pub length_wrong : b ≡ false → Err Length ≡ verdict_of c
  unfolding verdict_of tested
  length_wrong f = rw (sym e ∙ f) refl

  pub length_right : b ≡ true → {v : Result (Unit {0}) Refusal} → v ≡ verdict (is_sound c) → v ≡ verdict_of c
  unfolding verdict_of tested
  length_right t ev = rw (sym e ∙ t) (on (is_sound c) (λ s. rw s (rw s at ev)) (λ s. rw s (rw s at ev)))

pub check_answers : (c : List ℕ) (v : Result (Unit {0}) Refusal) → v ≡ verdict_of c → Answers (check c) c (ended v)
unfolding check
check_answers c (Ok done) e = entry_passed c e refl (accepts [] tt (gives refl refl refl))
check_answers c (Err k) e = entry_refused c e _ refl refl
