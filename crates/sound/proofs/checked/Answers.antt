-- A pool that passes is sound, and else the check's refusal is handed on. Nothing is assumed.
use mathlib.Core.Path.{sym, ◌∙◌}
use Rattle.std.proofs.lemmas.Result.{err_from_is_err_and}
use Rattle.sound.proofs.Lines.{verdict_sound}
use Rattle.sound.proofs.checked.Goals as goal

pub returns-in_err-check : goal.returns-in_err-check
returns-in_err-check c =
    let p = err_from_is_err_and c.from_residual.result c.from_residual.ensures.1 in
    rw (p.1, p.2) (sym c.check.ensures.verdict ∙ c.in_err-check.was)

pub invariant_of-result : goal.invariant_of-result
invariant_of-result c = record { sound = ∣ verdict_sound _ c.check.ensures.verdict c.in_ok-check.was ∣₁ }
