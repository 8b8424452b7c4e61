-- The check refuses, or the call on the checked pool decides. Nothing is assumed.
use mathlib.Core.Path.{refl}
use Rattle.std.proofs.lemmas.Result.{err_from_is_err_and}
use Rattle.sound.proofs.Lines.{verdict_sound, entry_passed, entry_refused}
use Rattle.pool.proofs.changing.delete.Goals as goal

pub returns-in_err-check : goal.returns-in_err-check
returns-in_err-check c =
    let p = err_from_is_err_and c.from_residual.result c.from_residual.ensures.1 in
    rw (p.1, p.2) (entry_refused _ c.check.ensures.verdict _ c.in_err-check.was refl)

pub delete-requires : goal.delete-requires
delete-requires c = verdict_sound _ c.check.ensures.verdict c.in_ok-check.was

pub returns : goal.returns
returns c = entry_passed _ c.check.ensures.verdict c.in_ok-check.was c.delete.ensures.keeps
