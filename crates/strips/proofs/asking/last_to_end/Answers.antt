-- The check refuses, or the call on the checked pool decides. Nothing is assumed.
use mathlib.Core.Path.{refl}
use Rattle.std.proofs.lemmas.Result.{err_from_is_err_and}
use Rattle.sound.proofs.Lines.{entry_refused, entry_sound}
use Rattle.strips.proofs.asking.last_to_end.Goals as goal

pub returns-in_err-pool : goal.returns-in_err-pool
returns-in_err-pool c =
    let p = err_from_is_err_and c.from_residual.result c.from_residual.ensures.1 in
    rw (p.1, p.2) (entry_refused _ refl _ c.in_err-pool.ensures refl)

pub returns : goal.returns
returns c = rw (← c.in_ok-pool.ensures) (entry_sound c.in_ok-pool.pool.sound c.last_to_end.ensures)
