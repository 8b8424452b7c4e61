-- The slot is refused; else the walk answers, with the limits of covers. The pool is sound by its type.
use mathlib.Core.Path.{refl}
use Rattle.std.proofs.lemmas.Result.{err_from_is_err_and}
use Rattle.plain.specs.Strips.{plain_first}
use Rattle.pools.proofs.Held.{sound_held}
use Rattle.promises.specs.Promises.{first_to_end}
use Rattle.promises.proofs.Ways.{lines_refuse, lines_pass}
use Rattle.promises.proofs.Asked.{smallest_x_gives}
use Rattle.ask.proofs.first_to_end.Goals as goal

pub returns-in_err-slot : goal.returns-in_err-slot
unfolding first_to_end plain_first
returns-in_err-slot c =
    let p = err_from_is_err_and c.from_residual.result c.from_residual.ensures.1 in
    rw (p.1, p.2) (lines_refuse _ c.in_err-slot.ensures refl)

pub returns : goal.returns
unfolding first_to_end plain_first
returns c =
    let e = c.in_ok-slot.ensures in
    lines_pass _ e.0 (rw (c.covers.ensures, e.1) at (smallest_x_gives (sound_held c.args.pool.sound) _ c.smallest_x.ensures))
