-- The slots are refused; else the walk answers, with the limits of last. The pool is sound by its type.
use mathlib.Core.Path.{refl}
use Rattle.std.proofs.lemmas.Result.{err_from_is_err_and}
use Rattle.plain.specs.Strips.{plain_last}
use Rattle.pools.proofs.Held.{sound_held}
use Rattle.promises.specs.Promises.{last_to_end}
use Rattle.promises.proofs.Ways.{lines_refuse, lines_pass}
use Rattle.promises.proofs.Asked.{largest_x_gives}
use Rattle.ask.proofs.last_to_end.Goals as goal

pub returns-in_err-slots : goal.returns-in_err-slots
unfolding last_to_end plain_last
returns-in_err-slots c =
    let p = err_from_is_err_and c.from_residual.result c.from_residual.ensures.1 in
    rw (p.1, p.2) (lines_refuse _ c.in_err-slots.ensures refl)

pub returns : goal.returns
unfolding last_to_end plain_last
returns c =
    let e = c.in_ok-slots.ensures in
    lines_pass _ e.0 (rw (c.last.ensures, e.1, e.2) at (largest_x_gives (sound_held c.args.pool.sound) _ c.largest_x.ensures))
