-- The slots are refused; else the walk answers, with the limits of last. The pool is sound by its type.
use mathlib.Core.Path.{refl}
use Rattle.std.proofs.lemmas.Result.{err_from_is_err_and}
use Rattle.plain.specs.Strips.{plain_earliest}
use Rattle.pools.proofs.Held.{sound_held}
use Rattle.promises.specs.Promises.{earliest_start}
use Rattle.promises.proofs.Ways.{lines_refuse, lines_pass}
use Rattle.promises.proofs.Asked.{smallest_y_gives}
use Rattle.ask.proofs.earliest_start.Goals as goal

pub returns-in_err-slots : goal.returns-in_err-slots
unfolding earliest_start plain_earliest
returns-in_err-slots c =
    let p = err_from_is_err_and c.from_residual.result c.from_residual.ensures.1 in
    rw (p.1, p.2) (lines_refuse _ c.in_err-slots.ensures refl)

pub returns : goal.returns
unfolding earliest_start plain_earliest
returns c =
    let e = c.in_ok-slots.ensures in
    lines_pass _ e.0 (rw (c.last-q.ensures, e.1, e.2) at (smallest_y_gives (sound_held c.args.pool.sound) _ _ c.smallest_y.ensures))
