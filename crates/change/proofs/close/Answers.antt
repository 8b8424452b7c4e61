-- The strip's numbers refuse; else its pair is deleted. It assumes a sound pool.
use Rattle.std.proofs.lemmas.Result.{err_from_is_err_and}
use Rattle.change.proofs.Changed.{close_refused, close_made}
use Rattle.change.proofs.close.Goals as goal

pub returns-in_err-strip : goal.returns-in_err-strip
returns-in_err-strip c =
    let p = err_from_is_err_and c.from_residual.result c.from_residual.ensures.1 in
    rw (p.1, p.2) (close_refused _ _ _ _ c.requires c.in_err-strip.ensures)

pub returns : goal.returns
returns c =
    let e = c.in_ok-strip.ensures in
    close_made _ _ _ _ e.0 (rw (c.pair.ensures, e.1, e.2, e.3) at c.delete.ensures)
