-- The slot is refused; else the walk lists, with the limits of covers. The pool is sound by its type.
use mathlib.Core.Path.{refl}
use Rattle.std.proofs.lemmas.Result.{err_from_is_err_and}
use Rattle.plain.specs.Books.{plain_listing}
use Rattle.plain.specs.Strips.{plain_covers}
use Rattle.promises.specs.Promises.{listing_asked, list_covers}
use Rattle.promises.proofs.Ways.{lines_refuse, lines_pass}
use Rattle.lend.proofs.list.list_covers.Goals as goal

pub returns-in_err-slot : goal.returns-in_err-slot
unfolding list_covers plain_covers
returns-in_err-slot c =
    let p = err_from_is_err_and c.from_residual.result c.from_residual.ensures.1 in
    rw (p.1, p.2) (lines_refuse _ c.in_err-slot.ensures refl)

pub returns : goal.returns
unfolding list_covers plain_covers listing_asked plain_listing
returns c =
    let e = c.in_ok-slot.ensures in
    lines_pass _ e.0 (rw (c.covers.ensures, e.1) at c.list.ensures)
