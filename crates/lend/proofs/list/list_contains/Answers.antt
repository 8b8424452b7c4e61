-- The slots are refused; else the walk lists, with the limits of contains. The pool is sound by its type.
use mathlib.Core.Path.{refl}
use Rattle.std.proofs.lemmas.Result.{err_from_is_err_and}
use Rattle.plain.specs.Books.{plain_listing}
use Rattle.plain.specs.Strips.{plain_contains}
use Rattle.promises.specs.Promises.{listing_asked, list_contains}
use Rattle.promises.proofs.Ways.{lines_refuse, lines_pass}
use Rattle.lend.proofs.list.list_contains.Goals as goal

pub returns-in_err-slots : goal.returns-in_err-slots
unfolding list_contains plain_contains
returns-in_err-slots c =
    let p = err_from_is_err_and c.from_residual.result c.from_residual.ensures.1 in
    rw (p.1, p.2) (lines_refuse _ c.in_err-slots.ensures refl)

pub returns : goal.returns
unfolding list_contains plain_contains listing_asked plain_listing
returns c =
    let e = c.in_ok-slots.ensures in
    lines_pass _ e.0 (rw (c.contains.ensures, e.1, e.2) at c.list.ensures)
