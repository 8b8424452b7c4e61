-- Backwards limits are refused; else the walk lists. The pool is sound by its type.
use mathlib.Core.Path.{refl}
use Rattle.promises.proofs.Ways.{limits_backwards, limits_pass}
use Rattle.plain.specs.Books.{plain_listing}
use Rattle.promises.specs.Promises.{listing_asked}
use Rattle.lend.proofs.list.listing.Goals as goal

pub returns-then-q : goal.returns-then-q
unfolding listing_asked plain_listing
returns-then-q c = limits_backwards c.args.q.x0 c.args.q.x1 c.if-q.true refl

pub returns : goal.returns
unfolding listing_asked plain_listing
returns c = limits_pass c.args.q.x0 c.args.q.x1 c.if-q.false c.list.ensures
