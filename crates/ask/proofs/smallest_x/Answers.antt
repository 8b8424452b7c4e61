-- Backwards limits are refused; else the walk answers. The pool is sound by its type.
use mathlib.Core.Path.{refl}
use Rattle.pools.proofs.Held.{sound_held}
use Rattle.promises.proofs.Ways.{limits_backwards, limits_pass}
use Rattle.plain.specs.Books.{plain_smallest_x}
use Rattle.promises.specs.Promises.{smallest_x_asked}
use Rattle.promises.proofs.Asked.{smallest_x_gives}
use Rattle.ask.proofs.smallest_x.Goals as goal

pub returns-then-q : goal.returns-then-q
unfolding smallest_x_asked plain_smallest_x
returns-then-q c = limits_backwards c.args.q.x0 c.args.q.x1 c.if-q.true refl

pub returns : goal.returns
unfolding smallest_x_asked plain_smallest_x
returns c = limits_pass c.args.q.x0 c.args.q.x1 c.if-q.false (smallest_x_gives (sound_held c.args.pool.sound) c.args.q c.smallest_x.ensures)
