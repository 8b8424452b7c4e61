-- Backwards limits are refused; else the walk answers. The pool is sound by its type.
use mathlib.Core.Path.{refl}
use Rattle.pools.proofs.Held.{sound_held}
use Rattle.promises.proofs.Ways.{limits_backwards, limits_pass}
use Rattle.plain.specs.Books.{plain_largest_x}
use Rattle.promises.specs.Promises.{largest_x_asked}
use Rattle.promises.proofs.Asked.{largest_x_gives}
use Rattle.ask.proofs.largest_x.Goals as goal

pub returns-then-q : goal.returns-then-q
unfolding largest_x_asked plain_largest_x
returns-then-q c = limits_backwards c.args.q.x0 c.args.q.x1 c.if-q.true refl

pub returns : goal.returns
unfolding largest_x_asked plain_largest_x
returns c = limits_pass c.args.q.x0 c.args.q.x1 c.if-q.false (largest_x_gives (sound_held c.args.pool.sound) c.args.q c.largest_x.ensures)
