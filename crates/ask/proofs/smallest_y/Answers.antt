-- Backwards limits are refused; else the walk answers. The pool is sound by its type.
use mathlib.Core.Path.{refl}
use Rattle.pools.proofs.Held.{sound_held}
use Rattle.promises.proofs.Ways.{limits_backwards, limits_pass}
use Rattle.plain.specs.Books.{plain_smallest_y}
use Rattle.promises.specs.Promises.{smallest_y_asked}
use Rattle.promises.proofs.Asked.{smallest_y_gives}
use Rattle.ask.proofs.smallest_y.Goals as goal

pub returns-then-x1-x0 : goal.returns-then-x1-x0
unfolding smallest_y_asked plain_smallest_y
returns-then-x1-x0 c = limits_backwards c.args.x0 c.args.x1 c.if-x1-x0.true refl

pub returns : goal.returns
unfolding smallest_y_asked plain_smallest_y
returns c = limits_pass c.args.x0 c.args.x1 c.if-x1-x0.false (smallest_y_gives (sound_held c.args.pool.sound) c.args.x0 c.args.x1 c.smallest_y.ensures)
