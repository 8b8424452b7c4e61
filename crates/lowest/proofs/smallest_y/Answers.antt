-- Without a root nothing is found; else the walk from the root's place answers. The pool is sound by its type.
use mathlib.Core.Bool.{true}
use mathlib.Core.Path.{refl, sym}
use native.Mathlib.Omega.{arith}
use Rattle.walks.specs.Walks.{smallest_y}
use Rattle.pools.proofs.Held.{sound_held}
use Rattle.questions.proofs.Finding.{found_none}
use Rattle.questions.proofs.Sons.{none_there}
use Rattle.questions.proofs.Top.{header, root_asked, walked}
use Rattle.lowest.proofs.YWalk.{smallest_y_empty}
use Rattle.lowest.proofs.smallest_y.Goals as goal

pub root-root-requires : goal.root-root-requires
root-root-requires c = header _ (sound_held c.args.pool.sound)

pub returns-then-root-eq0 : goal.returns-then-root-eq0
returns-then-root-eq0 c =
    rw c.root-root.ensures at (walked _ _ 0 0 _ (none_there (smallest_y c.args.x0 c.args.x1 c.root-root.result.stripe) (smallest_y_empty _ _ _) c.args.pool.cells.now c.root-root.result _ true c.if-root-eq0.true) (sym (found_none _ 0 refl)))

pub smallest_y_at-slot-requires : goal.smallest_y_at-slot-requires
smallest_y_at-slot-requires c = (omega (arith, c.if-root-eq0.false), rw c.root-root.ensures (root_asked _ (sound_held c.args.pool.sound)))

pub found_at-requires : goal.found_at-requires
found_at-requires c = c.smallest_y_at-slot.ensures.some

pub returns : goal.returns
returns c = walked _ _ _ _ _ (rw c.root-root.ensures at c.smallest_y_at-slot.ensures) c.found_at.ensures
