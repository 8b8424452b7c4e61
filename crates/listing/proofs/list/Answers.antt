-- The listing from the root's place of a pool that is sound by its type: the walk's count says whether there was room for all.
use mathlib.Core.Bool.{true}
use mathlib.Core.Path.{refl}
use native.Mathlib.Omega.{arith}
use borrow.Author.Tests.{lt-ltb, le-ltb}
use Rattle.pools.proofs.Held.{sound_held}
use Rattle.questions.proofs.Top.{header, root_asked}
use Rattle.listing.proofs.ListTop.{room_fits, count_fits, list_full, list_whole}
use Rattle.listing.proofs.ListWalk.{list_none}
use Rattle.listing.proofs.list.Goals as goal

pub root-root-requires : goal.root-root-requires
root-root-requires c = header _ (sound_held c.args.pool.sound)

pub returns-then-root-eq0 : goal.returns-then-root-eq0
returns-then-root-eq0 c =
    list_whole _ (sound_held c.args.pool.sound) c.args.q _ refl c.root-root.ensures (list_none _ c.root-root.result c.args.q _ 0 0 _ true c.if-root-eq0.true) (omega arith)

pub list_at-count-requires : goal.list_at-count-requires
list_at-count-requires c = (omega (arith, c.if-root-eq0.false), rw c.root-root.ensures (root_asked _ (sound_held c.args.pool.sound)), omega arith)

pub overflow_cast-result : goal.overflow_cast-result
overflow_cast-result c =
    let z = room_fits _ (sound_held c.args.pool.sound) _ _ c.room_of-room.ensures c.root-root.ensures c.list_at-count.ensures c.if-more.true in omega arith

pub overflow_cast-result-else-more : goal.overflow_cast-result-else-more
overflow_cast-result-else-more c =
    let z = count_fits _ (sound_held c.args.pool.sound) _ _ c.room_of-room.ensures c.root-root.ensures c.list_at-count.ensures c.if-more.false in omega arith

pub returns-then-more : goal.returns-then-more
returns-then-more c =
    rw (lt-ltb _ _ c.if-more.true) (list_full _ (sound_held c.args.pool.sound) _ _ c.room_of-room.ensures c.root-root.ensures c.list_at-count.ensures c.if-more.true)

pub returns-else-more : goal.returns-else-more
returns-else-more c =
    rw (le-ltb _ _ c.if-more.false) (list_whole _ (sound_held c.args.pool.sound) _ _ c.room_of-room.ensures c.root-root.ensures c.list_at-count.ensures c.if-more.false)
