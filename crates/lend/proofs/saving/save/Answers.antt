-- Each way out is one law of Saved.antt: too few bytes, or the head and the pairs are written. The pool is sound by its type.
use mathlib.Core.Path.{refl}
use native.Mathlib.Omega.{arith}
use Rattle.pools.proofs.Held.{sound_held}
use Rattle.lend.proofs.Saved.{too_short, still_room, all_saved}
use Rattle.lend.proofs.saving.save.Goals as goal

pub returns-then-bytes-count : goal.returns-then-bytes-count
returns-then-bytes-count c =
    too_short _ _ (sound_held c.args.pool.sound) _ c.count-count.ensures (omega arith) refl

pub put_pairs-requires : goal.put_pairs-requires
put_pairs-requires c =
    let s = sound_held c.args.pool.sound in
    (s, still_room _ _ s _ c.count-count.ensures (omega arith) _ c.put_head.ensures)

pub returns : goal.returns
returns c =
    all_saved _ _ (sound_held c.args.pool.sound) _ c.count-count.ensures (omega arith) _ c.put_head.ensures _ c.put_pairs.ensures refl
