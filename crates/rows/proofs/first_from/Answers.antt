-- What the walk finds is what a scan finds.
use Rattle.pools.proofs.Held.{sound_held}
use Rattle.rows.proofs.Next.{walk_finds}
use Rattle.rows.proofs.first_from.Goals as goal

pub returns : goal.returns
returns c = walk_finds _ (sound_held c.args.pool.sound) _ c.smallest_x.ensures
