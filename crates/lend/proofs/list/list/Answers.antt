-- What the walk lists, the answer says. The pool is sound by its type.
use Rattle.pools.proofs.Held.{sound_held}
use Rattle.lend.proofs.Listed.{listing_gives}
use Rattle.lend.proofs.list.list.Goals as goal

pub returns : goal.returns
returns c =
    listing_gives (sound_held c.args.pool.sound) _ _ _ c.list-l.ensures
