-- A slot is met exactly where x is stored. It assumes a sound pool.
use Rattle.way.proofs.Ways.{place_there, stored_met}
use borrow.Author.Rules.{rules}
use Rattle.down.proofs.is_stored.Goals as goal

pub offset_bounds-pool-end : goal.offset_bounds-pool-end
offset_bounds-pool-end c = let inside = (place_there c.requires c.find-end.ensures.way).inside in search rules

pub bounds-pool-end : goal.bounds-pool-end
bounds-pool-end c = (place_there c.requires c.find-end.ensures.way).inside

pub returns : goal.returns
returns c = stored_met c.requires c.find-end.ensures
