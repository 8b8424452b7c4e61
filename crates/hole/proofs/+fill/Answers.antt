-- A slot with no sons is given up; else the heir's pair moves up, and the hole goes on to its place. Each goal is one law of Filling.antt.
use Rattle.std.proofs.Common.{arith}
use Rattle.hole.proofs.Filling.{hole_sons, last_freed, promotes, deeper, next_hole, next_freed}
use Rattle.hole.proofs.+fill.Goals as goal

pub heir-requires : goal.heir-requires
heir-requires t c = hole_sons c.requires

pub returns-in_default : goal.returns-in_default
returns-in_default t c = last_freed c.requires c.in_default.ensures c.release.ensures

pub promote-requires : goal.promote-requires
promote-requires t c = promotes c.requires c.in-Some.ensures

pub overflow_sub-hole : goal.overflow_sub-hole
overflow_sub-hole t c = let below = deeper c.requires c.in-Some.ensures in omega arith

pub fill-requires : goal.fill-requires
fill-requires t c =
    let below = deeper c.requires c.in-Some.ensures in
    (omega arith, next_hole c.requires c.in-Some.ensures c.promote.ensures)

pub returns : goal.returns
returns t c = next_freed c.requires c.in-Some.ensures c.promote.ensures c.fill.ensures
