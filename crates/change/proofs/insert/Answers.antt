-- Each way out is one law of Changed.antt: x is stored, no slot is free, or the pair goes down. It assumes a sound pool.
use native.Mathlib.Omega.{arith}
use Rattle.change.proofs.Changed.{insert_taken, insert_full, insert_enters, insert_done}
use Rattle.change.proofs.insert.Goals as goal

pub returns-then-is_stored : goal.returns-then-is_stored
returns-then-is_stored c =
    insert_taken _ c.args.p c.requires c.is_stored.ensures c.if-is_stored.true

pub returns-then-first_free-eq0 : goal.returns-then-first_free-eq0
returns-then-first_free-eq0 c =
    insert_full _ _ c.requires c.is_stored.ensures c.if-is_stored.false c.first_free.ensures c.if-first_free-eq0.true

pub insert-requires : goal.insert-requires
insert-requires c =
    insert_enters _ _ c.requires c.is_stored.ensures c.if-is_stored.false c.first_free.ensures c.if-first_free-eq0.false

pub returns : goal.returns
returns c =
    insert_done _ c.args.p c.requires c.is_stored.ensures c.if-is_stored.false c.first_free.ensures c.if-first_free-eq0.false (omega (arith, c.well_formed)) c.insert.ensures
