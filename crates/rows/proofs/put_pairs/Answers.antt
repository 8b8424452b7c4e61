-- The invariant: what is still to be written, written, gives what was to be written at first. It assumes a sound pool, and room for the book.
use mathlib.Core.Path.{refl}
use Rattle.rows.proofs.Next.{nothing_left, next_pair, one_less, next_last, first_turn, all_written, room_here, next_turn, last_written}
use Rattle.rows.proofs.put_pairs.Goals as goal

pub returns-in_default : goal.returns-in_default
returns-in_default c =
    all_written _ _ _ _ _ c.loop-p.invariant (nothing_left _ c.type_inv.pool c.requires.0 _ c.first_from.ensures c.in_default.is)

pub loop-p-smaller : goal.loop-p-smaller
loop-p-smaller c =
    one_less _ c.type_inv.pool c.requires.0 _ c.first_from.ensures _ c.in-Some.is

pub loop-p-init : goal.loop-p-init
loop-p-init c = first_turn _ _ c.requires.1

pub put_row-requires : goal.put_row-requires
put_row-requires c =
    room_here _ _ _ _ _ c.loop-p.invariant _ _ (next_pair _ c.type_inv.pool c.requires.0 _ c.first_from.ensures _ c.in-Some.is)

pub loop-p-preserved : goal.loop-p-preserved
loop-p-preserved c =
    next_turn _ _ _ _ _ c.loop-p.invariant _ _ (next_pair _ c.type_inv.pool c.requires.0 _ c.first_from.ensures _ c.in-Some.is) _ c.put_row.ensures _ refl

pub returns-then-p : goal.returns-then-p
returns-then-p c =
    last_written _ _ _ _ _ c.loop-p.invariant _ _ (next_last _ c.type_inv.pool c.requires.0 _ c.first_from.ensures _ c.in-Some.is c.if-p.true) _ c.put_row.ensures refl
