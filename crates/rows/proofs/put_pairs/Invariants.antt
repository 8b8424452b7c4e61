-- The invariant: what is still to be written, written, gives what was to be written at first. It assumes a sound pool, and room for the book.
use Rattle.rows.proofs.Next.{to_write, Turn}
use lib.ListN.{length}
use Rattle.rows.proofs.put_pairs.Given as goal

abbrev pub invariant-loop-p : goal.invariant-loop-p
invariant-loop-p l = Turn l.pool l.initial.bytes l.bytes l.at l.x0

abbrev pub decreases-loop-p : goal.decreases-loop-p
decreases-loop-p l = length (to_write l.pool l.x0)
