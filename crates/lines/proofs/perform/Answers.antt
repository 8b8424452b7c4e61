-- By what is asked: each kind of line is one law of Answering.antt. It assumes a sound pool, and room for what a line can print.
use Rattle.lines.proofs.Answering.{open_prints, close_prints, first_prints, last_prints, covers_prints, bad_prints}
use Rattle.lines.proofs.perform.Goals as goal

pub returns-in-Open : goal.returns-in-Open
returns-in-Open c = open_prints _ _ _ _ c.requires.1 c.requires.0 c.in-Open.is c.open-ended.ensures c.put_ended.ensures

pub returns-in-Close : goal.returns-in-Close
returns-in-Close c =
    close_prints _ _ _ _ c.requires.1 c.requires.0 c.in-Close.is c.close-ended.ensures c.put_ended-in-Close.ensures

pub returns-in-First : goal.returns-in-First
returns-in-First c =
    first_prints _ _ _ _ c.requires.1 c.requires.0 c.in-First.is c.first_to_end-walked.ensures (rw c.into.ensures at c.put_found.ensures)

pub returns-in-Last : goal.returns-in-Last
returns-in-Last c =
    last_prints _ _ _ _ c.requires.1 c.requires.0 c.in-Last.is c.last_to_end-walked.ensures (rw c.into-in-Last.ensures at c.put_found-in-Last.ensures)

pub returns-in-Covers : goal.returns-in-Covers
returns-in-Covers c =
    covers_prints _ _ _ _ c.requires.1 c.requires.0 c.in-Covers.is c.list_covers-listed.ensures c.list_covers-listed.auto.out (rw c.into-in-Covers.ensures at c.put_listed.ensures)

pub returns-in-Malformed : goal.returns-in-Malformed
returns-in-Malformed c = bad_prints _ _ _ _ c.requires.1 c.requires.0 c.in-Malformed.is (rw c.into-in-Malformed.ensures at c.put_code.ensures)
