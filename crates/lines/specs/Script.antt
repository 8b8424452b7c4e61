-- What a line does to the pool and to the listing room, and what it prints.
use Rattle.std.specs.Prelude.{ℕ, ◌+◌, ◌*◌, ◌/◌, ◌≡◌, Bool, cond, List, [], ◌∷◌, ◌++◌, ltb, length, drop, Option, Some, None}
use Rattle.kinds.specs.declared.Refusal.TheVariants as refusals
use Rattle.kinds.specs.Codes.{number_of}
use Rattle.kinds.specs.Promise.{Result, Promise, given}
use Rattle.sound.specs.Promises.{behind_check}
use Rattle.promises.specs.Promises.{opening, closing, first_to_end, last_to_end, list_covers}
use Rattle.line.specs.declared.Asked.{Asked}
use Rattle.line.specs.declared.Asked.TheVariants.{Open, Close, First, Last, Covers, Malformed}
use Rattle.line.specs.Line.{asked_by}
use Rattle.text.specs.Text.{row}
use Rattle.prints.specs.Rows.{code_row, found_row, list_rows}

-- the pool's cells and the listing room after a line, and what it prints
pub record Done : Type 0 where
  pub cells : List ℕ
  pub room : List ℕ
  pub bytes : List ℕ

-- a change
abbrev pub change_done : (room : List ℕ) → Result → Done
change_done room w = record { cells = w.cells; room = room; bytes = code_row w.answer }

-- a question for one strip
abbrev pub found_done : (c room : List ℕ) → Result → Done
found_done c room w = record { cells = c; room = room; bytes = found_row w.answer }

-- a list of strips
abbrev pub list_done : (c : List ℕ) → Result → Done
list_done c w = record { cells = c; room = w.lent; bytes = list_rows w.answer w.lent }

-- what a call gives on any cells, lent these: the check comes first
abbrev pub called : (c : List ℕ) → Promise → (lent : List ℕ) → Result
called c P lent = given (behind_check c P) c lent

-- what is asked is done
unfoldable pub done_by : (c room : List ℕ) → Asked → Done
done_by c room (Open start end number) = change_done room (called c (opening c start end number) [])
done_by c room (Close start end number) = change_done room (called c (closing c start end number) [])
done_by c room (First u) = found_done c room (called c (first_to_end c u) [])
done_by c room (Last u e) = found_done c room (called c (last_to_end c u e) [])
done_by c room (Covers u) = list_done c (called c (list_covers c u room) room)
done_by c room Malformed = record { cells = c; room = room; bytes = row (number_of refusals.Malformed ∷ []) }

-- what a call leaves: the pool's cells, the listing room, the lent bytes, and how many of them it wrote, none where they may not hold it
pub record After : Type 0 where
  pub cells : List ℕ
  pub room : List ℕ
  pub text : List ℕ
  pub told : Option ℕ

-- the lent bytes may not hold what a line can print: five numbers of at most ten digits, and three for each match that has room
abbrev pub too_short : List ℕ → List ℕ → Bool
too_short room text = ltb (length text) (55 + 33 * (length room / 2))

-- what the line prints stands from the first byte on
abbrev pub printed : List ℕ → Done → After
printed text d = record { cells = d.cells; room = d.room; text = d.bytes ++ drop (length d.bytes) text; told = Some (length d.bytes) }

-- a line over any cells, room and bytes; where the bytes may be too few, nothing is done
unfoldable pub line_answered : (c room line text : List ℕ) → After
line_answered c room line text =
    let d : After = printed text (done_by c room (asked_by line)) in
    cond (too_short room text) (record { cells = c; room = room; text = text; told = None }) d

-- a call left these cells and bytes, and told so, as promised
pub record LineKept (w : After) (c o t : List ℕ) (r : Option ℕ) : Type 0 where
  pub cells : c ≡ w.cells
  pub room : o ≡ w.room
  pub text : t ≡ w.text
  pub told : r ≡ w.told
