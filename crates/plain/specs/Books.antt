-- The calls over a plain list, as a pencil goes through it: what each refuses, what it ends with, and which pairs then stand in the list.
use Rattle.std.specs.Prelude.{ℕ, min, not, ◌&&◌, List, [], ◌∷◌, eqb, leb, ltb, length, Option}
use Rattle.kinds.specs.declared.Limits.{Limits}
use Rattle.kinds.specs.declared.Outcome.{Outcome}
use Rattle.kinds.specs.declared.Outcome.TheVariants.{Listed}
use Rattle.kinds.specs.declared.Pair.{Pair}
use Rattle.kinds.specs.Answer.{finished, outcome_of}
use Rattle.kinds.specs.declared.Refusal.TheVariants.{Taken, Full, Missing, Other, Backwards}
use Rattle.kinds.specs.Promise.{Line, Promise}
use Rattle.plain.specs.Plain.{matches, those, has_x, has, smallest_x_of, largest_x_of, smallest_y_of}

-- a book as a plain list, with room for so many pairs
pub record Book : Type 0 where
  pub pairs : List Pair
  pub room : ℕ

-- what a call writes into a second slice: nothing; these values from its start on; or these pairs in whatever order, as many as there is room for
pub data Writing : Type 0 where
  nothing : Writing
  values : List ℕ → Writing
  listing : List Pair → Writing

-- a call over a plain list: its lines in 01's order and, where none of them holds, its outcome, the pairs afterwards, and what it writes
pub record Plainly : Type 0 where
  pub lines : List Line
  pub outcome : Outcome
  pub pairs : List Pair
  pub writing : Writing

-- a call over cells that is refused and ends as over their plain list, with these visits; then the pool has these cells, and the second slice holds these
abbrev pub promise : Plainly → (visits : ℕ) → (cells lent : List ℕ) → Promise
promise k v c out = record { lines = k.lines; made = record { answer = record { outcome = k.outcome; visits = v }; cells = c; lent = out } }

-- a change that is done leaves these pairs
abbrev pub leaves : List Line → List Pair → Plainly
leaves ls ps = record { lines = ls; outcome = finished.outcome; pairs = ps; writing = nothing }

-- a question for one pair leaves the list, and ends with what it found
abbrev pub finds : List Line → Option Pair → Book → Plainly
finds ls f b = record { lines = ls; outcome = outcome_of f; pairs = b.pairs; writing = nothing }

-- a listing counts the pairs that match, up to its room, and says whether there are more
abbrev pub lists : List Line → (room : ℕ) → List Pair → Book → Plainly
lists ls room ps b =
    record { lines = ls; outcome = Listed (min room (length ps)) (ltb room (length ps)); pairs = b.pairs; writing = listing ps }

-- 4: x stands in the list, with whatever y
abbrev pub taken_line : Pair → Book → Line
taken_line p b = record { refusal = Taken; when = has_x p.x b.pairs }

-- 5: there are as many pairs as there is room for
abbrev pub full_line : Book → Line
full_line b = record { refusal = Full; when = leb b.room (length b.pairs) }

-- 6: x does not stand in the list
abbrev pub missing_line : Pair → Book → Line
missing_line p b = record { refusal = Missing; when = not (has_x p.x b.pairs) }

-- 7: x stands there with another y
abbrev pub other_line : Pair → Book → Line
other_line p b = record { refusal = Other; when = has_x p.x b.pairs && not (has p b.pairs) }

-- 3: x0 > x1
abbrev pub backwards_line : (x0 x1 : ℕ) → Line
backwards_line x0 x1 = record { refusal = Backwards; when = ltb x1 x0 }

-- the pairs but for the one with this x
abbrev pub without : ℕ → List Pair → List Pair
without x ps = those (λ q. not (eqb q.x x)) ps

-- set up: the list is empty
abbrev pub plain_set_up : Plainly
plain_set_up = leaves [] []

-- the check: a plain list has no fault
abbrev pub plain_check : Book → Plainly
plain_check b = leaves [] b.pairs

-- insert: the pair is written down
unfoldable pub plain_insert : Pair → Book → Plainly
plain_insert p b = leaves (taken_line p b ∷ full_line b ∷ []) (p ∷ b.pairs)

-- delete: the pair is struck out
unfoldable pub plain_delete : Pair → Book → Plainly
plain_delete p b = leaves (missing_line p b ∷ other_line p b ∷ []) (without p.x b.pairs)

-- smallest x: of the pairs with x0 ≤ x ≤ x1 and y ≤ y1, the one with the smallest x
unfoldable pub plain_smallest_x : Limits → Book → Plainly
plain_smallest_x q b = finds (backwards_line q.x0 q.x1 ∷ []) (smallest_x_of q b.pairs) b

-- largest x: of the same pairs, the one with the largest x
unfoldable pub plain_largest_x : Limits → Book → Plainly
plain_largest_x q b = finds (backwards_line q.x0 q.x1 ∷ []) (largest_x_of q b.pairs) b

-- smallest y: of the pairs with x0 ≤ x ≤ x1, the one with the smallest y; on equal y the smaller x
unfoldable pub plain_smallest_y : (x0 x1 : ℕ) → Book → Plainly
plain_smallest_y x0 x1 b = finds (backwards_line x0 x1 ∷ []) (smallest_y_of x0 x1 b.pairs) b

-- listing: the pairs with x0 ≤ x ≤ x1 and y ≤ y1
unfoldable pub plain_listing : Limits → (room : ℕ) → Book → Plainly
plain_listing q room b = lists (backwards_line q.x0 q.x1 ∷ []) room (those (matches q) b.pairs) b
