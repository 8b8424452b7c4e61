-- A strip is valid from a start to an end, and has a number; it is stored as a pair. The strip calls over a plain list.
use Rattle.std.specs.Prelude.{ℕ, ◌+◌, ◌*◌, ◌/◌, ◌%◌, ◌≤◌, Bool, ◌||◌, List, [], ◌∷◌, ◌++◌, ltb}
use Rattle.kinds.specs.declared.Limits.{Limits}
use Rattle.kinds.specs.declared.Pair.{Pair}
use Rattle.kinds.specs.declared.Refusal.TheVariants.{NoStrip, Backwards}
use Rattle.kinds.specs.Promise.{Line}
use Rattle.plain.specs.Plain.{matches, those, smallest_x_of, largest_x_of, smallest_y_of}
use Rattle.plain.specs.Books.{Book, Plainly, leaves, finds, lists, without, taken_line, full_line, missing_line, other_line}

-- the largest slot, and the largest number
abbrev pub largest : ℕ
largest = 65535

-- x = end × 65,536 + number, y = start
abbrev pub strip_pair : (start end number : ℕ) → Pair
strip_pair start end number = record { x = end * 65536 + number; y = start }

-- the start, the end and the number of a stored pair
abbrev pub start_of : Pair → ℕ
start_of p = p.y

abbrev pub end_of : Pair → ℕ
end_of p = p.x / 65536

abbrev pub number_of : Pair → ℕ
number_of p = p.x % 65536

-- the strip covers slot u when start ≤ u ≤ end
pub record Covers (u : ℕ) (p : Pair) : Type 0 where
  pub start : start_of p ≤ u
  pub end : u ≤ end_of p

-- it meets u..v when it starts by v and ends from u on: it covers a slot of them (strips/proofs/Rider.antt)
pub record Meets (u v : ℕ) (p : Pair) : Type 0 where
  pub start : start_of p ≤ v
  pub end : u ≤ end_of p

-- it contains u..v when it starts by u and ends from v on: it covers every slot of them (strips/proofs/Rider.antt)
pub record Contains (u v : ℕ) (p : Pair) : Type 0 where
  pub start : start_of p ≤ u
  pub end : v ≤ end_of p

-- over 65,535
abbrev pub over : ℕ → Bool
over n = ltb largest n

-- a start, end or number over 65,535, or start > end
abbrev pub bad_strip : (start end number : ℕ) → Bool
bad_strip start end number = over start || over end || over number || ltb end start

-- 01's limits for the strips that cover u: they end from u on, and start by u
abbrev pub covers_limits : (u : ℕ) → Limits
covers_limits u = record { x0 = u * 65536; x1 = 4294967295; y1 = u }

-- for those that cover u and end no later than e
abbrev pub last_limits : (u e : ℕ) → Limits
last_limits u e = record { x0 = u * 65536; x1 = e * 65536 + 65535; y1 = u }

-- for those that meet u..v: they end from u on, and start by v
abbrev pub meets_limits : (u v : ℕ) → Limits
meets_limits u v = record { x0 = u * 65536; x1 = 4294967295; y1 = v }

-- for those that contain u..v: they end from v on, and start by u
abbrev pub contains_limits : (u v : ℕ) → Limits
contains_limits u v = record { x0 = v * 65536; x1 = 4294967295; y1 = u }

-- 9: a start, end, number or asked slot over 65,535, or start > end
abbrev pub strip_line : Bool → Line
strip_line bad = record { refusal = NoStrip; when = bad }

-- 3: v < u, or e < u
abbrev pub order_line : ℕ → ℕ → Line
order_line u v = record { refusal = Backwards; when = ltb v u }

-- the lines of opening and closing that come before the pair's own
abbrev pub strip_lines : (start end number : ℕ) → List Line
strip_lines start end number = strip_line (bad_strip start end number) ∷ []

-- the lines of a call that asks about a slot
abbrev pub slot_lines : (u : ℕ) → List Line
slot_lines u = strip_line (over u) ∷ []

-- the lines of a call that asks about slots from one to another
abbrev pub slots_lines : (u v : ℕ) → List Line
slots_lines u v = strip_line (over u || over v) ∷ order_line u v ∷ []

-- open: the strip's pair is written down
unfoldable pub plain_open : (start end number : ℕ) → Book → Plainly
plain_open start end number b =
    let p : Pair = strip_pair start end number in
    leaves (strip_lines start end number ++ (taken_line p b ∷ full_line b ∷ [])) (p ∷ b.pairs)

-- close: the strip's pair is struck out
unfoldable pub plain_close : (start end number : ℕ) → Book → Plainly
plain_close start end number b =
    let p : Pair = strip_pair start end number in
    leaves (strip_lines start end number ++ (missing_line p b ∷ other_line p b ∷ [])) (without p.x b.pairs)

-- first to end: the strip that covers u and ends first; of those that end in the same slot, the lowest number
unfoldable pub plain_first : (u : ℕ) → Book → Plainly
plain_first u b = finds (slot_lines u) (smallest_x_of (covers_limits u) b.pairs) b

-- last to end: the strip that covers u and ends last, no later than e
unfoldable pub plain_last : (u e : ℕ) → Book → Plainly
plain_last u e b = finds (slots_lines u e) (largest_x_of (last_limits u e) b.pairs) b

-- earliest start: of the strips that end in u..v, the one with the earliest start
unfoldable pub plain_earliest : (u v : ℕ) → Book → Plainly
plain_earliest u v b =
    finds (slots_lines u v) (smallest_y_of (u * 65536) (v * 65536 + 65535) b.pairs) b

-- the strips that cover u
unfoldable pub plain_covers : (u room : ℕ) → Book → Plainly
plain_covers u room b = lists (slot_lines u) room (those (matches (covers_limits u)) b.pairs) b

-- the strips that meet u..v
unfoldable pub plain_meets : (u v room : ℕ) → Book → Plainly
plain_meets u v room b = lists (slots_lines u v) room (those (matches (meets_limits u v)) b.pairs) b

-- the strips that contain u..v
unfoldable pub plain_contains : (u v room : ℕ) → Book → Plainly
plain_contains u v room b = lists (slots_lines u v) room (those (matches (contains_limits u v)) b.pairs) b
