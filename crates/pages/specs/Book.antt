-- The stored book: length first, big-endian, a version byte, then the pairs by ascending x; and writing it, over a plain list.
use Rattle.std.specs.Prelude.{ℕ, ◌+◌, ◌*◌, ◌/◌, ◌%◌, ◌<◌, cond, ltb, length}
use mathlib.Core.List.{List, [], ◌∷◌, ◌++◌, Memᴰ}
use Rattle.kinds.specs.declared.Pair.{Pair}
use Rattle.kinds.specs.Answer.{finished}
use Rattle.kinds.specs.declared.Refusal.TheVariants.{Short}
use Rattle.kinds.specs.Promise.{Line}
use Rattle.plain.specs.Books.{Book, Plainly, values}

-- a number as four bytes, the highest first
abbrev pub word : ℕ → List ℕ
word n = n / 16777216 % 256 ∷ n / 65536 % 256 ∷ n / 256 % 256 ∷ n % 256 ∷ []

-- a pair put in before the first with a larger x
abbrev pub place : Pair → List Pair → List Pair
place p [] = p ∷ []
place p (q ∷ qs) = let rest = place p qs in cond (ltb p.x q.x) (p ∷ q ∷ qs) (q ∷ rest)

-- the pairs by ascending x
unfoldable pub by_x : List Pair → List Pair
by_x [] = []
by_x (p ∷ ps) = place p (by_x ps)

-- every x of the list is larger
abbrev pub Above : ℕ → List Pair → Type 0
Above x ps = (q : Pair) → Memᴰ q ps → x < q.x

-- the list is by ascending x: each x is smaller than all that follow
abbrev pub Rises : List Pair → Type 0
Rises [] = Unit {0}
Rises (p ∷ ps) = Above p.x ps × Rises ps

-- the form of a book: its version byte, and the bytes of a row, how many and which
pub record Form : Type 0 where
  pub version : ℕ
  pub per_row : ℕ
  pub row : Pair → List ℕ

-- version 1: x and y of four bytes each per pair
abbrev pub version_one : Form
version_one = record { version = 1; per_row = 8; row = λ p. word p.x ++ word p.y }

-- a row for each pair
abbrev pub body : Form → List Pair → List ℕ
body f [] = []
body f (p ∷ ps) = f.row p ++ body f ps

-- how many bytes a book of so many pairs has
abbrev pub bytes_for : Form → ℕ → ℕ
bytes_for f n = 5 + f.per_row * n

-- four bytes with the number of bytes that follow, a version byte, and the pairs by ascending x
unfoldable pub book_bytes : Form → List Pair → List ℕ
book_bytes f ps = word (1 + f.per_row * length ps) ++ (f.version ∷ body f (by_x ps))

-- 11: fewer bytes than the book has
abbrev pub short_line : Form → (bytes : List ℕ) → Book → Line
short_line f bytes b = record { refusal = Short; when = ltb (length bytes) (bytes_for f (length b.pairs)) }

-- writing the book over a plain list
unfoldable pub plain_save : Form → (bytes : List ℕ) → Book → Plainly
plain_save f bytes b =
    record { lines = short_line f bytes b ∷ []; outcome = finished.outcome; pairs = b.pairs; writing = values (book_bytes f b.pairs) }
