-- How numbers, and the matches of a listing, are printed.
use Rattle.std.specs.Prelude.{ℕ, zero, suc, ◌+◌, ◌/◌, ◌%◌, cond, List, [], ◌∷◌, ◌++◌, eqb}
use Rattle.line.specs.Line.{space}

-- the byte of a newline
abbrev pub newline : ℕ
newline = 10

-- the byte of the last digit
abbrev pub glyph : ℕ → ℕ
glyph n = 48 + n % 10

-- the digits of n, none for 0, at most so many
unfoldable pub front : ℕ → ℕ → List ℕ
front zero n = []
front (suc places) n = let digits = front places (n / 10) ++ (glyph n ∷ []) in cond (eqb n 0) [] digits

-- n in decimal: the last digit, and those before it with no leading zero; ten are enough for 4294967295
unfoldable pub decimal : ℕ → List ℕ
decimal n = front 9 (n / 10) ++ (glyph n ∷ [])

-- a number and the byte behind it
abbrev pub item : ℕ → ℕ → List ℕ
item n after = decimal n ++ (after ∷ [])

-- a line of numbers, parted by single spaces
unfoldable pub row : List ℕ → List ℕ
row [] = []
row (n ∷ []) = item n newline
row (n ∷ m ∷ ms) = item n space ++ row (m ∷ ms)

-- a line of end, number, start for each of the first so many matches of a listing's cells
unfoldable pub match_rows : ℕ → List ℕ → List ℕ
match_rows zero cells = []
match_rows (suc n) [] = []
match_rows (suc n) (x ∷ []) = []
match_rows (suc n) (x ∷ y ∷ cells) = row (x / 65536 ∷ x % 65536 ∷ y ∷ []) ++ match_rows n cells
