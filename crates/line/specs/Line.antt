-- What a line of the script asks: a letter, and decimal numbers (decimal/specs/Decimal.antt) after single spaces.
use Rattle.std.specs.Prelude.{ℕ, Bool, true, cond, ◌&&◌, List, [], ◌∷◌, map, eqb, ltb, length}
use Rattle.decimal.specs.Decimal.{value, is_number}
use Rattle.line.specs.declared.Asked.{Asked}
use Rattle.line.specs.declared.Asked.TheVariants.{Open, Close, First, Last, Covers, Malformed}

-- the byte of a space
abbrev pub space : ℕ
space = 32

-- a byte put in front of the first word
abbrev pub led : ℕ → List (List ℕ) → List (List ℕ)
led b [] = (b ∷ []) ∷ []
led b (w ∷ ws) = (b ∷ w) ∷ ws

-- the words of a line: what its single spaces part
unfoldable pub words : List ℕ → List (List ℕ)
words [] = [] ∷ []
words (b ∷ bs) = let rest = words bs in cond (eqb b space) ([] ∷ rest) (led b rest)

-- every word is a number
abbrev pub all_numbers : List (List ℕ) → Bool
all_numbers [] = true
all_numbers (w ∷ ws) = is_number w && all_numbers ws

-- f u, a u; l u e; o start end number, c start end number
abbrev pub meant : (letter : ℕ) → List ℕ → Asked
meant letter [] = Malformed
meant letter (u ∷ []) = cond (eqb letter 102) (First u) (cond (eqb letter 97) (Covers u) Malformed)
meant letter (u ∷ e ∷ []) = cond (eqb letter 108) (Last u e) Malformed
meant letter (start ∷ end ∷ number ∷ []) = cond (eqb letter 111) (Open start end number) (cond (eqb letter 99) (Close start end number) Malformed)
meant letter (a ∷ b ∷ d ∷ e ∷ more) = Malformed

-- the first word is the letter, the others are its numbers
abbrev pub by_words : List (List ℕ) → Asked
by_words [] = Malformed
by_words ([] ∷ ns) = Malformed
by_words ((letter ∷ []) ∷ ns) = cond (all_numbers ns) (meant letter (map value ns)) Malformed
by_words ((a ∷ b ∷ more) ∷ ns) = Malformed

-- what a line asks: 63 bytes at most, and everything else is malformed
unfoldable pub asked_by : (line : List ℕ) → Asked
asked_by line = cond (ltb 63 (length line)) Malformed (by_words (words line))
