-- The line that asks for something: its letter, and its numbers in decimal after single spaces.
use Rattle.std.specs.Prelude.{ℕ, ◌≤◌, List, [], ◌∷◌, ◌++◌}
use Rattle.line.specs.declared.Asked.{Asked}
use Rattle.line.specs.declared.Asked.TheVariants.{Open, Close, First, Last, Covers, Malformed}
use Rattle.line.specs.Line.{space}
use Rattle.text.specs.Text.{decimal}

-- each number after a space
unfoldable pub spaced : List ℕ → List ℕ
spaced [] = []
spaced (n ∷ ns) = space ∷ (decimal n ++ spaced ns)

-- the numbers that are asked with
abbrev pub numbers_asked : Asked → List ℕ
numbers_asked (Open start end number) = start ∷ end ∷ number ∷ []
numbers_asked (Close start end number) = start ∷ end ∷ number ∷ []
numbers_asked (First u) = u ∷ []
numbers_asked (Last u e) = u ∷ e ∷ []
numbers_asked (Covers u) = u ∷ []
numbers_asked Malformed = []

-- o, c, f, l, a
abbrev pub letter_of : Asked → ℕ
letter_of (Open start end number) = 111
letter_of (Close start end number) = 99
letter_of (First u) = 102
letter_of (Last u e) = 108
letter_of (Covers u) = 97
letter_of Malformed = 0

-- the line: the letter, and each number after a space
abbrev pub spelled : Asked → List ℕ
spelled k = letter_of k ∷ spaced (numbers_asked k)

-- every number is one of 32 bits
abbrev pub AllFit : List ℕ → Type 0
AllFit [] = Unit {0}
AllFit (n ∷ ns) = (n ≤ 4294967295) × AllFit ns
