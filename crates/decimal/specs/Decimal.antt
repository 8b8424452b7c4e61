-- A decimal number: which words are one, and what they are worth.
use Rattle.std.specs.Prelude.{ℕ, ◌+◌, ◌*◌, ◌-◌, Bool, true, not, ◌&&◌, List, [], ◌∷◌, eqb, leb, ltb, length, get_or}

-- one of the bytes of 0 to 9
abbrev pub is_digit : ℕ → Bool
is_digit b = leb 48 b && ltb b 58

-- digits alone
unfoldable pub all_digits : List ℕ → Bool
all_digits [] = true
all_digits (b ∷ bs) = is_digit b && all_digits bs

-- what digits are worth behind the number n
unfoldable pub value_from : ℕ → List ℕ → ℕ
value_from n [] = n
value_from n (b ∷ bs) = value_from (n * 10 + (b - 48)) bs

-- what digits are worth
abbrev pub value : List ℕ → ℕ
value w = value_from 0 w

-- a 0 with more behind it
abbrev pub leading_zero : List ℕ → Bool
leading_zero w = leb 2 (length w) && eqb (get_or w 0 0) 48

-- digits alone, at least one, no leading zero except 0 itself, 0 to 4294967295
unfoldable pub is_number : List ℕ → Bool
is_number w = leb 1 (length w) && not (leading_zero w) && all_digits w && leb (value w) 4294967295
