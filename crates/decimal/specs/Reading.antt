-- What the code reads of a number.
use Rattle.std.specs.Prelude.{ℕ, ◌-◌, Bool, cond, ◌&&◌, List, leb, Option, Some, None}
use Rattle.decimal.specs.Decimal.{is_digit, all_digits, value, is_number}

-- the number n if the test holds
abbrev pub number_if : Bool → ℕ → Option ℕ
number_if ok n = cond ok (Some n) None

-- what a byte is worth as a digit
abbrev pub digit_of : ℕ → Option ℕ
digit_of b = number_if (is_digit b) (b - 48)

-- digits alone, worth no more than 4294967295
unfoldable pub digits_of : List ℕ → Option ℕ
digits_of w = number_if (all_digits w && leb (value w) 4294967295) (value w)

-- the number that a word is, if it is one
unfoldable pub number_in : List ℕ → Option ℕ
number_in w = number_if (is_number w) (value w)
