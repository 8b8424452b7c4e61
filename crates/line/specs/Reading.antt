-- How the code reads a line: as many numbers as its letter takes.
use Rattle.std.specs.Prelude.{ℕ, ◌+◌, cond, ◌&&◌, List, [], ◌++◌, map, eqb, length, Option, Some, None}
use Rattle.std.specs.Borrow.{Bor}
use Rattle.line.specs.Line.{words, all_numbers}
use Rattle.decimal.specs.Decimal.{value}

-- the words of a text, if there is one
abbrev pub words_in : Option (Bor (List ℕ)) → List (List ℕ)
words_in None = []
words_in (Some t) = words t.now

-- the numbers vs, and those that the words behind them are, if they are n together
unfoldable pub numbers_after : (n : ℕ) → List ℕ → List (List ℕ) → Option (List ℕ)
numbers_after n vs ws = cond (all_numbers ws && eqb (length vs + length ws) n) (Some (vs ++ map value ws)) None

-- the numbers that n words are
abbrev pub numbers_of : (n : ℕ) → List (List ℕ) → Option (List ℕ)
numbers_of n ws = numbers_after n [] ws
