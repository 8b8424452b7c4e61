-- What each kind of line prints, from its call's answer.
use Rattle.std.specs.Prelude.{ℕ, ◌/◌, ◌%◌, List, [], ◌∷◌, ◌++◌}
use Rattle.kinds.specs.declared.Answer.{Answer}
use Rattle.kinds.specs.Answer.{five}
use Rattle.text.specs.Text.{row, match_rows}

-- the code alone
abbrev pub code_row : Answer → List ℕ
code_row a = row ((five a).code ∷ [])

-- code, end, number, start, visits
abbrev pub found_row : Answer → List ℕ
found_row a = row ((five a).code ∷ (five a).x / 65536 ∷ (five a).x % 65536 ∷ (five a).y ∷ (five a).visits ∷ [])

-- code, count, visits
abbrev pub count_row : Answer → List ℕ
count_row a = row ((five a).code ∷ (five a).count ∷ (five a).visits ∷ [])

-- the count, and a line for each match
abbrev pub list_rows : Answer → List ℕ → List ℕ
list_rows a cells = count_row a ++ match_rows (five a).count cells
