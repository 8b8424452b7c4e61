-- What a line prints that is refused before its call.
use Rattle.std.specs.Prelude.{ℕ, List, [], ◌∷◌}
use Rattle.kinds.specs.declared.Refusal.{Refusal}
use Rattle.kinds.specs.Codes.{number_of}
use Rattle.kinds.specs.Answer.{refused}
use Rattle.line.specs.declared.Asked.{Asked}
use Rattle.line.specs.declared.Asked.TheVariants.{Open, Close, First, Last, Covers, Malformed}
use Rattle.text.specs.Text.{row}
use Rattle.prints.specs.Rows.{found_row, list_rows}

-- what such a line prints: the refusal's code, and a 0 for each number that the line would have
unfoldable pub refused_rows : (room : List ℕ) → Refusal → Asked → List ℕ
refused_rows room k (Open start end number) = row (number_of k ∷ [])
refused_rows room k (Close start end number) = row (number_of k ∷ [])
refused_rows room k (First u) = found_row (refused k)
refused_rows room k (Last u e) = found_row (refused k)
refused_rows room k (Covers u) = list_rows (refused k) room
refused_rows room k Malformed = row (number_of k ∷ [])
