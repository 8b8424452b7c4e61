-- How the code makes an answer out of a walk. No promise needs these; they serve laws.
use Rattle.std.specs.Prelude.{ℕ, Bool, Option}
use Rattle.kinds.specs.declared.Pair.{Pair}
use Rattle.kinds.specs.declared.Outcome.TheVariants.{Listed}
use Rattle.kinds.specs.declared.Answer.{Answer}
use Rattle.kinds.specs.Answer.{outcome_of}

-- a finding, with the visits beside it
abbrev pub answered : Option Pair → ℕ → Answer
answered f v = record { outcome = outcome_of f; visits = v }

-- so many pairs listed, and whether a match found no room
abbrev pub listed_by : ℕ → Bool → ℕ → Answer
listed_by n more v = record { outcome = Listed n more; visits = v }
