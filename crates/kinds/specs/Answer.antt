-- The five numbers of an answer, for each of its cases.
use Rattle.std.specs.Prelude.{ℕ, true, false, Option, Some, None, Result, Ok, Err}
use Rattle.kinds.specs.declared.Pair.{Pair}
use Rattle.kinds.specs.declared.Refusal.{Refusal}
use Rattle.kinds.specs.declared.Walked.{Walked}
use Rattle.kinds.specs.declared.Listing.{Listing}
use Rattle.kinds.specs.declared.Outcome.{Outcome}
use Rattle.kinds.specs.declared.Outcome.TheVariants.{Found, Nothing, Listed, Refused}
use Rattle.kinds.specs.declared.Answer.{Answer}
use Rattle.kinds.specs.declared.Five.{Five}
use Rattle.kinds.specs.Codes as codes

-- only a found pair fills x and y; only a listing fills the count; a refusal has no visits
unfoldable pub numbers_of : Outcome → ℕ → Five
numbers_of (Found p) v = record { code = codes.done; x = p.x; y = p.y; count = 0; visits = v }
numbers_of Nothing v = record { code = codes.nothing; x = 0; y = 0; count = 0; visits = v }
numbers_of (Listed n false) v = record { code = codes.done; x = 0; y = 0; count = n; visits = v }
numbers_of (Listed n true) v = record { code = codes.more; x = 0; y = 0; count = n; visits = v }
numbers_of (Refused k) v = record { code = codes.number_of k; x = 0; y = 0; count = 0; visits = 0 }

-- code, x, y, count listed, visits
unfoldable pub five : Answer → Five
five a = numbers_of a.outcome a.visits

-- a change, a set up or a check that is done
abbrev pub finished : Answer
finished = record { outcome = Listed 0 false; visits = 0 }

-- a call that is refused
abbrev pub refused : Refusal → Answer
refused k = record { outcome = Refused k; visits = 0 }

-- a finding as an outcome: a found pair, or nothing
abbrev pub outcome_of : Option Pair → Outcome
outcome_of (Some p) = Found p
outcome_of None = Nothing

-- what a change answers, a set up, a check and the writing of the book: it is done, or refused
abbrev pub ended : Result (Unit {0}) Refusal → Answer
ended (Ok done) = finished
ended (Err k) = refused k

-- what a question for one pair answers: what its walk found, and the slots that it visited; or it is refused
abbrev pub walked : Result Walked Refusal → Answer
walked (Ok w) = record { outcome = outcome_of w.finding; visits = w.visits }
walked (Err k) = refused k

-- what a listing answers: how many pairs it wrote, whether there are more, and the slots that it visited; or it is refused
abbrev pub listed : Result Listing Refusal → Answer
listed (Ok l) = record { outcome = Listed l.count l.more; visits = l.visits }
listed (Err k) = refused k
