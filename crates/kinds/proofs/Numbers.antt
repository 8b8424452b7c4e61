-- The five numbers of each case of an answer, as 01's table of codes has them. Nothing is assumed: every answer is one of the cases.
use Rattle.std.specs.Prelude.{cond, eqb, Result, Ok, Err}
use Prim.Native.Nat.{ℕ, ◌≤◌}
use mathlib.Core.Path.{◌≡◌, refl, ap, sym, ◌∙◌}
use mathlib.Core.Logic.{◌≢◌}
use mathlib.Core.Bool.{Bool, true, false}
use native.Mathlib.Omega.{arith}
use Rattle.kinds.specs.declared.Pair.{Pair}
use Rattle.kinds.specs.declared.Refusal.{Refusal}
use Rattle.kinds.specs.declared.Refusal.TheVariants.{Length, Unsound, Backwards, Taken, Full, Missing, Other, NoStrip, Short, Malformed}
use Rattle.kinds.specs.declared.Outcome.{Outcome}
use Rattle.kinds.specs.declared.Outcome.TheVariants.{Found, Nothing, Listed, Refused}
use Rattle.kinds.specs.declared.Answer.{Answer}
use Rattle.kinds.specs.Codes.{number_of}
use Rattle.kinds.specs.Answer.{numbers_of, five, finished, refused, ended}

-- law: a found pair
pub found_numbers : (p : Pair) (v : ℕ) → five (record { outcome = Found p; visits = v }) ≡ record { code = 0; x = p.x; y = p.y; count = 0; visits = v }
unfolding five numbers_of
found_numbers p v = refl

-- law: nothing
pub nothing_numbers : (v : ℕ) → five (record { outcome = Nothing; visits = v }) ≡ record { code = 8; x = 0; y = 0; count = 0; visits = v }
unfolding five numbers_of
nothing_numbers v = refl

-- law: a listing that shows every match
pub listed_numbers : (n v : ℕ) → five (record { outcome = Listed n false; visits = v }) ≡ record { code = 0; x = 0; y = 0; count = n; visits = v }
unfolding five numbers_of
listed_numbers n v = refl

-- law: a listing with more matches than room
pub more_numbers : (n v : ℕ) → five (record { outcome = Listed n true; visits = v }) ≡ record { code = 10; x = 0; y = 0; count = n; visits = v }
unfolding five numbers_of
more_numbers n v = refl

-- law: what is done
pub done_numbers : five finished ≡ record { code = 0; x = 0; y = 0; count = 0; visits = 0 }
unfolding five numbers_of
done_numbers = refl

-- law: what is refused
pub refused_numbers : (k : Refusal) → five (refused k) ≡ record { code = number_of k; x = 0; y = 0; count = 0; visits = 0 }
unfolding five numbers_of
refused_numbers k = refl

-- the code of what ends with a code alone: 0 where it is done, or the refusal's number
abbrev pub ended_code : Result (Unit {0}) Refusal → ℕ
ended_code (Ok done) = 0
ended_code (Err k) = number_of k

-- law: what ends with a code alone has that code, and no number beside it
pub ended_numbers : (r : Result (Unit {0}) Refusal) → five (ended r) ≡ record { code = ended_code r; x = 0; y = 0; count = 0; visits = 0 }
unfolding five numbers_of
ended_numbers (Ok done) = refl
ended_numbers (Err k) = refl

-- law: no refusal's code is 0
pub number_not_0 : (k : Refusal) → number_of k ≢ 0
number_not_0 Length e = omega arith
number_not_0 Unsound e = omega arith
number_not_0 Backwards e = omega arith
number_not_0 Taken e = omega arith
number_not_0 Full e = omega arith
number_not_0 Missing e = omega arith
number_not_0 Other e = omega arith
number_not_0 NoStrip e = omega arith
number_not_0 Short e = omega arith
number_not_0 Malformed e = omega arith

-- the refusal of each code
abbrev by_number : ℕ → Refusal
by_number n = cond (eqb n 1) Length (cond (eqb n 2) Unsound (cond (eqb n 3) Backwards (cond (eqb n 4) Taken (cond (eqb n 5) Full (cond (eqb n 6) Missing (cond (eqb n 7) Other (cond (eqb n 9) NoStrip (cond (eqb n 11) Short Malformed))))))))

by_number_of : (k : Refusal) → by_number (number_of k) ≡ k
by_number_of Length = refl
by_number_of Unsound = refl
by_number_of Backwards = refl
by_number_of Taken = refl
by_number_of Full = refl
by_number_of Missing = refl
by_number_of Other = refl
by_number_of NoStrip = refl
by_number_of Short = refl
by_number_of Malformed = refl

-- law: no two refusals have the same code
pub one_number : (j k : Refusal) → number_of j ≡ number_of k → j ≡ k
one_number j k e = sym (by_number_of j) ∙ ap by_number e ∙ by_number_of k

visits_at_most : (o : Outcome) (v : ℕ) → (numbers_of o v).visits ≤ v
unfolding numbers_of
visits_at_most (Found p) v = omega arith
visits_at_most Nothing v = omega arith
visits_at_most (Listed n false) v = omega arith
visits_at_most (Listed n true) v = omega arith
visits_at_most (Refused k) v = omega arith

-- law: no more visits are reported than the answer has
pub five_visits : (a : Answer) → (five a).visits ≤ a.visits
unfolding five
five_visits a = visits_at_most a.outcome a.visits

-- law: a listing reports how many it has listed
pub five_count : (n : ℕ) (more : Bool) (v : ℕ) → (five (record { outcome = Listed n more; visits = v })).count ≡ n
unfolding five numbers_of
five_count n false v = refl
five_count n true v = refl
