-- What a listing shows of a sound pool, and how many slots a question and a listing may visit.
use Rattle.std.specs.Prelude.{ℕ, ◌+◌, ◌*◌, ◌≤◌, ◌≡◌, ◌↔◌, ltb, length, take}
use mathlib.Core.List.{List, map, Memᴰ}
use Rattle.kinds.specs.declared.Answer.{Answer}
use Rattle.kinds.specs.declared.Outcome.TheVariants.{Listed}
use Rattle.kinds.specs.declared.Pair.{Pair}
use Rattle.kinds.specs.Answer.{five}
use Rattle.pools.specs.Cells.{stored}
use Rattle.kinds.specs.Promise.{Result}
use Rattle.plain.specs.Plain.{Apart}
use Rattle.walks.specs.Walks.{room_of, written}

-- there is a list of exactly the stored pairs that are asked for, each once; as many as there is room for are written, and the answer says whether there are more
pub record Shows (c out : List ℕ) (Asked : Pair → Type 0) (w : Result) : Type 0 where
  pub all : List Pair
  pub exactly : (p : Pair) → Memᴰ p all ↔ (Memᴰ p (stored c) × Asked p)
  pub once : Apart (map (λ p. p.x) all)
  pub lent : w.lent ≡ written (take (room_of out) all) out
  pub outcome : w.answer.outcome ≡ Listed (length (take (room_of out) all)) (ltb (room_of out) (length all))

-- the bound on a question for one pair: at most so many visits are reported
abbrev pub VisitsWithin : ℕ → Answer → Type 0
VisitsWithin n a = (five a).visits ≤ n

-- the bound on a listing: at most 127 visits, and two more for each pair listed
abbrev pub FewVisits : Answer → Type 0
FewVisits a = (five a).visits ≤ 127 + 2 * (five a).count
