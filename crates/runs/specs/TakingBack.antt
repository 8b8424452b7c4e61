-- Runs of any calls, and taking them back by what they answered.
use Rattle.std.specs.Prelude.{ℕ, Bool, true, false, cond, ◌&&◌, ◌≡◌, ◌↔◌, ◌⊎◌}
use mathlib.Core.List.{List, [], ◌∷◌, Memᴰ}
use Rattle.kinds.specs.declared.Answer.{Answer}
use Rattle.kinds.specs.declared.Pair.{Pair}
use Rattle.kinds.specs.Promise.{Result, accepted}
use Rattle.pools.specs.Cells.{stored}
use Rattle.runs.specs.Calls.{pair_of, Call, set_up, check, insert, delete, smallest_x, largest_x, smallest_y, list, opens, closes, first, last, earliest, covers, meets, contains, save, play}

-- how an accepted call is taken back: by a call; not at all, since it changes nothing; or never, since taking back counts from it
pub data Reversal : Type 0 where
  by : Call → Reversal
  needless : Reversal
  anew : Reversal

-- what takes an accepted call back, given what it answered: an insert is taken back by delete, an opening by closing, and the other way round
abbrev pub reverse : Call → Answer → Reversal
reverse set_up a = anew
reverse check a = needless
reverse (insert p) a = by (delete p)
reverse (delete p) a = by (insert p)
reverse (smallest_x q) a = needless
reverse (largest_x q) a = needless
reverse (smallest_y x0 x1) a = needless
reverse (list q out) a = needless
reverse (opens n) a = by (closes n)
reverse (closes n) a = by (opens n)
reverse (first u) a = needless
reverse (last u e) a = needless
reverse (earliest u v) a = needless
reverse (covers u out) a = needless
reverse (meets u v out) a = needless
reverse (contains u v out) a = needless
reverse (save bytes) a = needless

-- where a run stands: the pool's cells, the cells that taking back counts from, and the calls that take back what was accepted since, last first
pub record Ran : Type 0 where
  pub cells : List ℕ
  pub since : List ℕ
  pub back : List Call

-- after a call that gave w
abbrev pub after : Reversal → Result → Ran → Ran
after (by k) w r = record { cells = w.cells; since = r.since; back = k ∷ r.back }
after needless w r = record { cells = w.cells; since = r.since; back = r.back }
after anew w r = record { cells = w.cells; since = w.cells; back = [] }

-- a call that is not accepted is not taken back
abbrev pub go_on : Ran → Call → Ran
go_on r k =
    let w : Result = play r.cells k in
    cond (accepted w) (after (reverse k w.answer) w r) (after needless w r)

unfoldable pub run : List Call → Ran → Ran
run [] r = r
run (k ∷ ks) r = run ks (go_on r k)

-- a run that starts from these cells
abbrev pub from : List ℕ → Ran
from c = record { cells = c; since = c; back = [] }

-- the cells after calls that take back, one after the other, and whether each was accepted
pub record Returned : Type 0 where
  pub cells : List ℕ
  pub all : Bool

unfoldable pub take_back : List Call → List ℕ → Returned
take_back [] c = record { cells = c; all = true }
take_back (k ∷ ks) c =
    let w : Result = play c k in
    let r : Returned = take_back ks w.cells in
    record { cells = r.cells; all = accepted w && r.all }

-- from the cells c to the cells d the stored set gains exactly p, which was not in it
pub record Gains (p : Pair) (c d : List ℕ) : Type 0 where
  pub new : Memᴰ p (stored c) → ⊥
  pub rest : (q : Pair) → Memᴰ q (stored d) ↔ ((q ≡ p) ⊎ Memᴰ q (stored c))

-- what an accepted call does to the stored set, from the cells c to the cells d; a question leaves every cell
abbrev pub Does : Call → List ℕ → List ℕ → Type 0
Does set_up c d = stored d ≡ []
Does check c d = d ≡ c
Does (insert p) c d = Gains p c d
Does (delete p) c d = Gains p d c
Does (smallest_x q) c d = d ≡ c
Does (largest_x q) c d = d ≡ c
Does (smallest_y x0 x1) c d = d ≡ c
Does (list q out) c d = d ≡ c
Does (opens n) c d = Gains (pair_of n) c d
Does (closes n) c d = Gains (pair_of n) d c
Does (first u) c d = d ≡ c
Does (last u e) c d = d ≡ c
Does (earliest u v) c d = d ≡ c
Does (covers u out) c d = d ≡ c
Does (meets u v out) c d = d ≡ c
Does (contains u v out) c d = d ≡ c
Does (save bytes) c d = d ≡ c

-- each call of a run does so where it is accepted, and leaves every cell where it is not
unfoldable pub Did : List Call → List ℕ → Type 0
Did [] c = Unit {0}
Did (k ∷ ks) c =
    (accepted (play c k) ≡ true → Does k c (play c k).cells) × (accepted (play c k) ≡ false → (play c k).cells ≡ c) × Did ks (play c k).cells

-- taking back: what each call did to the stored set; then the calls that take back are each accepted, and every cell is as at the start, or as the last set up left it
pub record TakenBack (ks : List Call) (c : List ℕ) : Type 0 where
  pub did : Did ks c
  pub returned : take_back (run ks (from c)).back (run ks (from c)).cells ≡ record { cells = (run ks (from c)).since; all = true }
