-- Runs of calls over cells and over a plain list, and what it is that the two agree.
use Rattle.std.specs.Prelude.{ℕ, ◌≡◌, cond, List, [], ◌∷◌, ◌++◌, map, length, take, drop}
use Rattle.kinds.specs.declared.Outcome.{Outcome}
use Rattle.kinds.specs.declared.Outcome.TheVariants.{Refused}
use Rattle.kinds.specs.declared.Pair.{Pair}
use Rattle.kinds.specs.Promise.{Line, Result}
use Rattle.plain.specs.Books.{Book, Writing, nothing, values, listing, Plainly}
use Rattle.plain.specs.Plain.{Alike, Apart}
use Rattle.walks.specs.Walks.{room_of, written}
use Rattle.pools.specs.Cells.{slots_of, stored}
use Rattle.pools.specs.Sound.{Sound}
use Rattle.runs.specs.Calls.{Call, plainly, lent_by, play}

-- the book after a call over a plain list, the call's outcome, and what it writes
pub record Kept : Type 0 where
  pub book : Book
  pub outcome : Outcome
  pub writing : Writing

-- the first line that holds refuses, and leaves the book as it was; what no line refuses is made
unfoldable pub plain_by : List Line → Book → Kept → Kept
plain_by [] b made = made
plain_by (l ∷ ls) b made =
    let rest = plain_by ls b made in
    cond l.when (record { book = b; outcome = Refused l.refusal; writing = nothing }) rest

-- a call over a plain list: these pairs then stand in the same room
abbrev pub kept : Book → Plainly → Kept
kept b k = plain_by k.lines b (record { book = record { pairs = k.pairs; room = b.room }; outcome = k.outcome; writing = k.writing })

abbrev pub play_plainly : Book → Call → Kept
play_plainly b k = kept b (plainly k b)

-- the pairs in some order, each once, are written from the slice's start, as many as it has room for
pub record InSomeOrder (ps : List Pair) (out out' : List ℕ) : Type 0 where
  pub all : List Pair
  pub alike : Alike all ps
  pub once : Apart (map (λ p. p.x) all)
  pub cells : out' ≡ written (take (room_of out) all) out

-- what is written into a slice: out before it, out' after it
abbrev pub Wrote : Writing → (out out' : List ℕ) → Type 0
Wrote nothing out out' = out' ≡ out
Wrote (values vs) out out' = out' ≡ vs ++ drop (length vs) out
Wrote (listing ps) out out' = InSomeOrder ps out out'

-- a call ends alike over cells and over a plain list: its outcome, and what it writes
pub record AlikeEnd (k : Call) (w : Result) (e : Kept) : Type 0 where
  pub outcome : w.answer.outcome ≡ e.outcome
  pub wrote : Wrote e.writing (lent_by k) w.lent

-- a sound pool and a plain list hold the same pairs, each x once, and have the same room
pub record Same (c : List ℕ) (b : Book) : Type 0 where
  pub sound : Sound c
  pub alike : Alike (stored c) b.pairs
  pub apart : Apart (map (λ p. p.x) b.pairs)
  pub room : slots_of c ≡ b.room

-- a run of calls over cells: what each gives, and the cells at the end
pub record Run : Type 0 where
  pub results : List Result
  pub cells : List ℕ

unfoldable pub play_all : List Call → List ℕ → Run
play_all [] c = record { results = []; cells = c }
play_all (k ∷ ks) c =
    let w : Result = play c k in
    let r : Run = play_all ks w.cells in
    record { results = w ∷ r.results; cells = r.cells }

-- the same over a plain list
pub record PlainRun : Type 0 where
  pub ends : List Kept
  pub book : Book

unfoldable pub plainly_all : List Call → Book → PlainRun
plainly_all [] b = record { ends = []; book = b }
plainly_all (k ∷ ks) b =
    let e : Kept = play_plainly b k in
    let t : PlainRun = plainly_all ks e.book in
    record { ends = e ∷ t.ends; book = t.book }

-- each call ends alike over both
abbrev pub AllAlike : List Call → List Result → List Kept → Type 0
AllAlike [] [] [] = Unit {0}
AllAlike (k ∷ ks) (w ∷ ws) (e ∷ es) = AlikeEnd k w e × AllAlike ks ws es
AllAlike [] (w ∷ ws) es = ⊥
AllAlike [] [] (e ∷ es) = ⊥
AllAlike (k ∷ ks) [] es = ⊥
AllAlike (k ∷ ks) (w ∷ ws) [] = ⊥

-- a run ends alike over both, call by call, and leaves them the same
pub record Agrees (ks : List Call) (r : Run) (t : PlainRun) : Type 0 where
  pub each : AllAlike ks r.results t.ends
  pub same : Same r.cells t.book
