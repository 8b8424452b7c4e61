-- Programs that are tried against the promises: what it is to keep one, and 01's five wrong programs.
use Rattle.std.specs.Prelude.{ℕ, suc, ◌+◌, ◌*◌, ◌≡◌, ◌≢◌, ◌⊎◌, Bool, true, false, List, [], ◌∷◌}
use Rattle.kinds.specs.declared.Five.{Five}
use Rattle.kinds.specs.declared.Outcome.{Outcome}
use Rattle.kinds.specs.declared.Outcome.TheVariants.{Found, Nothing, Listed, Refused}
use Rattle.kinds.specs.Answer.{five}
use Rattle.kinds.specs.Promise.{Result}
use Rattle.stripes.specs.Stripe.{root_stripe}
use Rattle.plain.specs.Strips.{covers_limits, last_limits, meets_limits, contains_limits}
use Rattle.walks.specs.Walks as walks
use Rattle.walks.specs.Walks.{listing, room_of}
use Rattle.pools.specs.Cells.{tree_of}
use Rattle.runs.specs.Calls.{Call, set_up, check, insert, delete, smallest_x, largest_x, smallest_y, list, opens, closes, first, last, earliest, covers, meets, contains, save, lent_by, play}
use Rattle.runs.specs.Playing.{Run}

-- what a program does at a call: it knows how many calls came before, so it may behave otherwise later; the lent cells; and what is passed in
abbrev pub Program : Type 0
Program = (before : ℕ) (cells : List ℕ) (call : Call) → Result

-- the outcome is a refusal
abbrev pub is_refusal : Outcome → Bool
is_refusal (Found p) = false
is_refusal Nothing = false
is_refusal (Listed n more) = false
is_refusal (Refused code) = true

-- how many slots a call's walk visits, a strip call's by 01's table; a change has no walk that counts, nor have set up, check and the book
abbrev pub visits_of : List ℕ → Call → ℕ
visits_of c set_up = 0
visits_of c check = 0
visits_of c (insert p) = 0
visits_of c (delete p) = 0
visits_of c (smallest_x q) = (walks.smallest_x q root_stripe (tree_of c)).visits
visits_of c (largest_x q) = (walks.largest_x q root_stripe (tree_of c)).visits
visits_of c (smallest_y x0 x1) = (walks.smallest_y x0 x1 root_stripe (tree_of c)).visits
visits_of c (list q out) = (listing q root_stripe (tree_of c) (room_of out)).visits
visits_of c (opens n) = 0
visits_of c (closes n) = 0
visits_of c (first u) = (walks.smallest_x (covers_limits u) root_stripe (tree_of c)).visits
visits_of c (last u e) = (walks.largest_x (last_limits u e) root_stripe (tree_of c)).visits
visits_of c (earliest u v) = (walks.smallest_y (u * 65536) (v * 65536 + 65535) root_stripe (tree_of c)).visits
visits_of c (covers u out) = (listing (covers_limits u) root_stripe (tree_of c) (room_of out)).visits
visits_of c (meets u v out) = (listing (meets_limits u v) root_stripe (tree_of c) (room_of out)).visits
visits_of c (contains u v out) = (listing (contains_limits u v) root_stripe (tree_of c) (room_of out)).visits
visits_of c (save bytes) = 0

-- the kinds of call: over a pool, over strips, the check, and writing the book
pub data Kind : Type 0 where
  set_ups inserts deletes smallest_xs largest_xs smallest_ys listings : Kind
  openings closings firsts lasts earliests coverings meetings containings : Kind
  checks saves : Kind

-- the kind of a call
abbrev pub kind_of : Call → Kind
kind_of set_up = set_ups
kind_of check = checks
kind_of (insert p) = inserts
kind_of (delete p) = deletes
kind_of (smallest_x q) = smallest_xs
kind_of (largest_x q) = largest_xs
kind_of (smallest_y x0 x1) = smallest_ys
kind_of (list q out) = listings
kind_of (opens n) = openings
kind_of (closes n) = closings
kind_of (first u) = firsts
kind_of (last u e) = lasts
kind_of (earliest u v) = earliests
kind_of (covers u out) = coverings
kind_of (meets u v out) = meetings
kind_of (contains u v out) = containings
kind_of (save bytes) = saves

-- whether calls of a kind write into what they are lent; a question for one pair writes nothing
abbrev pub writes_of : Kind → Bool
writes_of set_ups = true
writes_of inserts = true
writes_of deletes = true
writes_of smallest_xs = false
writes_of largest_xs = false
writes_of smallest_ys = false
writes_of listings = true
writes_of openings = true
writes_of closings = true
writes_of firsts = false
writes_of lasts = false
writes_of earliests = false
writes_of coverings = true
writes_of meetings = true
writes_of containings = true
writes_of checks = false
writes_of saves = true

-- the program meets the promise of a kind's calls, at every input and whenever it is called
abbrev pub KeepsTo : Kind → Program → Type 0
KeepsTo K g = (t : ℕ) (c : List ℕ) (k : Call) → kind_of k ≡ K → g t c k ≡ play c k

-- it meets the promise of every call
abbrev pub KeepsAll : Program → Type 0
KeepsAll g = (t : ℕ) (c : List ℕ) (k : Call) → g t c k ≡ play c k

-- always refusing
abbrev pub AlwaysRefuses : Kind → Program → Type 0
AlwaysRefuses K g = (t : ℕ) (c : List ℕ) (k : Call) → kind_of k ≡ K → is_refusal (g t c k).answer.outcome ≡ true

-- one constant answer
pub record OneAnswer (K : Kind) (g : Program) : Type 0 where
  pub answer : Five
  pub always : (t : ℕ) (c : List ℕ) (k : Call) → kind_of k ≡ K → five (g t c k).answer ≡ answer

-- changing nothing: all that is lent stays as it was
pub record Idle (K : Kind) (g : Program) : Type 0 where
  pub cells : (t : ℕ) (c : List ℕ) (k : Call) → kind_of k ≡ K → (g t c k).cells ≡ c
  pub lent : (t : ℕ) (c : List ℕ) (k : Call) → kind_of k ≡ K → (g t c k).lent ≡ lent_by k

-- working on the first call and pretending later: some later call does not do what the first would have done
pub record Pretends (K : Kind) (g : Program) : Type 0 where
  pub before : ℕ
  pub cells : List ℕ
  pub call : Call
  pub kind : kind_of call ≡ K
  pub differs : g before cells call ≢ g 0 cells call

-- made-up visits: some call that is not refused reports others than the walk's
pub record MadeUp (K : Kind) (g : Program) : Type 0 where
  pub before : ℕ
  pub cells : List ℕ
  pub call : Call
  pub kind : kind_of call ≡ K
  pub serves : is_refusal (g before cells call).answer.outcome ≡ false
  pub differs : (five (g before cells call).answer).visits ≢ visits_of cells call

-- the five wrong programs
pub data Wrong (K : Kind) (g : Program) : Type 0 where
  refuses : AlwaysRefuses K g → Wrong K g
  constant : OneAnswer K g → Wrong K g
  idle : writes_of K ≡ true → Idle K g → Wrong K g
  pretends : Pretends K g → Wrong K g
  made_up : MadeUp K g → Wrong K g

-- the codes of what is not refused: done or found or listed, nothing matches, more matches than room
abbrev pub Served : ℕ → Type 0
Served code = (code ≡ 0) ⊎ ((code ≡ 8) ⊎ (code ≡ 10))

-- a program's own run of calls, each on the cells that the former left
unfoldable pub runs : Program → ℕ → List Call → List ℕ → Run
runs g t [] c = record { results = []; cells = c }
runs g t (k ∷ ks) c =
    let w : Result = g t c k in
    let r : Run = runs g (suc t) ks w.cells in
    record { results = w ∷ r.results; cells = r.cells }
