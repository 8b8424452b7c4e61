-- A program that keeps a promise is none of 01's five wrong programs. What it answers is the promise's, so each law is one of the promise.
use Rattle.std.specs.Prelude.{Option, Some, None}
use Prim.Native.Nat.{ℕ, suc, ◌+◌, ◌*◌}
use mathlib.Core.Path.{◌≡◌, refl, ◌∙◌}
use mathlib.Core.Logic.{inl, inr}
use mathlib.Core.Bool.{true, false}
use mathlib.Core.List.{List, [], ◌∷◌}
use Rattle.kinds.specs.declared.Pair.{Pair}
use Rattle.kinds.specs.declared.Outcome.{Outcome}
use Rattle.kinds.specs.declared.Outcome.TheVariants.{Found, Nothing, Listed, Refused}
use Rattle.kinds.specs.Answer.{five, numbers_of, outcome_of}
use Rattle.kinds.specs.Promise.{Line, Result, by_lines}
use Rattle.kinds.proofs.Promised.{one_answer}
use Rattle.kinds.proofs.Tables.{NoLine, none_holds}
use Rattle.kinds.proofs.Tests.{on, clash}
use Rattle.plain.specs.Books.{Book, plain_insert, plain_delete, plain_smallest_x, plain_largest_x, plain_smallest_y, plain_listing}
use Rattle.plain.specs.Plain.{smallest_x_of, largest_x_of, smallest_y_of}
use Rattle.plain.specs.Strips.{covers_limits, last_limits, plain_open, plain_close, plain_first, plain_last, plain_earliest, plain_covers, plain_meets, plain_contains}
use Rattle.pools.specs.Cells.{stored}
use Rattle.pages.specs.Book.{plain_save}
use Rattle.sound.specs.Promises as check_first
use Rattle.promises.specs.Promises.{insertion, deletion, smallest_x_asked, largest_x_asked, smallest_y_asked, listing_asked, opening, closing, first_to_end, last_to_end, earliest_start, list_covers, list_meets, list_contains, saved}
use Rattle.runs.specs.Calls.{Call, set_up, check, insert, delete, smallest_x, largest_x, smallest_y, list, opens, closes, first, last, earliest, covers, meets, contains, save, promised, lent_by, play, SmallX, Each}
use Rattle.runs.specs.Playing.{play_all, plainly_all, Same, Agrees}
use Rattle.runs.proofs.Played.{plays_all}
use Rattle.marked.specs.Wrong.{is_refusal, visits_of, Program, Kind, kind_of, writes_of, KeepsTo, KeepsAll, AlwaysRefuses, OneAnswer, Idle, Pretends, MadeUp, Wrong, refuses, constant, idle, pretends, made_up, Served, runs}
use Rattle.marked.specs.Samples.{sample}
use Rattle.marked.proofs.Samples.{shown}

-- the code of an outcome that is no refusal
served_code : (o : Outcome) (v : ℕ) → is_refusal o ≡ false → Served (numbers_of o v).code
unfolding numbers_of
served_code (Found p) v f = inl refl
served_code Nothing v f = inr (inl refl)
served_code (Listed n false) v f = inl refl
served_code (Listed n true) v f = inr (inr refl)
served_code (Refused k) v f = absurd (clash refl f)

-- and the visits that it reports are its own
served_visits : (o : Outcome) (v : ℕ) → is_refusal o ≡ false → (numbers_of o v).visits ≡ v
unfolding numbers_of
served_visits (Found p) v f = refl
served_visits Nothing v f = refl
served_visits (Listed n false) v f = refl
served_visits (Listed n true) v f = refl
served_visits (Refused k) v f = absurd (clash refl f)

-- a finding is no refusal
finding_serves : (f : Option Pair) → is_refusal (outcome_of f) ≡ false
finding_serves (Some p) = refl
finding_serves None = refl

-- what no line of a call's table refuses is no refusal
serves : (c : List ℕ) (k : Call) → is_refusal (promised c k).made.answer.outcome ≡ false
unfolding promised check_first.set_up check_first.check insertion plain_insert deletion plain_delete smallest_x_asked plain_smallest_x largest_x_asked plain_largest_x smallest_y_asked plain_smallest_y listing_asked plain_listing opening plain_open closing plain_close first_to_end plain_first last_to_end plain_last earliest_start plain_earliest list_covers plain_covers list_meets plain_meets list_contains plain_contains saved plain_save
serves c set_up = refl
serves c check = refl
serves c (insert p) = refl
serves c (delete p) = refl
serves c (smallest_x q) = finding_serves (smallest_x_of q (stored c))
serves c (largest_x q) = finding_serves (largest_x_of q (stored c))
serves c (smallest_y x0 x1) = finding_serves (smallest_y_of x0 x1 (stored c))
serves c (list q out) = refl
serves c (opens n) = refl
serves c (closes n) = refl
serves c (first u) = finding_serves (smallest_x_of (covers_limits u) (stored c))
serves c (last u e) = finding_serves (largest_x_of (last_limits u e) (stored c))
serves c (earliest u v) = finding_serves (smallest_y_of (u * 65536) (v * 65536 + 65535) (stored c))
serves c (covers u out) = refl
serves c (meets u v out) = refl
serves c (contains u v out) = refl
serves c (save bytes) = refl

-- and its visits are those of its walk
visits_are : (c : List ℕ) (k : Call) → (promised c k).made.answer.visits ≡ visits_of c k
unfolding promised check_first.set_up check_first.check insertion plain_insert deletion plain_delete smallest_x_asked plain_smallest_x largest_x_asked plain_largest_x smallest_y_asked plain_smallest_y listing_asked plain_listing opening plain_open closing plain_close first_to_end plain_first last_to_end plain_last earliest_start plain_earliest list_covers plain_covers list_meets plain_meets list_contains plain_contains saved plain_save
visits_are c set_up = refl
visits_are c check = refl
visits_are c (insert p) = refl
visits_are c (delete p) = refl
visits_are c (smallest_x q) = refl
visits_are c (largest_x q) = refl
visits_are c (smallest_y x0 x1) = refl
visits_are c (list q out) = refl
visits_are c (opens n) = refl
visits_are c (closes n) = refl
visits_are c (first u) = refl
visits_are c (last u e) = refl
visits_are c (earliest u v) = refl
visits_are c (covers u out) = refl
visits_are c (meets u v out) = refl
visits_are c (contains u v out) = refl
visits_are c (save bytes) = refl

-- what a table gives and does not refuse is what it makes
table_made : (ls : List Line) (c out : List ℕ) (made : Result) → is_refusal (by_lines ls c out made).answer.outcome ≡ false → by_lines ls c out made ≡ made
unfolding by_lines
table_made [] c out made f = refl
table_made (l ∷ ls) c out made f = on l.when
    (λ t. absurd (clash refl (rw t at f)))
    (λ n. rw n (table_made ls c out made (rw n at f)))

module _ (c : List ℕ) (k : Call) where
  -- law: what no line of a call's table refuses is answered with 0, 8 or 10
  pub accepted_code : NoLine (promised c k).lines → Served (five (play c k).answer).code
  unfolding five
  accepted_code n =
      rw (none_holds c (lent_by k) (promised c k).made (promised c k).lines n)
      (served_code (promised c k).made.answer.outcome (promised c k).made.answer.visits (serves c k))

  -- law: the visits that a call reports, where it is not refused, are those of its walk
  pub walk_visits : is_refusal (play c k).answer.outcome ≡ false → (five (play c k).answer).visits ≡ visits_of c k
  unfolding five
  walk_visits f =
      rw (table_made (promised c k).lines c (lent_by k) (promised c k).made f)
      (served_visits (promised c k).made.answer.outcome (promised c k).made.answer.visits (serves c k) ∙ visits_are c k)

module _ (K : Kind) (g : Program) (keeps : KeepsTo K g) where
  -- law: what no line of the call's table refuses it answers with 0, 8 or 10
  pub serves_unrefused : (t : ℕ) (c : List ℕ) (k : Call) → kind_of k ≡ K → NoLine (promised c k).lines → Served (five (g t c k).answer).code
  serves_unrefused t c k e n = rw (keeps t c k e) (accepted_code c k n)

  -- law: there is an input that it does not refuse, whenever it comes; so it does not always refuse
  pub serves_somewhere : (t : ℕ) → is_refusal (g t (sample K).served (sample K).call).answer.outcome ≡ false
  serves_somewhere t = rw (keeps t (sample K).served (sample K).call (shown K).kind) (shown K).serves

  pub not_always_refusing : AlwaysRefuses K g → ⊥
  not_always_refusing r = clash (r 0 (sample K).served (sample K).call (shown K).kind) (serves_somewhere 0)

  -- law: it does not give one constant answer
  pub not_constant : OneAnswer K g → ⊥
  not_constant a =
      let s = shown K in
      let k = (sample K).call in
      let c = (sample K).served in
      let d = (sample K).otherwise in
      let e : five (play c k).answer ≡ a.answer = rw (keeps 0 c k s.kind) at (a.always 0 c k s.kind) in
      let f : five (play d k).answer ≡ a.answer = rw (keeps 0 d k s.kind) at (a.always 0 d k s.kind) in
      s.differs (one_answer e f)

  -- law: where calls of its kind write, it does not leave all that it is lent as it was
  pub not_idle : writes_of K ≡ true → Idle K g → ⊥
  not_idle t i =
      let s = shown K in
      let k = (sample K).call in
      let c = (sample K).served in
      s.writes t (rw (keeps 0 c k s.kind) at (i.cells 0 c k s.kind)) (rw (keeps 0 c k s.kind) at (i.lent 0 c k s.kind))

  -- law: at its t-th call it does what it would have done at its first; so it does not pretend later
  pub same_later : (t : ℕ) (c : List ℕ) (k : Call) → kind_of k ≡ K → g t c k ≡ g 0 c k
  same_later t c k e = one_answer (keeps t c k e) (keeps 0 c k e)

  pub not_pretending : Pretends K g → ⊥
  not_pretending p = p.differs (same_later p.before p.cells p.call p.kind)

  -- law: the visits that it reports, where it does not refuse, are those of the walk; so they are not made up
  pub visits_walked : (t : ℕ) (c : List ℕ) (k : Call) → kind_of k ≡ K → is_refusal (g t c k).answer.outcome ≡ false → (five (g t c k).answer).visits ≡ visits_of c k
  visits_walked t c k e f = rw (keeps t c k e) (walk_visits c k (rw (keeps t c k e) at f))

  pub not_made_up : MadeUp K g → ⊥
  not_made_up m = m.differs (visits_walked m.before m.cells m.call m.kind m.serves)

  -- law: so it is none of the five
  pub none_wrong : Wrong K g → ⊥
  none_wrong (refuses r) = not_always_refusing r
  none_wrong (constant a) = not_constant a
  none_wrong (idle t i) = not_idle t i
  none_wrong (pretends p) = not_pretending p
  none_wrong (made_up m) = not_made_up m

module _ (g : Program) (keeps : KeepsAll g) where
  runs_played : (t : ℕ) (ks : List Call) (c : List ℕ) → runs g t ks c ≡ play_all ks c
  unfolding runs play_all
  runs_played t [] c = refl
  runs_played t (k ∷ ks) c = rw (keeps t c k, runs_played (suc t) ks (play c k).cells)

  -- law: over whole sequences of any calls, however late they start, its outcomes and its stored set are those of a plain list
  pub run_agrees : (t : ℕ) (ks : List Call) (c : List ℕ) (b : Book) → Each SmallX ks → Same c b → Agrees ks (runs g t ks c) (plainly_all ks b)
  run_agrees t ks c b z h = rw (runs_played t ks c) (plays_all ks c b z h)
