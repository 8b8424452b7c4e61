-- Any run of any calls, taken back by what was answered: each reversal is accepted, and every cell is as at the start or as the last set up left
-- it. One call at a time: its reversal takes it back, or it changed nothing. It assumes that the x of an inserted pair is of 32 bits.
use Prim.Native.Nat.{ℕ, ◌<◌}
use mathlib.Core.Path.{◌≡◌, refl, ap, ◌∙◌}
use mathlib.Core.Logic.{◌≢◌}
use mathlib.Core.Bool.{Bool, true, false}
use mathlib.Core.List.{List, [], ◌∷◌}
use native.Mathlib.Omega.{arith}
use borrow.Author.Tests.{not-false}
use Rattle.kinds.specs.declared.Answer.{Answer}
use Rattle.kinds.specs.declared.Limits.{Limits}
use Rattle.kinds.specs.declared.Pair.{Pair}
use Rattle.kinds.specs.Answer.{five, numbers_of}
use Rattle.kinds.specs.Promise.{Line, Result, Promise, by_lines, given, accepted}
use Rattle.kinds.proofs.Tables.{Decided, table_decided, refused_same, accepted_made}
use Rattle.kinds.proofs.Tests.{on, clash}
use Rattle.plain.specs.Strips.{bad_strip, plain_open, plain_close}
use Rattle.plain.specs.Books.{plain_insert, plain_delete}
use Rattle.plain.proofs.Having.{true_has_x}
use Rattle.pools.specs.Cells.{stored}
use Rattle.pools.specs.Laid.{inserted, deleted}
use Rattle.pools.proofs.Decided.{pool_true}
use Rattle.pools.proofs.Deleted.{deleted_sound}
use Rattle.pools.proofs.InTree.{of_new}
use Rattle.pools.proofs.Inserted.{inserted_sound}
use Rattle.pools.proofs.TakenBack.{inserted_back, inserted_has, deleted_back, deleted_new, deleted_room}
use Rattle.sound.specs.Promises as check_first
use Rattle.sound.proofs.Meaning.{set_up_stored}
use Rattle.promises.specs.Promises.{insertion, deletion, opening, closing, smallest_x_asked, largest_x_asked, smallest_y_asked, first_to_end, last_to_end, earliest_start, listing_asked, list_covers, list_meets, list_contains, saved}
use Rattle.plain.proofs.Limits.{strip_small}
use Rattle.pool.proofs.Changes.{insert_gives, delete_gives, insert_made, delete_made, insert_accepted, delete_accepted, insert_refused, delete_refused, insert_stored, delete_stored, delete_gone}
use Rattle.runs.specs.Calls.{Named, pair_of, Call, set_up, check, insert, delete, smallest_x, largest_x, smallest_y, list, opens, closes, first, last, earliest, covers, meets, contains, save, promised, play, SmallX, Each}
use Rattle.runs.specs.TakingBack.{Reversal, by, needless, anew, reverse, Ran, after, go_on, run, from, take_back, Gains, Does, Did, TakenBack}

module _ (c : List ℕ) (p : Pair) where
  -- law: what an accepted insert stored was not stored, and is taken out again, and every cell is as it was
  pub insert_gains : p.x < 4294967296 → accepted (insert_gives c p) ≡ true → Gains p c (insert_gives c p).cells
  insert_gains b t = record {
    new = λ m. let e = (insert_accepted c p t).0 in clash (true_has_x p p.x (stored c) m refl) (of_new e.sound p.x e.new);
    rest = insert_stored c p b t;
  }

  insert_back : p.x < 4294967296 → accepted (insert_gives c p) ≡ true
      → ((delete_gives (insert_gives c p).cells p).cells ≡ c) × (accepted (delete_gives (insert_gives c p).cells p) ≡ true)
  unfolding insertion deletion plain_delete five numbers_of
  insert_back b t =
      let m = insert_accepted c p t in
      let e = m.0 in
      let s = inserted_sound e.sound p e.new b e.room in
      let d = delete_made (inserted c p) p (record { sound = s; member = inserted_has e.sound p e.new b e.room s }) in
      rw (m.1, d) (inserted_back e.sound p e.new b e.room, refl)

  -- law: what an accepted delete took out is not stored, and is stored again, and every cell is as it was
  pub delete_loses : accepted (delete_gives c p) ≡ true → Gains p (delete_gives c p).cells c
  delete_loses t = record { new = λ m. delete_gone c p t p m refl; rest = delete_stored c p t }

  delete_back : accepted (delete_gives c p) ≡ true → ((insert_gives (delete_gives c p).cells p).cells ≡ c) × (accepted (insert_gives (delete_gives c p).cells p) ≡ true)
  unfolding insertion deletion plain_insert five numbers_of
  delete_back t =
      let m = delete_accepted c p t in
      let e = m.0 in
      let s = deleted_sound e.sound p e.member in
      let d = insert_made (deleted c p.x) p (record { sound = s; new = deleted_new e.sound p e.member s; room = deleted_room e.sound p e.member }) in
      rw (m.1, d) (deleted_back e.sound p e.member, refl)

-- a strip call is the pool's change of its pair, where the strip's own line does not hold; and so it is where it is accepted
module _ (c : List ℕ) (n : Named) where
  abbrev bad : Bool
  bad = bad_strip n.start n.end n.number

  open_passed : bad ≡ false → play c (opens n) ≡ insert_gives c (pair_of n)
  unfolding promised opening plain_open insertion plain_insert by_lines
  open_passed f = rw f

  close_passed : bad ≡ false → play c (closes n) ≡ delete_gives c (pair_of n)
  unfolding promised closing plain_close deletion plain_delete by_lines
  close_passed f = rw f

  open_view : Decided (promised c (opens n)).lines c [] (promised c (opens n)).made (play c (opens n))
  unfolding promised opening plain_open
  open_view = table_decided _ c [] _

  close_view : Decided (promised c (closes n)).lines c [] (promised c (closes n)).made (play c (closes n))
  unfolding promised closing plain_close
  close_view = table_decided _ c [] _

  open_good : accepted (play c (opens n)) ≡ true → bad ≡ false
  unfolding promised opening plain_open
  open_good t = (accepted_made open_view t).0.1.1.0

  close_good : accepted (play c (closes n)) ≡ true → bad ≡ false
  unfolding promised closing plain_close
  close_good t = (accepted_made close_view t).0.1.1.0

  open_refused : accepted (play c (opens n)) ≡ false → (play c (opens n)).cells ≡ c
  unfolding promised opening plain_open five numbers_of
  open_refused f = refused_same open_view refl f

  close_refused : accepted (play c (closes n)) ≡ false → (play c (closes n)).cells ≡ c
  unfolding promised closing plain_close five numbers_of
  close_refused f = refused_same close_view refl f

small_x : (n : Named) → bad_strip n.start n.end n.number ≡ false → (pair_of n).x < 4294967296
small_x n f = strip_small n.start n.end n.number f

-- what a call leaves is taken back by a call that is accepted
record Back (c d : List ℕ) (k : Call) : Type 0 where
  cells : (play d k).cells ≡ c
  taken : accepted (play d k) ≡ true

-- how an accepted call goes on: it is taken back by its reversal; or has changed nothing; or taking back counts from it
abbrev After : List ℕ → Result → Reversal → Type 0
After c w (by k) = Back c w.cells k
After c w needless = w.cells ≡ c
After c w anew = Unit {0}

-- a call that only asks leaves the pool, refused or not
asks : (P : Promise) (c out : List ℕ) → P.made.cells ≡ c → (given P c out).cells ≡ c
unfolding by_lines
asks P c out e = go P.lines
  where
    go : (ls : List Line) → (by_lines ls c out P.made).cells ≡ c
    go [] = e
    go (l ∷ ls) = let r = go ls in on l.when (λ t. rw t) (λ f. rw f r)

module _ (c : List ℕ) where
  -- the questions, the check and the book leave every cell
  check_same : (play c check).cells ≡ c
  unfolding promised check_first.check
  check_same = asks (promised c check) c [] refl

  smallest_x_same : (q : Limits) → (play c (smallest_x q)).cells ≡ c
  unfolding promised smallest_x_asked
  smallest_x_same q = asks (promised c (smallest_x q)) c [] refl

  largest_x_same : (q : Limits) → (play c (largest_x q)).cells ≡ c
  unfolding promised largest_x_asked
  largest_x_same q = asks (promised c (largest_x q)) c [] refl

  smallest_y_same : (x0 x1 : ℕ) → (play c (smallest_y x0 x1)).cells ≡ c
  unfolding promised smallest_y_asked
  smallest_y_same x0 x1 = asks (promised c (smallest_y x0 x1)) c [] refl

  list_same : (q : Limits) (out : List ℕ) → (play c (list q out)).cells ≡ c
  unfolding promised listing_asked
  list_same q out = asks (promised c (list q out)) c out refl

  first_same : (u : ℕ) → (play c (first u)).cells ≡ c
  unfolding promised first_to_end
  first_same u = asks (promised c (first u)) c [] refl

  last_same : (u e : ℕ) → (play c (last u e)).cells ≡ c
  unfolding promised last_to_end
  last_same u e = asks (promised c (last u e)) c [] refl

  earliest_same : (u v : ℕ) → (play c (earliest u v)).cells ≡ c
  unfolding promised earliest_start
  earliest_same u v = asks (promised c (earliest u v)) c [] refl

  covers_same : (u : ℕ) (out : List ℕ) → (play c (covers u out)).cells ≡ c
  unfolding promised list_covers
  covers_same u out = asks (promised c (covers u out)) c out refl

  meets_same : (u v : ℕ) (out : List ℕ) → (play c (meets u v out)).cells ≡ c
  unfolding promised list_meets
  meets_same u v out = asks (promised c (meets u v out)) c out refl

  contains_same : (u v : ℕ) (out : List ℕ) → (play c (contains u v out)).cells ≡ c
  unfolding promised list_contains
  contains_same u v out = asks (promised c (contains u v out)) c out refl

  save_same : (bytes : List ℕ) → (play c (save bytes)).cells ≡ c
  unfolding promised saved
  save_same bytes = asks (promised c (save bytes)) c bytes refl

  set_up_view : Decided (check_first.set_up c).lines c [] (check_first.set_up c).made (play c set_up)
  unfolding promised check_first.set_up
  set_up_view = table_decided _ c [] _

  set_up_empties : accepted (play c set_up) ≡ true → stored (play c set_up).cells ≡ []
  unfolding promised check_first.set_up
  set_up_empties t = set_up_stored c (pool_true c (not-false _ (accepted_made set_up_view t).0.0))

  set_up_refused : accepted (play c set_up) ≡ false → (play c set_up).cells ≡ c
  unfolding promised check_first.set_up five numbers_of
  set_up_refused f = refused_same set_up_view refl f

-- a strip call taken back by the other
open_back : (c : List ℕ) (n : Named) → accepted (play c (opens n)) ≡ true → Back c (play c (opens n)).cells (closes n)
open_back c n t =
    let f = open_good c n t in
    let e = open_passed c n f in
    let i = insert_back c (pair_of n) (small_x n f) (rw e at t) in
    let d = close_passed (insert_gives c (pair_of n)).cells n f in
    rw e (record { cells = rw d i.0; taken = rw d i.1 })

close_back : (c : List ℕ) (n : Named) → accepted (play c (closes n)) ≡ true → Back c (play c (closes n)).cells (opens n)
close_back c n t =
    let f = close_good c n t in
    let e = close_passed c n f in
    let i = delete_back c (pair_of n) (rw e at t) in
    let d = open_passed (delete_gives c (pair_of n)).cells n f in
    rw e (record { cells = rw d i.0; taken = rw d i.1 })

-- whether taking back counts from a call
abbrev is_anew : Reversal → Bool
is_anew (by k) = false
is_anew needless = false
is_anew anew = true

not_anew : (k : Call) (a : Answer) → k ≢ set_up → reverse k a ≢ anew
not_anew set_up a d e = d refl
not_anew check a d e = clash (ap is_anew e) refl
not_anew (insert p) a d e = clash (ap is_anew e) refl
not_anew (delete p) a d e = clash (ap is_anew e) refl
not_anew (smallest_x q) a d e = clash (ap is_anew e) refl
not_anew (largest_x q) a d e = clash (ap is_anew e) refl
not_anew (smallest_y x0 x1) a d e = clash (ap is_anew e) refl
not_anew (list q out) a d e = clash (ap is_anew e) refl
not_anew (opens n) a d e = clash (ap is_anew e) refl
not_anew (closes n) a d e = clash (ap is_anew e) refl
not_anew (first u) a d e = clash (ap is_anew e) refl
not_anew (last u e) a d f = clash (ap is_anew f) refl
not_anew (earliest u v) a d e = clash (ap is_anew e) refl
not_anew (covers u out) a d e = clash (ap is_anew e) refl
not_anew (meets u v out) a d e = clash (ap is_anew e) refl
not_anew (contains u v out) a d e = clash (ap is_anew e) refl
not_anew (save bytes) a d e = clash (ap is_anew e) refl

-- one accepted call
back : (c : List ℕ) (k : Call) → SmallX k → accepted (play c k) ≡ true → After c (play c k) (reverse k (play c k).answer)
unfolding promised
back c set_up b t = tt
back c check b t = check_same c
back c (insert p) b t = let i = insert_back c p (b p refl) t in record { cells = i.0; taken = i.1 }
back c (delete p) b t = let i = delete_back c p t in record { cells = i.0; taken = i.1 }
back c (smallest_x q) b t = smallest_x_same c q
back c (largest_x q) b t = largest_x_same c q
back c (smallest_y x0 x1) b t = smallest_y_same c x0 x1
back c (list q out) b t = list_same c q out
back c (opens n) b t = open_back c n t
back c (closes n) b t = close_back c n t
back c (first u) b t = first_same c u
back c (last u e) b t = last_same c u e
back c (earliest u v) b t = earliest_same c u v
back c (covers u out) b t = covers_same c u out
back c (meets u v out) b t = meets_same c u v out
back c (contains u v out) b t = contains_same c u v out
back c (save bytes) b t = save_same c bytes

-- one that is not accepted leaves every cell
stay : (c : List ℕ) (k : Call) → accepted (play c k) ≡ false → (play c k).cells ≡ c
unfolding promised
stay c set_up f = set_up_refused c f
stay c check f = check_same c
stay c (insert p) f = insert_refused c p f
stay c (delete p) f = delete_refused c p f
stay c (smallest_x q) f = smallest_x_same c q
stay c (largest_x q) f = largest_x_same c q
stay c (smallest_y x0 x1) f = smallest_y_same c x0 x1
stay c (list q out) f = list_same c q out
stay c (opens n) f = open_refused c n f
stay c (closes n) f = close_refused c n f
stay c (first u) f = first_same c u
stay c (last u e) f = last_same c u e
stay c (earliest u v) f = earliest_same c u v
stay c (covers u out) f = covers_same c u out
stay c (meets u v out) f = meets_same c u v out
stay c (contains u v out) f = contains_same c u v out
stay c (save bytes) f = save_same c bytes

-- what an accepted one does to the stored set
does : (c : List ℕ) (k : Call) → SmallX k → accepted (play c k) ≡ true → Does k c (play c k).cells
unfolding promised
does c set_up b t = set_up_empties c t
does c check b t = check_same c
does c (insert p) b t = insert_gains c p (b p refl) t
does c (delete p) b t = delete_loses c p t
does c (smallest_x q) b t = smallest_x_same c q
does c (largest_x q) b t = largest_x_same c q
does c (smallest_y x0 x1) b t = smallest_y_same c x0 x1
does c (list q out) b t = list_same c q out
does c (opens n) b t = let f = open_good c n t in let e = open_passed c n f in rw e (insert_gains c (pair_of n) (small_x n f) (rw e at t))
does c (closes n) b t = let f = close_good c n t in let e = close_passed c n f in rw e (delete_loses c (pair_of n) (rw e at t))
does c (first u) b t = first_same c u
does c (last u e) b t = last_same c u e
does c (earliest u v) b t = earliest_same c u v
does c (covers u out) b t = covers_same c u out
does c (meets u v out) b t = meets_same c u v out
does c (contains u v out) b t = contains_same c u v out
does c (save bytes) b t = save_same c bytes

-- all that was accepted so far can be taken back
abbrev Can : Ran → Type 0
Can r = take_back r.back r.cells ≡ record { cells = r.since; all = true }

can_after : (r : Ran) (w : Result) (v : Reversal) → After r.cells w v → Can r → Can (after v w r)
unfolding take_back
can_after r w (by k) a h = rw (a.cells, a.taken) h
can_after r w needless a h = rw a h
can_after r w anew a h = refl

can_go_on : (r : Ran) (k : Call) → SmallX k → Can r → Can (go_on r k)
can_go_on r k b h = on (accepted (play r.cells k))
    (λ t. rw t (can_after r (play r.cells k) (reverse k (play r.cells k).answer) (back r.cells k b t) h))
    (λ f. rw f (can_after r (play r.cells k) needless (stay r.cells k f) h))

can_run : (ks : List Call) (r : Ran) → Each SmallX ks → Can r → Can (run ks r)
unfolding run
can_run [] r b h = h
can_run (k ∷ ks) r b h = can_run ks (go_on r k) b.1 (can_go_on r k b.0 h)

all_did : (ks : List Call) (c : List ℕ) → Each SmallX ks → Did ks c
unfolding Did
all_did [] c b = tt
all_did (k ∷ ks) c b = (does c k b.0, stay c k, all_did ks (play c k).cells b.1)

-- law: any run of any calls, from any cells, is taken back exactly, to the cells at the start or to those that the last set up left
pub taken_back : (ks : List Call) (c : List ℕ) → Each SmallX ks → TakenBack ks c
unfolding take_back
taken_back ks c b = record { did = all_did ks c b; returned = can_run ks (from c) b refl }

-- law: where nothing is set up anew, taking back counts from the start
pub since_from_start : (ks : List Call) (r : Ran) → Each (λ k. k ≢ set_up) ks → (run ks r).since ≡ r.since
unfolding run
since_from_start [] r n = refl
since_from_start (k ∷ ks) r n = since_from_start ks (go_on r k) n.1 ∙ kept r k n.0
  where
    same : (v : Reversal) (w : Result) (r : Ran) → v ≢ anew → (after v w r).since ≡ r.since
    same (by k) w r d = refl
    same needless w r d = refl
    same anew w r d = absurd (d refl)

    kept : (r : Ran) (k : Call) → k ≢ set_up → (go_on r k).since ≡ r.since
    kept r k d = on (accepted (play r.cells k))
        (λ t. rw t (same (reverse k (play r.cells k).answer) (play r.cells k) r (not_anew k _ d)))
        (λ f. rw f)

-- law: then every cell is as at the start
pub taken_back_whole : (ks : List Call) (c : List ℕ) → Each SmallX ks → Each (λ k. k ≢ set_up) ks
    → take_back (run ks (from c)).back (run ks (from c)).cells ≡ record { cells = c; all = true }
taken_back_whole ks c b n = (taken_back ks c b).returned ∙ ap (λ d. record { cells = d; all = true }) (since_from_start ks (from c) n)
