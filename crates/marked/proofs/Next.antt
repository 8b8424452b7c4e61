-- An accepted pair is found by each next question, and a deleted one by none: of all stored pairs it alone has its x. It assumes a program that
-- keeps every promise; the x of an inserted pair is of 32 bits.
use Prim.Native.Nat.{ℕ, zero, suc, ◌≤◌, ◌<◌}
use mathlib.Core.Path.{◌≡◌, refl, sym, ap, ◌∙◌, subst}
use mathlib.Core.Logic.{◌≢◌, inl}
use mathlib.Core.Bool.{true, false}
use mathlib.Core.List.{List, [], ◌∷◌, map, Memᴰ}
use native.Mathlib.Omega.{arith}
use lib.Dec.{ltb, leb}
use lib.ListN.{take}
use borrow.Author.Tests.{leb-true, le-leb, le-ltb, eq-eqb}
use Rattle.kinds.specs.declared.Outcome.TheVariants.{Found as found_pair, Nothing as no_pair, Listed}
use Rattle.kinds.specs.declared.Limits.{Limits}
use Rattle.kinds.specs.declared.Pair.{Pair}
use Rattle.kinds.specs.Answer.{five}
use Rattle.pools.specs.Cells.{stored}
use Rattle.kinds.specs.Pairs.{beats}
use Rattle.plain.specs.Plain.{in_range, matches, limits, Apart}
use Rattle.pools.specs.Sound.{Sound}
use Rattle.walks.specs.Walks.{room_of, written}
use Rattle.plain.proofs.Closest.{by_beats}
use Rattle.plain.proofs.Apart.{apart_same}
use Rattle.plain.proofs.Scan.{smallest_x_of_found, largest_x_of_found, smallest_y_of_found, smallest_x_of_nothing, largest_x_of_nothing, smallest_y_of_nothing}
use Rattle.pools.proofs.Stored.{stored_apart}
use Rattle.kinds.proofs.Tests.{on, both, and_true}
use Rattle.kinds.specs.Promise.{given}
use Rattle.plain.specs.Books.{plain_smallest_x, plain_largest_x, plain_smallest_y}
use Rattle.sound.specs.Promises.{behind_check}
use Rattle.sound.proofs.Lines.{entry_made}
use Rattle.promises.specs.Promises.{smallest_x_asked, largest_x_asked, smallest_y_asked, listing_asked}
use Rattle.pool.specs.Showing.{Shows}
use Rattle.pool.proofs.Changes.{insert_gives, delete_gives, insert_accepted, insert_sound, insert_stored, delete_accepted, delete_sound, delete_gone}
use Rattle.pool.proofs.Shown.{listing_shows}
use Rattle.runs.specs.Calls as calls
use Rattle.runs.specs.Calls.{promised}
use Rattle.runs.proofs.TakenBack.{insert_gains, delete_loses}
use Rattle.marked.specs.Next.{Finds, Misses}
use Rattle.marked.specs.Wrong.{Program, KeepsAll}

-- a pair of a range of one number has it for its x
x_is : (x : ℕ) (q : Pair) → in_range x x q ≡ true → q.x ≡ x
x_is x q h = let e = both (leb x q.x) (leb q.x x) h in omega (arith, leb-true x q.x e.0, leb-true q.x x e.1)

-- the range of a pair's own x has it
own_range : (p : Pair) → in_range p.x p.x p ≡ true
own_range p = let e = le-leb p.x p.x (omega arith) in and_true e e

own_matches : (p : Pair) → matches (limits p.x p.x p.y) p ≡ true
own_matches p = and_true (own_range p) (le-leb p.y p.y (omega arith))

match_x : (x y1 : ℕ) (q : Pair) → matches (limits x x y1) q ≡ true → q.x ≡ x
match_x x y1 q h = x_is x q (both (in_range x x q) (leb q.y y1) h).0

-- no number is smaller than itself
not_below : (a b : ℕ) → a ≡ b → ltb a b ≡ false
not_below a b e = le-ltb a b (omega arith)

-- a list of one pair alone, and of none
only_one : (p : Pair) (qs : List Pair) → Apart (map (λ q. q.x) qs) → Memᴰ p qs → ((q : Pair) → Memᴰ q qs → q ≡ p) → qs ≡ p ∷ []
only_one p [] a m h = elim m [ ]
only_one p (q ∷ []) a m h = ap (λ q. q ∷ []) (h q (Memᴰ.head refl))
only_one p (q ∷ r ∷ qs) a m h =
    absurd (a.0.0 (ap (λ q. q.x) (h q (Memᴰ.head refl) ∙ sym (h r (Memᴰ.tail (Memᴰ.head refl))))))

no_one : (qs : List Pair) → ((q : Pair) → Memᴰ q qs → ⊥) → qs ≡ []
no_one [] h = refl
no_one (q ∷ qs) h = absurd (h q (Memᴰ.head refl))

take_one : (n : ℕ) (p : Pair) → 1 ≤ n → take n (p ∷ []) ≡ p ∷ []
take_one zero p h = absurd (omega arith)
take_one (suc zero) p h = refl
take_one (suc (suc n)) p h = refl

take_none : (n : ℕ) → take {A = Pair} n [] ≡ []
take_none zero = refl
take_none (suc n) = refl

module _ (g : Program) (keeps : KeepsAll g) {d : List ℕ} (s : Sound d) where
  -- a stored pair is found
  module _ (p : Pair) (m : Memᴰ p (stored d)) where
    abbrev own : Limits
    own = limits p.x p.x p.y

    abbrev forwards : ltb p.x p.x ≡ false
    forwards = not_below p.x p.x refl

    alone : (q : Pair) → Memᴰ q (stored d) → q.x ≡ p.x → q ≡ p
    alone q n e = apart_same (λ p. p.x) (stored d) (stored_apart s) q p n m e

    not_beaten : (q : Pair) → Memᴰ q (stored d) → in_range p.x p.x q ≡ true → beats q p ≡ false
    not_beaten q n o = let e = alone q n (x_is p.x q o) in rw e (on (beats p p) (λ t. by_beats.asym p p t) (λ f. f))

    found_smallest : (given (behind_check d (smallest_x_asked d own)) d []).answer.outcome ≡ found_pair p
    unfolding smallest_x_asked plain_smallest_x
    found_smallest =
        let h = (smallest_x_of_found (stored d) (stored_apart s) p own).1 (record {
          member = m;
          fits = own_matches p;
          ahead = λ q n o. not_below q.x p.x (match_x p.x p.y q o);
        }) in
        rw (entry_made s (smallest_x_asked d own) [] (forwards, tt), h)

    found_largest : (given (behind_check d (largest_x_asked d own)) d []).answer.outcome ≡ found_pair p
    unfolding largest_x_asked plain_largest_x
    found_largest =
        let h = (largest_x_of_found (stored d) (stored_apart s) p own).1 (record {
          member = m;
          fits = own_matches p;
          ahead = λ q n o. not_below p.x q.x (sym (match_x p.x p.y q o));
        }) in
        rw (entry_made s (largest_x_asked d own) [] (forwards, tt), h)

    found_lowest : (given (behind_check d (smallest_y_asked d p.x p.x)) d []).answer.outcome ≡ found_pair p
    unfolding smallest_y_asked plain_smallest_y
    found_lowest =
        let h = (smallest_y_of_found (stored d) (stored_apart s) p p.x p.x).1 (record { member = m; fits = own_range p; ahead = not_beaten }) in
        rw (entry_made s (smallest_y_asked d p.x p.x) [] (forwards, tt), h)

    module _ (out : List ℕ) (r : 1 ≤ room_of out) where
      abbrev shows : Shows d out (λ q. matches own q ≡ true) (given (behind_check d (listing_asked d own out)) d out)
      shows = listing_shows s own out forwards

      listed_alone : shows.all ≡ p ∷ []
      listed_alone =
          only_one p shows.all shows.once ((shows.exactly p).1 (m, own_matches p))
          (λ q n. let e = (shows.exactly q).0 n in alone q e.0 (match_x p.x p.y q e.1))

      found_listed : (given (behind_check d (listing_asked d own out)) d out).answer.outcome ≡ Listed 1 false
      found_listed = shows.outcome ∙ rw (listed_alone, take_one (room_of out) p r, le-ltb (room_of out) 1 r)

      found_written : (given (behind_check d (listing_asked d own out)) d out).lent ≡ written (p ∷ []) out
      found_written = shows.lent ∙ rw (listed_alone, take_one (room_of out) p r)

    finds : Finds g d p
    unfolding promised
    finds = record {
      smallest_x = λ t. rw (keeps t d (calls.smallest_x own)) found_smallest;
      largest_x = λ t. rw (keeps t d (calls.largest_x own)) found_largest;
      smallest_y = λ t. rw (keeps t d (calls.smallest_y p.x p.x)) found_lowest;
      listing = λ t out r. rw (keeps t d (calls.list own out)) (found_listed out r);
      lists = λ t out r. rw (keeps t d (calls.list own out)) (found_written out r);
    }

  -- an x that no stored pair has is found by none
  module _ (x : ℕ) (none : (q : Pair) → Memᴰ q (stored d) → x ≢ q.x) where
    abbrev onwards : ltb x x ≡ false
    onwards = not_below x x refl

    no_match : (y1 : ℕ) (q : Pair) → Memᴰ q (stored d) → matches (limits x x y1) q ≡ false
    no_match y1 q n = on (matches (limits x x y1) q) (λ t. absurd (none q n (sym (match_x x y1 q t)))) (λ f. f)

    no_range : (q : Pair) → Memᴰ q (stored d) → in_range x x q ≡ false
    no_range q n = on (in_range x x q) (λ t. absurd (none q n (sym (x_is x q t)))) (λ f. f)

    missed_smallest : (y1 : ℕ) → (given (behind_check d (smallest_x_asked d (limits x x y1))) d []).answer.outcome ≡ no_pair
    unfolding smallest_x_asked plain_smallest_x
    missed_smallest y1 =
        rw (entry_made s (smallest_x_asked d (limits x x y1)) [] (onwards, tt), (smallest_x_of_nothing (stored d) (limits x x y1)).1 (no_match y1))

    missed_largest : (y1 : ℕ) → (given (behind_check d (largest_x_asked d (limits x x y1))) d []).answer.outcome ≡ no_pair
    unfolding largest_x_asked plain_largest_x
    missed_largest y1 =
        rw (entry_made s (largest_x_asked d (limits x x y1)) [] (onwards, tt), (largest_x_of_nothing (stored d) (limits x x y1)).1 (no_match y1))

    missed_lowest : (given (behind_check d (smallest_y_asked d x x)) d []).answer.outcome ≡ no_pair
    unfolding smallest_y_asked plain_smallest_y
    missed_lowest = rw (entry_made s (smallest_y_asked d x x) [] (onwards, tt), (smallest_y_of_nothing (stored d) x x).1 no_range)

    module _ (y1 : ℕ) (out : List ℕ) where
      abbrev shows_none : Shows d out (λ q. matches (limits x x y1) q ≡ true) (given (behind_check d (listing_asked d (limits x x y1) out)) d out)
      shows_none = listing_shows s (limits x x y1) out onwards

      none_listed : shows_none.all ≡ []
      none_listed = no_one shows_none.all (λ q n. let e = (shows_none.exactly q).0 n in none q e.0 (sym (match_x x y1 q e.1)))

      missed_listed : (given (behind_check d (listing_asked d (limits x x y1) out)) d out).answer.outcome ≡ Listed 0 false
      missed_listed = shows_none.outcome ∙ rw (none_listed, take_none (room_of out), le-ltb (room_of out) 0 (omega arith))

      missed_written : (given (behind_check d (listing_asked d (limits x x y1) out)) d out).lent ≡ out
      missed_written = shows_none.lent ∙ rw (none_listed, take_none (room_of out))

    misses : Misses g d x
    unfolding promised
    misses = record {
      smallest_x = λ t y1. rw (keeps t d (calls.smallest_x (limits x x y1))) (missed_smallest y1);
      largest_x = λ t y1. rw (keeps t d (calls.largest_x (limits x x y1))) (missed_largest y1);
      smallest_y = λ t. rw (keeps t d (calls.smallest_y x x)) missed_lowest;
      listing = λ t y1 out. rw (keeps t d (calls.list (limits x x y1) out)) (missed_listed y1 out);
      lists = λ t y1 out. rw (keeps t d (calls.list (limits x x y1) out)) (missed_written y1 out);
    }

module _ (g : Program) (keeps : KeepsAll g) (t : ℕ) (c : List ℕ) (p : Pair) where
  -- law: an insert that is accepted changes the cells, and the pair is found by each next question
  module _ (small : p.x < 4294967296) (a : (five (g t c (calls.insert p)).answer).code ≡ 0) where
    taken : (five (insert_gives c p).answer).code ≡ 0
    unfolding promised
    taken = rw (keeps t c (calls.insert p)) at a

    pub insert_changes : (g t c (calls.insert p)).cells ≢ c
    unfolding promised
    insert_changes e =
        let n = insert_gains c p small (eq-eqb _ 0 taken) in
        let i : (insert_gives c p).cells ≡ c = rw (keeps t c (calls.insert p)) at e in
        n.new (subst (λ l. Memᴰ p (stored l)) i ((n.rest p).1 (inl refl)))

    pub insert_found : Finds g (g t c (calls.insert p)).cells p
    unfolding promised
    insert_found =
        let k = eq-eqb _ 0 taken in
        let s = (insert_accepted c p k).0.sound in
        rw (keeps t c (calls.insert p)) (finds g keeps (insert_sound c p small s) p ((insert_stored c p small k p).1 (inl refl)))

  -- law: a delete that is accepted changes the cells, and the pair is found by no next question
  module _ (a : (five (g t c (calls.delete p)).answer).code ≡ 0) where
    gone : (five (delete_gives c p).answer).code ≡ 0
    unfolding promised
    gone = rw (keeps t c (calls.delete p)) at a

    pub delete_changes : (g t c (calls.delete p)).cells ≢ c
    unfolding promised
    delete_changes e =
        let n = delete_loses c p (eq-eqb _ 0 gone) in
        let i : (delete_gives c p).cells ≡ c = rw (keeps t c (calls.delete p)) at e in
        n.new (subst (λ l. Memᴰ p (stored l)) (sym i) ((n.rest p).1 (inl refl)))

    pub delete_missed : Misses g (g t c (calls.delete p)).cells p.x
    unfolding promised
    delete_missed =
        let k = eq-eqb _ 0 gone in
        let s = (delete_accepted c p k).0.sound in
        rw (keeps t c (calls.delete p)) (misses g keeps (delete_sound c p s) p.x (delete_gone c p k))
