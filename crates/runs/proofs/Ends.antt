-- How each call fits its fellow over a plain list with the same pairs. It assumes a sound pool and a plain list with the same pairs (`Same`);
-- the x of an inserted pair is of 32 bits.
use Prim.Native.Nat.{ℕ, ◌<◌, ◌*◌, ◌+◌}
use mathlib.Core.Path.{◌≡◌, refl, sym, ap, ◌∙◌}
use mathlib.Core.Logic.{inl, inr, ⊎_elim}
use mathlib.Core.Bool.{true, false, not, ◌&&◌}
use mathlib.Core.List.Memᴰ
use mathlib.Core.List.{List, [], ◌∷◌, ◌++◌}
use lib.Dec.{leb}
use lib.ListN.{length, drop}
use borrow.Author.Tests.{ne_eqb, eqb-false, not-true, not-false}
use Rattle.kinds.specs.declared.Limits.{Limits}
use Rattle.kinds.specs.declared.Pair.{Pair}
use Rattle.kinds.specs.Answer.{outcome_of}
use Rattle.kinds.specs.Promise.{Line}
use Rattle.stripes.specs.Stripe.{root_stripe}
use Rattle.plain.specs.Books.{Book, lists, without, plain_insert, plain_delete, plain_smallest_x, plain_largest_x, plain_smallest_y, plain_listing}
use Rattle.plain.specs.Plain.{matches, those, has_x, has, smallest_x_of, largest_x_of, smallest_y_of}
use Rattle.plain.specs.Strips.{strip_pair, covers_limits, last_limits, meets_limits, contains_limits, plain_open, plain_close, plain_first, plain_last, plain_earliest, plain_covers, plain_meets, plain_contains}
use Rattle.plain.proofs.Alike.{has_x_alike, has_alike, length_alike, differs_of}
use Rattle.plain.proofs.Counts.{those_count}
use Rattle.plain.proofs.Scan.{smallest_x_of_alike, largest_x_of_alike, smallest_y_of_alike}
use Rattle.plain.proofs.Those.{those_mem, those_apart}
use Rattle.trees.specs.Tree.{members}
use Rattle.walks.specs.Walks.{room_of, written}
use Rattle.walks.proofs.Lists.{listing_pairs}
use Rattle.pools.specs.Cells.{slots_of, free_of, stored, book_of, tree_of}
use Rattle.pools.specs.Laid.{inserted, deleted}
use Rattle.pools.specs.Sound.{Sound}
use Rattle.pools.proofs.Deleted.{deleted_sound, deleted_length, deleted_stored, deleted_gone}
use Rattle.pools.proofs.InTree.{tree_well, members_stored, members_apart, new_of, has_mem, full_is}
use Rattle.pools.proofs.Inserted.{inserted_sound, inserted_length, inserted_stored}
use Rattle.pools.proofs.Stored.{stored_apart}
use Rattle.pages.specs.Book.{by_x, version_one, book_bytes, plain_save}
use Rattle.pages.proofs.Ascending.{by_x_mem, by_x_rises, rises_one}
use Rattle.promises.specs.Promises.{walk_listed, insertion, deletion, opening, closing, smallest_x_asked, largest_x_asked, smallest_y_asked, first_to_end, last_to_end, earliest_start, listing_asked, list_covers, list_meets, list_contains, saved}
use Rattle.plain.proofs.Limits.{strip_small}
use Rattle.runs.specs.Playing.{Same}
use Rattle.runs.proofs.Fits.{FitsPlain}

module _ {c : List ℕ} {b : Book} (h : Same c b) where
  abbrev s : Sound c
  s = h.sound

  -- the same tests over both
  as_many : length (stored c) ≡ length b.pairs
  as_many = length_alike (stored c) b.pairs (stored_apart s) h.apart h.alike

  has_x_same : (x : ℕ) → has_x x (stored c) ≡ has_x x b.pairs
  has_x_same x = has_x_alike x (stored c) b.pairs h.alike

  has_same : (p : Pair) → has p (stored c) ≡ has p b.pairs
  has_same p = has_alike p (stored c) b.pairs h.alike

  full_same : leb (slots_of c) (length (stored c)) ≡ leb b.room (length b.pairs)
  full_same = rw (as_many, h.room)

  -- a pair that is stored is written to the list
  insert_same : (p : Pair) → p.x < 4294967296 → has_x p.x b.pairs ≡ false → leb b.room (length b.pairs) ≡ false
      → Same (inserted c p) (record { pairs = p ∷ b.pairs; room = b.room })
  insert_same p small t f =
      let n = new_of s p.x (has_x_same p.x ∙ t) in
      let r = eqb-false (free_of c) 0 (sym (full_is s) ∙ (full_same ∙ f)) in
      let m = inserted_stored s p n small r in
      let l = inserted_length s p n small r in
      let e = h.room in
      record {
        sound = inserted_sound s p n small r;
        alike = λ q. (
          λ k. ⊎_elim (λ d. Memᴰ.head d) (λ k. Memᴰ.tail ((h.alike q).0 k)) ((m q).0 k),
          λ k. (m q).1 (⊎_elim (λ d. inl d) (λ k. inr ((h.alike q).1 k)) (Memᴰ.cases_cons k)),
        );
        apart = (differs_of p.x b.pairs t, h.apart);
        room = rw l e;
      }

  -- a pair that is taken out is struck out
  delete_same : (p : Pair) → has p b.pairs ≡ true → Same (deleted c p.x) (record { pairs = without p.x b.pairs; room = b.room })
  delete_same p f =
      let k = has_mem s p (has_same p ∙ f) in
      let m = deleted_stored s p k in
      let g = deleted_gone s p k in
      let l = deleted_length s p k in
      let e = h.room in
      record {
        sound = deleted_sound s p k;
        alike = λ q. (
          λ i. (those_mem _ q b.pairs).1 ((h.alike q).0 ((m q).1 (inr i)), ap not (ne_eqb q.x p.x (λ d. g q i (sym d)))),
          λ i. let r = (those_mem _ q b.pairs).0 i in
              ⊎_elim (λ d. absurd (eqb-false _ _ (not-true _ r.1) (ap (λ q. q.x) d))) (λ j. j) ((m q).0 ((h.alike q).1 r.0)),
        );
        apart = those_apart _ b.pairs h.apart;
        room = rw l e;
      }

  pub insert_fits : (p : Pair) → p.x < 4294967296 → FitsPlain b (insertion c p) (plain_insert p b) []
  unfolding insertion plain_insert
  insert_fits p small = record {
    lines = rw (has_x_same p.x, full_same);
    outcome = refl;
    same = λ n. insert_same p small n.0 n.1.0;
    wrote = λ n. refl;
  }

  pub open_fits : (start end number : ℕ) → FitsPlain b (opening c start end number) (plain_open start end number b) []
  unfolding opening plain_open
  open_fits start end number =
      let p = strip_pair start end number in
      record {
        lines = rw (has_x_same p.x, full_same);
        outcome = refl;
        same = λ n. insert_same p (strip_small start end number n.0) n.1.0 n.1.1.0;
        wrote = λ n. refl;
      }

  -- x stands in the list, and not with another y
  there : (p : Pair) → not (has_x p.x b.pairs) ≡ false → (has_x p.x b.pairs && not (has p b.pairs)) ≡ false → has p b.pairs ≡ true
  there p t f =
      let e : has_x p.x b.pairs ≡ true = not-false _ t in
      let g : not (has p b.pairs) ≡ false = rw e at f in
      not-false _ g

  pub delete_fits : (p : Pair) → FitsPlain b (deletion c p) (plain_delete p b) []
  unfolding deletion plain_delete
  delete_fits p = record {
    lines = rw (has_x_same p.x, has_same p);
    outcome = refl;
    same = λ n. delete_same p (there p n.0 n.1.0);
    wrote = λ n. refl;
  }

  pub close_fits : (start end number : ℕ) → FitsPlain b (closing c start end number) (plain_close start end number b) []
  unfolding closing plain_close
  close_fits start end number =
      let p = strip_pair start end number in
      record {
        lines = rw (has_x_same p.x, has_same p);
        outcome = refl;
        same = λ n. delete_same p (there p n.1.0 n.1.1.0);
        wrote = λ n. refl;
      }

  -- the questions for one pair: a scan does not depend on the list's order
  smallest_x_same : (q : Limits) → outcome_of (smallest_x_of q (stored c)) ≡ outcome_of (smallest_x_of q b.pairs)
  smallest_x_same q = ap outcome_of (smallest_x_of_alike (stored c) b.pairs (stored_apart s) h.alike q)

  largest_x_same : (q : Limits) → outcome_of (largest_x_of q (stored c)) ≡ outcome_of (largest_x_of q b.pairs)
  largest_x_same q = ap outcome_of (largest_x_of_alike (stored c) b.pairs (stored_apart s) h.alike q)

  smallest_y_same : (x0 x1 : ℕ) → outcome_of (smallest_y_of x0 x1 (stored c)) ≡ outcome_of (smallest_y_of x0 x1 b.pairs)
  smallest_y_same x0 x1 = ap outcome_of (smallest_y_of_alike (stored c) b.pairs (stored_apart s) h.alike x0 x1)

  pub smallest_x_fits : (q : Limits) → FitsPlain b (smallest_x_asked c q) (plain_smallest_x q b) []
  unfolding smallest_x_asked plain_smallest_x
  smallest_x_fits q = record { lines = refl; outcome = smallest_x_same q; same = λ n. h; wrote = λ n. refl }

  pub largest_x_fits : (q : Limits) → FitsPlain b (largest_x_asked c q) (plain_largest_x q b) []
  unfolding largest_x_asked plain_largest_x
  largest_x_fits q = record { lines = refl; outcome = largest_x_same q; same = λ n. h; wrote = λ n. refl }

  pub smallest_y_fits : (x0 x1 : ℕ) → FitsPlain b (smallest_y_asked c x0 x1) (plain_smallest_y x0 x1 b) []
  unfolding smallest_y_asked plain_smallest_y
  smallest_y_fits x0 x1 = record { lines = refl; outcome = smallest_y_same x0 x1; same = λ n. h; wrote = λ n. refl }

  pub first_fits : (u : ℕ) → FitsPlain b (first_to_end c u) (plain_first u b) []
  unfolding first_to_end plain_first
  first_fits u = record { lines = refl; outcome = smallest_x_same (covers_limits u); same = λ n. h; wrote = λ n. refl }

  pub last_fits : (u e : ℕ) → FitsPlain b (last_to_end c u e) (plain_last u e b) []
  unfolding last_to_end plain_last
  last_fits u e = record { lines = refl; outcome = largest_x_same (last_limits u e); same = λ n. h; wrote = λ n. refl }

  pub earliest_fits : (u v : ℕ) → FitsPlain b (earliest_start c u v) (plain_earliest u v b) []
  unfolding earliest_start plain_earliest
  earliest_fits u v = record { lines = refl; outcome = smallest_y_same (u * 65536) (v * 65536 + 65535); same = λ n. h; wrote = λ n. refl }

  -- the lists: as many matches over both, and the walk's pairs are they
  matches_same : (q : Limits) → length (those (matches q) (stored c)) ≡ length (those (matches q) b.pairs)
  matches_same q = those_count (matches q) (stored c) b.pairs (stored_apart s) h.apart h.alike

  lists_fit : (ls : List Line) (q : Limits) (out : List ℕ)
      → FitsPlain b (walk_listed (lists ls (room_of out) (those (matches q) (stored c)) (book_of c)) c q out) (lists ls (room_of out) (those (matches q) b.pairs) b) out
  lists_fit ls q out =
      let ps : List Pair = those (matches q) (members (tree_of c)) in
      record {
        lines = refl;
        outcome = rw (matches_same q);
        same = λ n. h;
        wrote = λ n. record {
          all = ps;
          alike = λ p. (
            λ m. let k = (those_mem (matches q) p (members (tree_of c))).0 m in
                (those_mem (matches q) p b.pairs).1 ((h.alike p).0 ((members_stored s p).0 k.0), k.1),
            λ m. let k = (those_mem (matches q) p b.pairs).0 m in
                (those_mem (matches q) p (members (tree_of c))).1 ((members_stored s p).1 ((h.alike p).1 k.0), k.1),
          );
          once = those_apart (matches q) (members (tree_of c)) (members_apart s);
          cells = ap (λ ps. written ps out) (listing_pairs q root_stripe (tree_of c) (tree_well s) (room_of out));
        };
      }

  pub listing_fits : (q : Limits) (out : List ℕ) → FitsPlain b (listing_asked c q out) (plain_listing q (room_of out) b) out
  unfolding listing_asked plain_listing
  listing_fits q out = lists_fit _ q out

  pub covers_fits : (u : ℕ) (out : List ℕ) → FitsPlain b (list_covers c u out) (plain_covers u (room_of out) b) out
  unfolding list_covers plain_covers
  covers_fits u out = lists_fit _ (covers_limits u) out

  pub meets_fits : (u v : ℕ) (out : List ℕ) → FitsPlain b (list_meets c u v out) (plain_meets u v (room_of out) b) out
  unfolding list_meets plain_meets
  meets_fits u v out = lists_fit _ (meets_limits u v) out

  pub contains_fits : (u v : ℕ) (out : List ℕ) → FitsPlain b (list_contains c u v out) (plain_contains u v (room_of out) b) out
  unfolding list_contains plain_contains
  contains_fits u v out = lists_fit _ (contains_limits u v) out

  -- the book: the pairs by ascending x are one list, whatever their order was
  sorted_same : by_x (stored c) ≡ by_x b.pairs
  sorted_same =
      rises_one (by_x (stored c)) (by_x b.pairs) (by_x_rises (stored c) (stored_apart s)) (by_x_rises b.pairs h.apart)
      (λ q. (λ m. (by_x_mem q b.pairs).1 ((h.alike q).0 ((by_x_mem q (stored c)).0 m)), λ m. (by_x_mem q (stored c)).1 ((h.alike q).1 ((by_x_mem q b.pairs).0 m))))

  book_same : book_bytes version_one (stored c) ≡ book_bytes version_one b.pairs
  unfolding book_bytes
  book_same = rw (as_many, sorted_same)

  pub save_fits : (bytes : List ℕ) → FitsPlain b (saved c bytes) (plain_save version_one bytes b) bytes
  unfolding saved plain_save
  save_fits bytes = record {
    lines = rw as_many;
    outcome = refl;
    same = λ n. h;
    wrote = λ n. ap (λ v. v ++ drop (length v) bytes) book_same;
  }
