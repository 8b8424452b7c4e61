-- The marked cases hold: the played ones by working them out, those on lengths for all cells of such a length. Nothing is assumed.
use Prim.Native.Nat.{ℕ, ◌%◌}
use mathlib.Core.Path.{◌≡◌, refl, sym}
use mathlib.Core.Bool.{Bool, true, false, ◌&&◌}
use mathlib.Core.List.{List, [], ◌∷◌}
use lib.Dec.{leb, eqb}
use lib.ListN.{length}
use borrow.Author.Tests.{eqb-true, eqb-false, leb-true, leb-false}
use Rattle.kinds.specs.Answer.{five, numbers_of}
use Rattle.pools.specs.Cells.{is_free, stored_from, tree_at, free_slots, fresh}
use Rattle.trees.specs.Changes.{go_down, fill, take_out, met}
use Rattle.pools.specs.Laid.{lay, inserted, deleted}
use Rattle.kinds.specs.Pairs.{beats}
use Rattle.plain.specs.Plain.{smallest_x_of, largest_x_of, smallest_y_of, has_x, has}
use Rattle.kinds.specs.Promise.{Line, by_lines, given}
use Rattle.kinds.proofs.Tables.{refused_by}
use Rattle.stripes.specs.Stripe as stripe
use Rattle.pools.specs.Test.{is_pool, slot_fine, alone, fine, below, root_fine, free_fine, chain_fine, rest_fine, is_sound}
use Rattle.walks.specs.Walks as walks
use Rattle.walks.specs.Walks.{listing}
use Rattle.pools.proofs.Decided.{pool_true}
use Rattle.kinds.proofs.Tests.{on}
use Rattle.sound.specs.Promises.{length_line}
use Rattle.fresh.proofs.Lengths.{odd, under_eight, long}
use Rattle.sound.proofs.Meaning as meaning
use Rattle.plain.specs.Books.{plain_insert, plain_delete, plain_smallest_x, plain_largest_x, plain_smallest_y, plain_listing}
use Rattle.plain.specs.Strips.{plain_open, plain_close, plain_first, plain_covers}
use Rattle.promises.specs.Promises.{insertion, deletion, largest_x_asked, smallest_x_asked, smallest_y_asked, listing_asked, opening, closing, first_to_end, list_covers}
use Rattle.sound.specs.Promises as check_first
use Rattle.runs.specs.Calls.{Call, set_up, check, insert, delete, smallest_x, largest_x, smallest_y, list, opens, closes, first, last, earliest, covers, meets, contains, save, promised, lent_by, Each}
use Rattle.marked.specs.Cases.{Serves, Refuses, Holds, cases}

-- the length of a pool, 4(n + 1) with n 1 to 4,095, as a test of the length alone
abbrev pool_length : ℕ → Bool
pool_length l = eqb (l % 4) 0 && leb 8 l && leb l 16384

pool_length_lem : (c : List ℕ) → is_pool c ≡ pool_length (length c)
pool_length_lem c = on (eqb (length c % 4) 0)
    (λ e. on (leb 8 (length c))
    (λ g. rw (e, g) (sym (long c (eqb-true _ _ e) (leb-true _ _ g))))
    (λ g. rw (e, g) (sym (under_eight c (leb-false _ _ g)))))
    (λ e. rw e (sym (odd c (eqb-false _ _ e))))

-- all cells of such a length: set up and check are done
serve : {l : ℕ} → pool_length l ≡ true → (c : List ℕ) → length c ≡ l → Serves c
unfolding promised five numbers_of
serve t c e =
    let p = pool_true c (rw (pool_length_lem c, e) t) in
    let d = (given (check_first.set_up c) c []).cells in
    record { set_up_done = rw (meaning.set_up_done c p); check_done = rw (meaning.check_done d (meaning.set_up_sound c p)) }

-- the first line of every call's table is that on the pool's length
record Starts (c : List ℕ) (ls : List Line) : Type 0 where
  rest : List Line
  whole : ls ≡ length_line c ∷ rest

starts : (c : List ℕ) (k : Call) → Starts c (promised c k).lines
unfolding promised check_first.set_up check_first.check
starts c set_up = record { rest = _; whole = refl }
starts c check = record { rest = _; whole = refl }
starts c (insert p) = record { rest = _; whole = refl }
starts c (delete p) = record { rest = _; whole = refl }
starts c (smallest_x q) = record { rest = _; whole = refl }
starts c (largest_x q) = record { rest = _; whole = refl }
starts c (smallest_y x0 x1) = record { rest = _; whole = refl }
starts c (list q out) = record { rest = _; whole = refl }
starts c (opens n) = record { rest = _; whole = refl }
starts c (closes n) = record { rest = _; whole = refl }
starts c (first u) = record { rest = _; whole = refl }
starts c (last u e) = record { rest = _; whole = refl }
starts c (earliest u v) = record { rest = _; whole = refl }
starts c (covers u out) = record { rest = _; whole = refl }
starts c (meets u v out) = record { rest = _; whole = refl }
starts c (contains u v out) = record { rest = _; whole = refl }
starts c (save bytes) = record { rest = _; whole = refl }

-- all cells of another length: the first line of every call's table holds
refuse : {l : ℕ} → pool_length l ≡ false → (c : List ℕ) → length c ≡ l → (k : Call) → Refuses c k
unfolding five numbers_of
refuse f c e k =
    let w = starts c k in
    let h : is_pool c ≡ false = rw (pool_length_lem c, e) f in
    let g = refused_by c (lent_by k) (promised c k).made [] (length_line c) w.rest tt (rw h) in
    record { answer = rw (w.whole, g); cells = rw (w.whole, g); lent = rw (w.whole, g) }

-- law: P1 to P9, every row
pub marked : Each Holds cases
unfolding five numbers_of promised check_first.set_up by_lines is_pool fresh free_slots insertion plain_insert is_sound root_fine slot_fine below fine alone met stripe.holds rest_fine chain_fine free_fine is_free stored_from tree_at has_x has inserted lay go_down beats largest_x_asked plain_largest_x largest_x_of walks.largest_x deletion plain_delete deleted fill take_out smallest_x_asked plain_smallest_x smallest_x_of walks.smallest_x smallest_y_asked plain_smallest_y smallest_y_of walks.smallest_y listing_asked plain_listing listing opening plain_open closing plain_close first_to_end plain_first list_covers plain_covers
marked = (refl, (refl, (refl, (refl, (refl, (serve refl, (serve refl, (refuse refl, (refuse refl, (refuse refl, (refl, (refl, (refl, (refl, tt))))))))))))))
