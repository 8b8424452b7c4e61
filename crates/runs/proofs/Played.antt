-- Playing any calls over a sound pool ends, call by call, as the same calls over a plain list with the same pairs. The x of an inserted pair is
-- of 32 bits.
use Prim.Native.Nat.{ℕ}
use mathlib.Core.Path.{refl, ◌∙◌}
use mathlib.Core.List.{List, [], ◌∷◌}
use Rattle.plain.specs.Books.{Book}
use Rattle.pools.specs.Cells.{slots_of, stored}
use Rattle.pools.specs.Sound.{Sound}
use Rattle.pools.proofs.Fresh.{fresh_sound, fresh_stored, fresh_slots}
use Rattle.pools.proofs.Stored.{stored_apart}
use Rattle.sound.proofs.Meaning.{check_done, set_up_done}
use Rattle.runs.specs.Calls.{Call, set_up, check, insert, delete, smallest_x, largest_x, smallest_y, list, opens, closes, first, last, earliest, covers, meets, contains, save, promised, plainly, lent_by, play, SmallX, Each}
use Rattle.runs.specs.Playing.{plain_by, play_plainly, play_all, plainly_all, Same, Agrees}
use Rattle.runs.proofs.Ends.{insert_fits, delete_fits, open_fits, close_fits, smallest_x_fits, largest_x_fits, smallest_y_fits, first_fits, last_fits, earliest_fits, listing_fits, covers_fits, meets_fits, contains_fits, save_fits}
use Rattle.runs.proofs.Fits.{Ends, fits_ends}

module _ {c : List ℕ} {b : Book} (h : Same c b) where
  set_up_ends : Ends [] (play c set_up) (play_plainly b set_up)
  unfolding promised plainly plain_by
  set_up_ends =
      let p = h.sound.pool in
      rw (set_up_done c p) (record {
        outcome = refl;
        wrote = refl;
        same = record {
          sound = fresh_sound (slots_of c) p.some p.most;
          alike = rw (fresh_stored (slots_of c)) (λ q. (λ m. m, λ m. m));
          apart = tt;
          room = fresh_slots (slots_of c) ∙ h.room;
        };
      })

  check_ends : Ends [] (play c check) (play_plainly b check)
  unfolding promised plainly plain_by
  check_ends = rw (check_done c h.sound) (record { outcome = refl; wrote = refl; same = h })

-- law: one call
pub plays : {c : List ℕ} {b : Book} → Same c b → (k : Call) → SmallX k → Ends (lent_by k) (play c k) (play_plainly b k)
unfolding promised plainly
plays h set_up z = set_up_ends h
plays h check z = check_ends h
plays h (insert p) z = fits_ends h (insert_fits h p (z p refl))
plays h (delete p) z = fits_ends h (delete_fits h p)
plays h (smallest_x q) z = fits_ends h (smallest_x_fits h q)
plays h (largest_x q) z = fits_ends h (largest_x_fits h q)
plays h (smallest_y x0 x1) z = fits_ends h (smallest_y_fits h x0 x1)
plays h (list q out) z = fits_ends h (listing_fits h q out)
plays h (opens n) z = fits_ends h (open_fits h n.start n.end n.number)
plays h (closes n) z = fits_ends h (close_fits h n.start n.end n.number)
plays h (first u) z = fits_ends h (first_fits h u)
plays h (last u e) z = fits_ends h (last_fits h u e)
plays h (earliest u v) z = fits_ends h (earliest_fits h u v)
plays h (covers u out) z = fits_ends h (covers_fits h u out)
plays h (meets u v out) z = fits_ends h (meets_fits h u v out)
plays h (contains u v out) z = fits_ends h (contains_fits h u v out)
plays h (save bytes) z = fits_ends h (save_fits h bytes)

-- law: any run of calls, from any sound pool and a plain list with the same pairs
pub plays_all : (ks : List Call) (c : List ℕ) (b : Book) → Each SmallX ks → Same c b → Agrees ks (play_all ks c) (plainly_all ks b)
unfolding play_all plainly_all
plays_all [] c b z h = record { each = tt; same = h }
plays_all (k ∷ ks) c b z h =
    let e = plays h k z.0 in
    let r = plays_all ks (play c k).cells (play_plainly b k).book z.1 e.same in
    record { each = (record { outcome = e.outcome; wrote = e.wrote }, r.each); same = r.same }

-- law: and a sound pool holds what its stored list holds
pub same_stored : (c : List ℕ) → Sound c → Same c (record { pairs = stored c; room = slots_of c })
same_stored c s = record { sound = s; alike = λ q. (λ m. m, λ m. m); apart = stored_apart s; room = refl }
