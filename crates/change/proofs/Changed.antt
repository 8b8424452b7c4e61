-- The changes on a sound pool, a way out at a time: a refusal leaves the cells, and with them a sound pool; an accepted change leaves another one.
-- The x of a pair that is passed in is of 32 bits.
use Prim.Native.Nat.{ℕ, ◌<◌}
use mathlib.Core.Path.{◌≡◌, refl, sym, ap, ◌∙◌}
use mathlib.Core.Bool.{Bool, true, false, not}
use mathlib.Core.List.{List, [], ◌∷◌}
use borrow.Author.Tests.{eq-eqb, ne_eqb}
use Rattle.std.specs.Prelude.{Result, Ok, Err}
use Rattle.kinds.specs.declared.Pair.{Pair}
use Rattle.kinds.specs.declared.Refusal.{Refusal}
use Rattle.kinds.specs.declared.Refusal.TheVariants.{Taken, Full}
use Rattle.kinds.specs.declared.Answer.{Answer}
use Rattle.kinds.specs.Answer.{refused, ended}
use Rattle.kinds.specs.Promise.{tested}
use Rattle.kinds.proofs.Tables.{none_of, gives, refuses, accepts, decides, refuses_first}
use Rattle.plain.specs.Books.{taken_line, full_line, missing_line, other_line, plain_insert, plain_delete}
use Rattle.plain.specs.Plain.{has_x, has}
use Rattle.plain.specs.Strips.{strip_pair, strip_lines, plain_open, plain_close}
use Rattle.pools.specs.Cells.{free_of, stored, book_of}
use Rattle.pools.specs.Laid.{inserted}
use Rattle.pools.specs.Sound.{Sound}
use Rattle.pools.proofs.InTree.{new_of, full_is, has_mem, mem_has_x}
use Rattle.kinds.proofs.Tests.{and_true, and_false}
use Rattle.pools.proofs.Inserted.{inserted_sound}
use Rattle.pools.proofs.Deleted.{deleted_sound}
use Rattle.down.specs.Down.{Enters}
use Rattle.hole.specs.Hole.{Deletes, not_there, other_y, removed}
use Rattle.promises.specs.Checked.{Changed}
use Rattle.promises.specs.Promises.{insertion, deletion, opening, closing}

module _ (c : List ℕ) (p : Pair) (s : Sound c) where
  module _ {b : Bool} (eb : b ≡ has_x p.x (stored c)) where
    pub insert_taken : b ≡ true → Changed (insertion c p) c (ended (Err Taken)) c
    unfolding insertion plain_insert
    insert_taken t = record { keeps = refuses [] (taken_line p (book_of c)) (full_line (book_of c) ∷ []) tt (sym eb ∙ t) refl; sound = s }

    module _ (f : b ≡ false) {free : ℕ} (ef : free ≡ free_of c) where
      pub insert_full : free ≡ 0 → Changed (insertion c p) c (ended (Err Full)) c
      unfolding insertion plain_insert
      insert_full z = record {
        keeps = refuses (taken_line p (book_of c) ∷ []) (full_line (book_of c)) [] (sym eb ∙ f, tt) (full_is s ∙ eq-eqb (free_of c) 0 (sym ef ∙ z)) refl;
        sound = s;
      }

      pub insert_enters : (free ≡ 0 → ⊥) → Enters c p
      insert_enters ne = record { sound = s; new = new_of s p.x (sym eb ∙ f); room = λ z. ne (ef ∙ z) }

      pub insert_done : (free ≡ 0 → ⊥) → p.x < 4294967296 → {d : List ℕ} → d ≡ inserted c p → Changed (insertion c p) c (ended (Ok tt)) d
      unfolding insertion plain_insert
      insert_done ne small ed =
          let e = insert_enters ne in
          record {
            keeps = accepts (taken_line p (book_of c) ∷ full_line (book_of c) ∷ []) (sym eb ∙ f, (full_is s ∙ ne_eqb (free_of c) 0 e.room, tt)) (gives refl ed refl);
            sound = rw ed (inserted_sound e.sound p e.new small e.room);
          }

module _ (c : List ℕ) (p : Pair) (s : Sound c) where
  pub delete_ends : {r : Result (Unit {0}) Refusal} {d : List ℕ} → Deletes c p r d → Changed (deletion c p) c (ended r) d
  unfolding deletion plain_delete
  delete_ends (not_there f) = record {
    keeps = refuses [] (missing_line p (book_of c)) (other_line p (book_of c) ∷ []) tt (ap not f) refl;
    sound = s;
  }
  delete_ends (other_y t f) = record {
    keeps = refuses (missing_line p (book_of c) ∷ []) (other_line p (book_of c)) [] (ap not t, tt) (and_true t (ap not f)) refl;
    sound = s;
  }
  delete_ends (removed t) =
      let m = has_mem s p t in
      let h = mem_has_x s p m in
      record {
        keeps = accepts (missing_line p (book_of c) ∷ other_line p (book_of c) ∷ []) (ap not h, (and_false (has_x p.x (stored c)) (not (has p (stored c))) (ap not t), tt)) (gives refl refl refl);
        sound = deleted_sound s p m;
      }

-- what opening and closing share: the strip's numbers refuse, or where they pass the pair's change decides
module _ (c : List ℕ) (start end number : ℕ) where
  pub open_refused : Sound c → {k : Refusal} → tested (strip_lines start end number) ≡ Err k → Changed (opening c start end number) c (refused k) c
  unfolding opening plain_open insertion plain_insert
  open_refused s e = record { keeps = refuses_first (strip_lines start end number) (insertion c (strip_pair start end number)) e refl; sound = s }

  pub open_made : tested (strip_lines start end number) ≡ Ok tt → {r : Answer} {d : List ℕ} → Changed (insertion c (strip_pair start end number)) c r d
      → Changed (opening c start end number) c r d
  unfolding opening plain_open insertion plain_insert
  open_made e h = record { keeps = decides (strip_lines start end number) (none_of (strip_lines start end number) e) h.keeps; sound = h.sound }

  pub close_refused : Sound c → {k : Refusal} → tested (strip_lines start end number) ≡ Err k → Changed (closing c start end number) c (refused k) c
  unfolding closing plain_close deletion plain_delete
  close_refused s e = record { keeps = refuses_first (strip_lines start end number) (deletion c (strip_pair start end number)) e refl; sound = s }

  pub close_made : tested (strip_lines start end number) ≡ Ok tt → {r : Answer} {d : List ℕ} → Changed (deletion c (strip_pair start end number)) c r d
      → Changed (closing c start end number) c r d
  unfolding closing plain_close deletion plain_delete
  close_made e h = record { keeps = decides (strip_lines start end number) (none_of (strip_lines start end number) e) h.keeps; sound = h.sound }
