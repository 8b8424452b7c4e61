-- Writing the book, a way out at a time: too few bytes are refused; else the head and then the rows make the book. Assumed is a sound pool.
use Prim.Native.Nat.{ℕ, ◌+◌, ◌*◌, ◌≤◌, ◌<◌}
use mathlib.Core.Path.{◌≡◌, refl, sym, ◌∙◌}
use mathlib.Core.List.{List, [], ◌∷◌}
use native.Mathlib.Omega.{arith}
use lib.ListN.{length}
use borrow.Author.Tests.{lt-ltb, le-ltb}
use Rattle.kinds.specs.declared.Answer.{Answer}
use Rattle.kinds.specs.Answer.{finished, refused}
use Rattle.kinds.specs.declared.Refusal.TheVariants.{Short}
use Rattle.kinds.specs.Placed.{placed}
use Rattle.kinds.specs.Promise.{Writes}
use Rattle.kinds.proofs.Placing.{length_placed}
use Rattle.kinds.proofs.Tables.{gives, refuses, accepts}
use Rattle.pools.specs.Cells.{count_of, stored, book_of}
use Rattle.pools.specs.Sound.{Sound}
use Rattle.pools.proofs.Stored.{stored_count}
use Rattle.pages.specs.Book.{by_x, version_one, body, bytes_for, short_line, plain_save}
use Rattle.pages.specs.Writing.{head_bytes, header_of}
use Rattle.pages.proofs.Bytes.{whole_book}
use Rattle.promises.specs.Promises.{saved}

module _ (c o : List ℕ) (S : Sound c) (n : ℕ) (en : n ≡ count_of c) where
  as_stored : n ≡ length (stored c)
  as_stored = en ∙ sym (stored_count S)

  -- law: fewer bytes than the book has
  pub too_short : {r : Answer} → length o < head_bytes + version_one.per_row * n → r ≡ refused Short → Writes (saved c o) c o r o
  unfolding saved plain_save
  too_short h e =
      let z = as_stored in
      refuses [] (short_line version_one o (book_of c)) [] tt (lt-ltb (length o) (bytes_for version_one (length (stored c))) (omega arith)) e

  module _ (h : head_bytes + version_one.per_row * n ≤ length o) (o1 : List ℕ) (e1 : o1 ≡ placed o 0 (header_of version_one n)) where
    -- law: behind the header there is room for the pairs
    pub still_room : bytes_for version_one (length (stored c)) ≤ length o1
    still_room =
        let z = as_stored in
        let l : length o1 ≡ length o = rw e1 (length_placed o 0 (header_of version_one n)) in
        omega arith

    -- law: the header and the pairs are the book
    pub all_saved : (o2 : List ℕ) {r : Answer} → o2 ≡ placed o1 head_bytes (body version_one (by_x (stored c))) → r ≡ finished → Writes (saved c o) c o r o2
    unfolding saved plain_save
    all_saved o2 e2 e =
        let z = as_stored in
        accepts (short_line version_one o (book_of c) ∷ []) (le-ltb (length o) (bytes_for version_one (length (stored c))) (omega arith), tt)
        (gives e refl (whole_book o o1 o2 (stored c) n z h e1 e2))
