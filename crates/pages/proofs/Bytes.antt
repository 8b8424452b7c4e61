-- Bytes stored one after the other from a place on: words, rows, the whole book. The whole book assumes room for it.
use Prim.Native.Nat.{ℕ, ◌+◌, ◌*◌, ◌≤◌}
use mathlib.Core.Path.{◌≡◌, refl, sym, ◌∙◌}
use mathlib.Core.List.{List, [], ◌∷◌, ◌++◌}
use native.Mathlib.Omega.{arith}
use lib.ListN.{length, set, drop}
use lib.Seq.{sets-eq}
use borrow.Rule.Slice.PartMut.{put_mid}
use Rattle.std.proofs.lemmas.Slice.{put_mid-paste}
use Rattle.kinds.specs.declared.Pair.{Pair}
use Rattle.kinds.specs.Placed.{placed}
use Rattle.kinds.proofs.Placing.{placed_append, placed_start}
use Rattle.pages.specs.Book.{word, by_x, version_one, body, bytes_for, book_bytes}
use Rattle.pages.specs.Writing.{head_bytes, header_of}
use Rattle.pages.proofs.Ascending.{length_by_x}

-- law: the bytes of a number, written over a range of four, are a word
pub one_word : (o d : List ℕ) (at k n : ℕ) → at + 4 ≤ length o → k ≡ 4 → d ≡ word n → put_mid at k o d ≡ placed o at (word n)
unfolding placed
one_word o d at k n h z e = put_mid-paste at k o d (word n) 4 e (sym z) refl ∙ sym (sets-eq (word n) o at h)

-- law: a word and the version are the header
pub one_head : (o o1 : List ℕ) (n : ℕ) → o1 ≡ placed o 0 (word (1 + version_one.per_row * n)) → set o1 4 version_one.version ≡ placed o 0 (header_of version_one n)
unfolding placed
one_head o o1 n e = rw e

-- law: two words are a row
pub one_row : (o o1 o2 : List ℕ) (at x y : ℕ) → o1 ≡ placed o at (word x) → o2 ≡ placed o1 (at + 4) (word y) → o2 ≡ placed o at (word x ++ word y)
one_row o o1 o2 at x y e f = rw (f, e) (sym (placed_append o at (word x) (word y)))

-- law: a row and the rest of the body
pub row_first : (o o1 : List ℕ) (at : ℕ) (p : Pair) (ps : List Pair) → o1 ≡ placed o at (version_one.row p)
    → placed o1 (at + version_one.per_row) (body version_one ps) ≡ placed o at (body version_one (p ∷ ps))
row_first o o1 at p ps e = rw e (sym (placed_append o at (version_one.row p) (body version_one ps)))

length_body : (ps : List Pair) → length (body version_one ps) ≡ version_one.per_row * length ps
length_body [] = refl
length_body (p ∷ ps) = let h = length_body ps in omega arith

-- law: the header and the body are the book, and bytes beyond it stay
pub whole_book : (o o1 o2 : List ℕ) (ps : List Pair) (n : ℕ) → n ≡ length ps → bytes_for version_one n ≤ length o → o1 ≡ placed o 0 (header_of version_one n)
    → o2 ≡ placed o1 head_bytes (body version_one (by_x ps)) → o2 ≡ book_bytes version_one ps ++ drop (length (book_bytes version_one ps)) o
unfolding book_bytes
whole_book o o1 o2 ps n en h e f =
    let B = header_of version_one n ++ body version_one (by_x ps) in
    let l = length_body (by_x ps) in
    let k = length_by_x ps in
    rw (← en) (rw (f, e) (sym (placed_append o 0 (header_of version_one n) (body version_one (by_x ps))) ∙ placed_start o B (omega arith)))
