-- Numbers and rows of numbers, stored one after the other. What follows a number assumes room for it.
use Prim.Native.Nat.{ℕ, zero, suc, ◌+◌, ◌*◌, ◌-◌, ◌/◌, ◌%◌, ◌≤◌, ◌<◌, min}
use mathlib.Core.Path.{◌≡◌, refl, sym, ap, ◌∙◌}
use mathlib.Core.List.{List, [], ◌∷◌, ◌++◌}
use native.Mathlib.Omega.{arith}
use lib.ListN.{length, set, get_or, take, length-append}
use borrow.Author.Tests.{ne_eqb}
use Rattle.kinds.specs.Placed.{placed}
use Rattle.kinds.proofs.Placing.{length_placed, placed_append}
use Rattle.kinds.proofs.Tests.{on}
use lib.Dec.{eqb}
use Rattle.line.specs.Line.{space}
use Rattle.text.specs.Text.{newline, glyph, front, decimal, item, row, match_rows}
use Rattle.text.specs.Writing.{Puts, strip_items}
use lib.Seq.{take_all}
use Rattle.std.specs.Simd.{first_chunks}
use Rattle.std.proofs.Common.{append-nil, append_assoc}

-- law: nothing stored
pub puts_none : (o : List ℕ) (at : ℕ) → Puts o at [] o at
unfolding placed
puts_none o at = record { bytes = refl; end = omega arith }

-- law: one byte more
pub puts_more : (o o1 : List ℕ) (at r b : ℕ) (vs : List ℕ) → Puts o at vs o1 r → Puts o at (vs ++ (b ∷ [])) (set o1 r b) (r + 1)
unfolding placed
puts_more o o1 at r b vs p = record {
  bytes = rw (p.bytes, p.end) (sym (placed_append o at vs (b ∷ [])));
  end = let e = p.end in let l = length-append vs (b ∷ []) in omega arith;
}

-- law: some, and more behind them
pub puts_then : {o o1 o2 : List ℕ} {at r r2 : ℕ} {vs ws : List ℕ} → Puts o at vs o1 r → Puts o1 r ws o2 r2 → Puts o at (vs ++ ws) o2 r2
puts_then {o} {o1} {o2} {at} {r} {r2} {vs} {ws} p q = record {
  bytes = rw (q.bytes, p.bytes, p.end) (sym (placed_append o at vs ws));
  end = let e = p.end in let f = q.end in let l = length-append vs ws in omega arith;
}

-- law: no length changes
pub puts_length : {o o1 vs : List ℕ} {at r : ℕ} → Puts o at vs o1 r → length o1 ≡ length o
puts_length {o} {o1} {vs} {at} p = rw p.bytes (length_placed o at vs)

-- law: there are no more digits than places
pub front_few : (k n : ℕ) → length (front k n) ≤ k
unfolding front
front_few zero n = omega arith
front_few (suc k) n = on (eqb n 0)
    (λ t. rw t (omega arith))
    (λ f. let h = front_few k (n / 10) in let l = length-append (front k (n / 10)) (glyph n ∷ []) in rw f (omega arith))

-- law: 0 has no digits in front
pub front_zero : (k : ℕ) → front k 0 ≡ []
unfolding front
front_zero zero = refl
front_zero (suc k) = refl

-- law: the digits of n / 10, and the last
pub front_step : (k n : ℕ) → (k ≡ 0 → ⊥) → (n ≡ 0 → ⊥) → front k n ≡ front (k - 1) (n / 10) ++ (glyph n ∷ [])
unfolding front
front_step zero n h d = absurd (h refl)
front_step (suc k) n h d = let z : suc k - 1 ≡ k = omega arith in rw z (simp (ne_eqb n 0 d))

-- law: with no place left, or nothing left, no digit is stored
pub no_place : (o : List ℕ) (at k n : ℕ) → k ≡ 0 → Puts o at (front k n) o at
unfolding front
no_place o at k n e = rw e (puts_none o at)

pub no_digits : (o : List ℕ) (at k n : ℕ) → n ≡ 0 → Puts o at (front k n) o at
no_digits o at k n e = rw (e, front_zero k) (puts_none o at)

-- law: there is a place for the last digit
pub place_left : (o o1 : List ℕ) (at k m r : ℕ) → Puts o at (front k m) o1 r → at + k < length o → r < length o1
place_left o o1 at k m r p h = let f = front_few k m in let e = p.end in let l = puts_length p in omega arith

-- law: and one for the byte behind it
pub two_left : (o o1 : List ℕ) (at k m r : ℕ) → Puts o at (front k m) o1 r → at + k + 2 ≤ length o → r + 2 ≤ length o1
two_left o o1 at k m r p h = let f = front_few k m in let e = p.end in let l = puts_length p in omega arith

-- law: the last digit behind the others
pub last_digit : (o o1 : List ℕ) (at k n r g : ℕ) → (k ≡ 0 → ⊥) → (n ≡ 0 → ⊥) → Puts o at (front (k - 1) (n / 10)) o1 r → g ≡ glyph n → Puts o at (front k n) (set o1 r g) (r + 1)
last_digit o o1 at k n r g h d p e = rw (front_step k n h d, e) (puts_more o o1 at r (glyph n) _ p)

-- law: no number is longer than ten digits
pub item_few : (n after : ℕ) → length (item n after) ≤ 11
unfolding decimal
item_few n after =
    let h = front_few 9 (n / 10) in
    let k = length-append (front 9 (n / 10)) (glyph n ∷ []) in
    let l = length-append (decimal n) (after ∷ []) in
    omega arith

-- law: the digits in front, the last one, and the byte behind
pub number_put : (o o1 : List ℕ) (at r n g after : ℕ) → Puts o at (front 9 (n / 10)) o1 r → g ≡ glyph n → Puts o at (item n after) (set (set o1 r g) (r + 1) after) (r + 2)
unfolding decimal
number_put o o1 at r n g after p e =
    let z : r + 2 ≡ r + 1 + 1 = omega arith in
    rw (z, e) (puts_more o _ at (r + 1) after _ (puts_more o o1 at r (glyph n) (front 9 (n / 10)) p))

-- law: behind a number there is as much room as its eleven bytes leave
pub room_behind : (o o1 : List ℕ) (at r n after k : ℕ) → Puts o at (item n after) o1 r → at + 11 + k ≤ length o → r + k ≤ length o1
room_behind o o1 at r n after k p h = let f = item_few n after in let e = p.end in let l = puts_length p in omega arith

-- law: a strip's numbers take no more than 33 bytes
pub strip_few : (x y after : ℕ) → length (strip_items x y after) ≤ 33
strip_few x y after =
    let a = item_few (x / 65536) space in
    let b = item_few (x % 65536) space in
    let d = item_few y after in
    let k = length-append (item (x % 65536) space) (item y after) in
    let l = length-append (item (x / 65536) space) (item (x % 65536) space ++ item y after) in
    omega arith

-- law: behind a strip's numbers there is as much room as their 33 bytes leave
pub room_behind_strip : (o o1 : List ℕ) (at r x y after k : ℕ) → Puts o at (strip_items x y after) o1 r → at + 33 + k ≤ length o → r + k ≤ length o1
room_behind_strip o o1 at r x y after k p h = let f = strip_few x y after in let e = p.end in let l = puts_length p in omega arith

-- a line for each pair
abbrev pub rows_of : List (List ℕ) → List ℕ
rows_of [] = []
rows_of (p ∷ ps) = strip_items (get_or p 0 0) (get_or p 1 0) newline ++ rows_of ps

-- law: one row more
rows_more : (i : ℕ) (ps : List (List ℕ)) (d : List ℕ) → i < length ps
    → rows_of (take (suc i) ps) ≡ rows_of (take i ps) ++ strip_items (get_or (get_or ps i d) 0 0) (get_or (get_or ps i d) 1 0) newline
rows_more i [] d h = absurd (omega (arith, h))
rows_more zero (p ∷ ps) d h = append-nil (strip_items (get_or p 0 0) (get_or p 1 0) newline)
rows_more (suc i) (p ∷ ps) d h =
    let r = rows_more i ps d (omega (arith, h)) in
    let a = strip_items (get_or p 0 0) (get_or p 1 0) newline in
    ap (λ l. a ++ l) r ∙ sym (append_assoc a (rows_of (take i ps)) _)

-- law: the rows of so many matches are those of the room's first pairs
rows_pairs : (n : ℕ) (room : List ℕ) → match_rows n room ≡ rows_of (take (min (length room / 2) n) (first_chunks 2 (length room / 2) room))
unfolding match_rows row
rows_pairs zero room = let z : min (length room / 2) zero ≡ zero = omega arith in rw z refl
rows_pairs (suc n) [] = let z : length {A = ℕ} [] / 2 ≡ zero = omega arith in let m : min zero (suc n) ≡ zero = omega arith in rw (z, m) refl
rows_pairs (suc n) (x ∷ []) = let z : length (x ∷ []) / 2 ≡ zero = omega arith in let m : min zero (suc n) ≡ zero = omega arith in rw (z, m) refl
rows_pairs (suc n) (x ∷ y ∷ room) =
    let z : length (x ∷ y ∷ room) / 2 ≡ suc (length room / 2) = omega arith in
    let m : min (suc (length room / 2)) (suc n) ≡ suc (min (length room / 2) n) = omega arith in
    rw (z, m) (ap (λ l. strip_items x y newline ++ l) (rows_pairs n room))

-- law: a row takes no more than 33 bytes
pub rows_few : (n : ℕ) (room : List ℕ) → length (match_rows n room) ≤ 33 * (length room / 2)
unfolding match_rows row
rows_few zero room = omega arith
rows_few (suc n) [] = omega arith
rows_few (suc n) (x ∷ []) = omega arith
rows_few (suc n) (x ∷ y ∷ room) =
    let f = strip_few x y newline in
    let h = rows_few n room in
    let l = length-append (strip_items x y newline) (match_rows n room) in
    omega arith

-- what stays so at each row: the rows so far are put, and there is room for those to come
pub record Rows (o0 : List ℕ) (at : ℕ) (ps : List (List ℕ)) (o : List ℕ) (to i : ℕ) : Type 0 where
  pub put : Puts o0 at (rows_of (take i ps)) o to
  pub space : to + 33 * (length ps - i) ≤ length o

pub first_row : (o : List ℕ) (at : ℕ) (ps : List (List ℕ)) → at + 33 * length ps ≤ length o → Rows o at ps o at 0
first_row o at ps h = record { put = puts_none o at; space = omega arith }

pub next_row : (o0 : List ℕ) (at : ℕ) (ps : List (List ℕ)) (o : List ℕ) (to i : ℕ) → Rows o0 at ps o to i → i < length ps
    → (d o1 : List ℕ) (r : ℕ) → Puts o to (strip_items (get_or (get_or ps i d) 0 0) (get_or (get_or ps i d) 1 0) newline) o1 r → Rows o0 at ps o1 r (i + 1)
next_row o0 at ps o to i R h d o1 r p =
    let z : i + 1 ≡ suc i = omega arith in
    let x = get_or (get_or ps i d) 0 0 in
    let y = get_or (get_or ps i d) 1 0 in
    record {
      put = rw (z, rows_more i ps d h) (puts_then R.put p);
      space = let f = strip_few x y newline in let e = p.end in let l = puts_length p in let s = R.space in omega arith;
    }

pub all_rows : (o0 : List ℕ) (at : ℕ) (room : List ℕ) (count : ℕ) (o : List ℕ) (to i : ℕ) (ps : List (List ℕ)) → Rows o0 at ps o to i → length ps ≤ i
    → ps ≡ take (min (length room / 2) count) (first_chunks 2 (length room / 2) room) → Puts o0 at (match_rows count room) o to
all_rows o0 at room count o to i ps R h e = rw (rows_pairs count room, ← e) (let p = R.put in rw (take_all i ps h) at p)
