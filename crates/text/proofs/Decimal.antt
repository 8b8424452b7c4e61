-- A printed number reads as itself, and no other word does. It assumes a number of 32 bits.
use Prim.Native.Nat.{ℕ, zero, suc, ◌+◌, ◌*◌, ◌-◌, ◌/◌, ◌^◌, ◌≤◌, ◌<◌}
use mathlib.Core.Path.{◌≡◌, refl, sym, ap, ◌∙◌}
use mathlib.Core.Bool.{true, false, true≢false, not}
use mathlib.Core.List.{List, [], ◌∷◌, ◌++◌}
use native.Mathlib.Nat.{pow-succ', pow-zero, mul-le-mul_right, mul_assoc}
use native.Mathlib.Omega.{arith}
use lib.Dec.{leb, eqb}
use lib.ListN.{length, get_or, length-append}
use borrow.Author.Tests.{le-leb, lt-ltb, ne_eqb, eqb-true, eqb-false, leb-true, not-true}
use Rattle.kinds.proofs.Tests.{on, clash, both, all_four, and_true, and_false}
use Rattle.decimal.specs.Decimal.{is_digit, all_digits, value_from, value, leading_zero, is_number}
use Rattle.decimal.proofs.Digits.{most, digit_range, value_grows}
use Rattle.std.proofs.Common.{append-nil, append_assoc}
use Rattle.text.specs.Text.{glyph, front, decimal}
use Rattle.text.proofs.Printing.{front_zero, front_step}

value_snoc : (n : ℕ) (w : List ℕ) (b : ℕ) → value_from n (w ++ (b ∷ [])) ≡ value_from n w * 10 + (b - 48)
unfolding value_from
value_snoc n [] b = refl
value_snoc n (a ∷ w) b = value_snoc (n * 10 + (a - 48)) w b

digits_snoc : (w : List ℕ) (b : ℕ) → all_digits w ≡ true → is_digit b ≡ true → all_digits (w ++ (b ∷ [])) ≡ true
unfolding all_digits
digits_snoc [] b h k = and_true k refl
digits_snoc (a ∷ w) b h k = let e = both (is_digit a) (all_digits w) h in and_true e.0 (digits_snoc w b e.1 k)

glyph_digit : (n : ℕ) → is_digit (glyph n) ≡ true
glyph_digit n = and_true (le-leb 48 (glyph n) (omega arith)) (lt-ltb (glyph n) 58 (omega arith))

tenth : (n k : ℕ) → n < 10 ^ suc k → n / 10 < 10 ^ k
tenth n k h = let e = pow-succ' 10 k in omega (arith, e, h)

value_none : value [] ≡ 0
unfolding value_from
value_none = refl

front_value : (k n : ℕ) → n < 10 ^ k → value (front k n) ≡ n
unfolding front
front_value zero n h = let e = pow-zero 10 in value_none ∙ omega (arith, e, h)
front_value (suc k) n h = on (eqb n 0)
    (λ t. let z = eqb-true n 0 t in rw t (value_none ∙ sym z))
    (λ f.
    let v = front_value k (n / 10) (tenth n k h) in
    let s = value_snoc 0 (front k (n / 10)) (glyph n) in
    rw f (s ∙ (rw v (omega arith))))

front_digits : (k n : ℕ) → all_digits (front k n) ≡ true
unfolding front all_digits
front_digits zero n = refl
front_digits (suc k) n = on (eqb n 0)
    (λ t. rw t refl)
    (λ f. rw f (digits_snoc (front k (n / 10)) (glyph n) (front_digits k (n / 10)) (glyph_digit n)))

-- the digits of a number that is not 0: there are some, and the first is not 0
record First (w : List ℕ) : Type 0 where
  some : 1 ≤ length w
  first : get_or w 0 0 ≡ 48 → ⊥

first_snoc : (w : List ℕ) (b : ℕ) → First w → First (w ++ (b ∷ []))
first_snoc [] b h = absurd (let s = h.some in omega (arith, s))
first_snoc (a ∷ w) b h = record { some = omega arith; first = h.first }

front_first : (k n : ℕ) → n < 10 ^ k → (n ≡ 0 → ⊥) → First (front k n)
unfolding front
front_first zero n h d = absurd (d (let e = pow-zero 10 in omega (arith, e, h)))
front_first (suc k) n h d = on (eqb (n / 10) 0)
    (λ t.
    let z = eqb-true (n / 10) 0 t in
    let g : front k (n / 10) ≡ [] = rw z (front_zero k) in
    rw (ne_eqb n 0 d, g) (record { some = omega arith; first = λ e. d (omega (arith, e, z)) }))
    (λ f. rw (ne_eqb n 0 d) (first_snoc (front k (n / 10)) (glyph n) (front_first k (n / 10) (tenth n k h) (eqb-false (n / 10) 0 f))))

decimal_some : (n : ℕ) → 1 ≤ length (decimal n)
unfolding decimal
decimal_some n = let l = length-append (front 9 (n / 10)) (glyph n ∷ []) in omega arith

pub decimal_digits : (n : ℕ) → all_digits (decimal n) ≡ true
unfolding decimal
decimal_digits n = digits_snoc (front 9 (n / 10)) (glyph n) (front_digits 9 (n / 10)) (glyph_digit n)

-- a number of 32 bits, printed
module _ (n : ℕ) (h : n ≤ most) where
  few : n / 10 < 10 ^ 9
  few = omega (arith, h)

  -- law: it is worth the number
  pub decimal_value : value (decimal n) ≡ n
  unfolding decimal
  decimal_value = let v = front_value 9 (n / 10) few in value_snoc 0 (front 9 (n / 10)) (glyph n) ∙ rw v (omega arith)

  not_led : leading_zero (decimal n) ≡ false
  unfolding decimal
  not_led = on (eqb (n / 10) 0)
      (λ t. let z = eqb-true (n / 10) 0 t in rw (z, front_zero 9) refl)
      (λ f.
      let w = first_snoc (front 9 (n / 10)) (glyph n) (front_first 9 (n / 10) few (eqb-false (n / 10) 0 f)) in
      and_false (leb 2 (length (decimal n))) (eqb (get_or (decimal n) 0 0) 48) (ne_eqb (get_or (decimal n) 0 0) 48 w.first))

  -- law: it is a number
  pub decimal_number : is_number (decimal n) ≡ true
  unfolding is_number
  decimal_number = and_true (and_true (and_true (le-leb 1 (length (decimal n)) (decimal_some n)) (rw not_led refl)) (decimal_digits n)) (rw decimal_value (le-leb n most h))

front_after : (w : List ℕ) (k n : ℕ) → all_digits w ≡ true → (n ≡ 0 → ⊥) → front (k + length w) (value_from n w) ≡ front k n ++ w
unfolding value_from all_digits
front_after [] k n h d = let z : k + 0 ≡ k = omega arith in rw z (sym (append-nil (front k n)))
front_after (b ∷ bs) k n h d =
    let e = both (is_digit b) (all_digits bs) h in
    let r = digit_range b e.0 in
    let m = n * 10 + (b - 48) in
    let ne : m ≡ 0 → ⊥ = λ q. d (omega (arith, q)) in
    let z : k + suc (length bs) ≡ suc k + length bs = omega arith in
    let x : suc k - 1 ≡ k = omega arith in
    let y : m / 10 ≡ n = omega (arith, r.0, r.1) in
    let g : glyph m ≡ b = omega (arith, r.0, r.1) in
    let f : front (suc k) m ≡ front k n ++ (b ∷ []) = front_step (suc k) m (λ q. true≢false cc) ne ∙ rw (x, y, g) refl in
    rw z (front_after bs (suc k) m e.1 ne ∙ rw f (append_assoc (front k n) (b ∷ []) bs))

front_fuel : (j k n : ℕ) → n < 10 ^ j → n < 10 ^ k → front j n ≡ front k n
unfolding front
front_fuel zero k n h g = let z : n ≡ 0 = let e = pow-zero 10 in omega (arith, e, h) in rw z (sym (front_zero k))
front_fuel (suc j) zero n h g = let z : n ≡ 0 = let e = pow-zero 10 in omega (arith, e, g) in rw z (front_zero (suc j))
front_fuel (suc j) (suc k) n h g = on (eqb n 0) (λ t. rw t refl) (λ f. rw (f, front_fuel j k (n / 10) (tenth n j h) (tenth n k g)) refl)

value_below : (w : List ℕ) (n : ℕ) → all_digits w ≡ true → value_from n w < (n + 1) * 10 ^ length w
unfolding value_from all_digits
value_below [] n h = let e = pow-zero 10 in rw e (omega arith)
value_below (b ∷ bs) n h =
    let e = both (is_digit b) (all_digits bs) h in
    let r = digit_range b e.0 in
    let m = n * 10 + (b - 48) in
    let i = value_below bs m e.1 in
    let p = pow-succ' 10 (length bs) in
    let q : (m + 1) * 10 ^ length bs ≤ (n + 1) * 10 * 10 ^ length bs = mul-le-mul_right (10 ^ length bs) (omega (arith, r.0, r.1)) in
    let a : (n + 1) * 10 * 10 ^ length bs ≡ (n + 1) * (10 * 10 ^ length bs) = mul_assoc (n + 1) 10 (10 ^ length bs) in
    rw p (omega (arith, i, q, a))

lone_zero : (bs : List ℕ) → leading_zero (48 ∷ bs) ≡ false → 48 ∷ bs ≡ decimal (value (48 ∷ bs))
unfolding decimal front value_from
lone_zero [] h = refl
lone_zero (a ∷ bs) h = absurd (clash (simp (le-leb 2 (suc (suc (length bs))) (omega arith)) refl) h)

front_one : (n : ℕ) → (n ≡ 0 → ⊥) → front 1 n ≡ glyph n ∷ []
unfolding front
front_one n d = simp (ne_eqb n 0 d)

own : (b : ℕ) (bs : List ℕ) → (b ≡ 48 → ⊥) → all_digits (b ∷ bs) ≡ true → value (b ∷ bs) ≤ most → b ∷ bs ≡ decimal (value (b ∷ bs))
unfolding value_from all_digits decimal
own b bs d h g =
    let e = both (is_digit b) (all_digits bs) h in
    let r = digit_range b e.0 in
    let n = 0 * 10 + (b - 48) in
    let v = value_from n bs in
    let ne : n ≡ 0 → ⊥ = λ q. d (omega (arith, q, r.0)) in
    let big = value_grows n bs in
    let nv : v ≡ 0 → ⊥ = λ q. ne (omega (arith, q, big)) in
    let p = pow-succ' 10 (length bs) in
    let q : (n + 1) * 10 ^ length bs ≤ 10 * 10 ^ length bs = mul-le-mul_right (10 ^ length bs) (omega (arith, r.0, r.1)) in
    let below = value_below bs n e.1 in
    let small : v < 10 ^ suc (length bs) = rw p (omega (arith, below, q)) in
    let z : 1 + length bs ≡ suc (length bs) = omega arith in
    let one : front 1 n ≡ b ∷ [] = front_one n ne ∙ ap (λ m. m ∷ []) (let g : glyph n ≡ b = omega (arith, r.0, r.1) in g) in
    let all : front (1 + length bs) v ≡ b ∷ bs = front_after bs 1 n e.1 ne ∙ rw one refl in
    let same : front (suc (length bs)) v ≡ front 10 v = front_fuel (suc (length bs)) 10 v small (omega (arith, g)) in
    sym all ∙ rw z (same ∙ front_step 10 v (λ q. true≢false cc) nv)

-- law: every word that is a number is the number's own: no two words are worth the same
pub number_decimal : (w : List ℕ) → is_number w ≡ true → w ≡ decimal (value w)
unfolding is_number
number_decimal [] h = absurd (clash h refl)
number_decimal (b ∷ bs) h =
    let e = all_four (leb 1 (suc (length bs))) (not (leading_zero (b ∷ bs))) (all_digits (b ∷ bs)) (leb (value (b ∷ bs)) most) h in
    let f = not-true (leading_zero (b ∷ bs)) e.1 in
    on (eqb b 48)
    (λ t. let z = eqb-true b 48 t in rw z (lone_zero bs (rw z at f)))
    (λ n. own b bs (eqb-false b 48 n) e.2 (leb-true (value (b ∷ bs)) most e.3))
