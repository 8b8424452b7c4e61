-- Digits, read one after the other: a byte that is no digit ends the reading, and so does a number that grows too large, since more digits never
-- make it smaller. Nothing is assumed of the word.
use Prim.Native.Nat.{ℕ, suc, ◌+◌, ◌*◌, ◌-◌, ◌≤◌, ◌<◌}
use mathlib.Core.Path.{◌≡◌, refl, sym}
use mathlib.Core.Bool.{Bool, true, false, true≢false, ◌&&◌}
use mathlib.Core.List.{List, [], ◌∷◌}
use native.Mathlib.Omega.{arith}
use lib.Dec.{eqb, leb, ltb}
use lib.ListN.{length, get_or, drop, drop_of_length-le}
use lib.Seq.{drop-cons}
use borrow.Author.Tests.{eqb-true, ltb-true, leb-true, le-leb, lt-leb}
use Rattle.kinds.proofs.Tests.{both, and_false}
use Rattle.std.specs.Prelude.{Option, Some, None}
use Rattle.decimal.specs.Decimal.{is_digit, all_digits, value_from, leading_zero, is_number}
use Rattle.decimal.specs.Reading.{number_if, digit_of, digits_of, number_in}

-- the largest number
abbrev pub most : ℕ
most = 4294967295

-- law: with more digits a number does not get smaller
pub value_grows : (n : ℕ) (w : List ℕ) → n ≤ value_from n w
unfolding value_from
value_grows n [] = omega arith
value_grows n (b ∷ bs) = let h = value_grows (n * 10 + (b - 48)) bs in omega arith

-- what digits alone give behind the number n
abbrev pub digits_behind : ℕ → List ℕ → Option ℕ
digits_behind n w = number_if (all_digits w && leb (value_from n w) most) (value_from n w)

-- what stays so at each byte: the number so far is not too large, and what is still to be read gives what was to be read
pub record Reads (w : List ℕ) (i n : ℕ) : Type 0 where
  pub few : n ≤ most
  pub same : digits_behind n (drop i w) ≡ digits_of w

pub first_byte : (w : List ℕ) → Reads w 0 0
unfolding digits_of
first_byte w = record { few = omega arith; same = refl }

a_digit : (t : Bool) (n d : ℕ) → Some d ≡ number_if t n → (t ≡ true) × (d ≡ n)
a_digit true n d e = (refl, cc)
a_digit false n d e = (cc, cc)

no_number : (t : Bool) (n : ℕ) → None ≡ number_if t n → t ≡ false
no_number true n e = cc
no_number false n e = refl

module _ (w : List ℕ) (i n : ℕ) (R : Reads w i n) where
  -- law: with no byte left, it is the number
  pub no_byte : length w ≤ i → Some n ≡ digits_of w
  unfolding all_digits value_from
  no_byte h = let s = R.same in let k = R.few in simp (drop_of_length-le w h, le-leb n most k) at s

  module _ (h : i < length w) (b : ℕ) (eb : b ≡ get_or w i 0) where
    here : digits_behind n (b ∷ drop (suc i) w) ≡ digits_of w
    here = let s = R.same in rw (drop-cons w i 0 h, ← eb) at s

    -- law: a byte that is no digit
    pub no_digit : None ≡ digit_of b → None ≡ digits_of w
    unfolding all_digits
    no_digit e = let f = no_number (is_digit b) (b - 48) e in let s = here in simp f at s

    -- law: a number that is too large, be the byte a digit or not
    pub too_large : most < n * 10 + (b - 48) → None ≡ digits_of w
    unfolding value_from
    too_large g =
        let s = here in
        let bs = drop (suc i) w in
        let v = value_grows (n * 10 + (b - 48)) bs in
        let f : leb (value_from (n * 10 + (b - 48)) bs) most ≡ false = lt-leb (value_from (n * 10 + (b - 48)) bs) most (omega (arith, g)) in
        simp (and_false (all_digits (b ∷ bs)) (leb (value_from (n * 10 + (b - 48)) bs) most) f) at s

    module _ (d : ℕ) (ed : Some d ≡ digit_of b) where
      -- law: a digit is what its byte says
      pub digit_worth : d ≡ b - 48
      digit_worth = (a_digit (is_digit b) (b - 48) d ed).1

      -- law: one digit more
      pub next_byte : n * 10 + d ≤ most → Reads w (i + 1) (n * 10 + d)
      unfolding all_digits value_from
      next_byte g =
          let s = here in
          let e = a_digit (is_digit b) (b - 48) d ed in
          let z : i + 1 ≡ suc i = omega arith in
          record { few = g; same = rw (z, e.1) (simp e.0 at s) }

pub digit_range : (b : ℕ) → is_digit b ≡ true → (48 ≤ b) × (b < 58)
digit_range b t = let e = both (leb 48 b) (ltb b 58) t in (leb-true 48 b e.0, ltb-true b 58 e.1)

-- law: an empty word is no number
pub empty_word : (w : List ℕ) → true ≡ eqb (length w) 0 → None ≡ number_in w
unfolding number_in is_number
empty_word [] e = refl
empty_word (b ∷ bs) e = let h = eqb-true (length (b ∷ bs)) 0 (sym e) in absurd (omega (arith, h))

some : (b : ℕ) (bs : List ℕ) → leb 1 (length (b ∷ bs)) ≡ true
some b bs = le-leb 1 (length (b ∷ bs)) (omega arith)

-- law: nor is one with a leading zero
pub zero_led : (w : List ℕ) → true ≡ leading_zero w → None ≡ number_in w
unfolding number_in is_number
zero_led [] t = refl
zero_led (b ∷ bs) t = simp (some b bs, ← t)

-- law: any other is one if its digits are
pub not_zero_led : (w : List ℕ) → false ≡ eqb (length w) 0 → false ≡ leading_zero w → digits_of w ≡ number_in w
unfolding number_in is_number digits_of
not_zero_led [] e f = absurd (true≢false (sym e))
not_zero_led (b ∷ bs) e f = simp (some b bs, ← f)
