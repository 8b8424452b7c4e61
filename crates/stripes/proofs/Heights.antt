-- The stripe that x lies in, level by level: at each level one bit of x says on which side of the middle x lies. Assumed where they are needed:
-- a level below, and for the root an x of 32 bits.
use Prim.Native.Nat.{ℕ, suc, ◌+◌, ◌*◌, ◌-◌, ◌/◌, ◌%◌, ◌^◌, ◌≤◌, ◌<◌}
use mathlib.Core.Path.{◌≡◌, sym, ap, ◌∙◌, subst}
use native.Mathlib.Omega.{arith}
use native.Mathlib.Nat.{two-pow-succ, one-le-pow, add-mul, mul-add, one-mul, div-add-mod', mod-lt, div-div-eq-div-mul, div-eq_of_lt-le, div-eq_of_lt, pow-suc}
use lib.Dec.{ltb, eqb}
use borrow.Author.Tests.{lt-ltb, le-ltb, eqb-true, eqb-false}
use Rattle.stripes.specs.Stripe.{In, root_stripe, middle, left_part, right_part}
use Rattle.stripes.specs.Heights.{part_of, stripe_at}
use Rattle.kinds.proofs.Tests.{on}

-- law: a width is not 0
pub power_some : (k : ℕ) → 1 ≤ 2 ^ k
power_some k = one-le-pow k 2 (omega arith)

-- the place of x in its stripe
module _ (k x : ℕ) where
  whole : x / 2 ^ k * 2 ^ k + x % 2 ^ k ≡ x
  whole = div-add-mod' x (2 ^ k)

  less : x % 2 ^ k < 2 ^ k
  less = mod-lt x (power_some k)

  -- law: x lies in it
  pub in_at : In (stripe_at k x) x
  in_at = let a = whole in let b = less in record { from = omega arith; to = omega arith }

-- law: a number that lies in it lies in the same
pub same_at : (k x z : ℕ) → In (stripe_at k x) z → stripe_at k z ≡ stripe_at k x
same_at k x z i =
    let t : z < (x / 2 ^ k + 1) * 2 ^ k = let e = add-mul (x / 2 ^ k) 1 (2 ^ k) in let o = one-mul (2 ^ k) in let b = i.to in omega arith in
    let q : z / 2 ^ k ≡ x / 2 ^ k = div-eq_of_lt-le (2 ^ k) i.from t in
    λ j. record { lower = q j * 2 ^ k; upper = q j * 2 ^ k + 2 ^ k }

-- law: with no level below it there is no other
pub one_at : (x z : ℕ) → In (stripe_at 0 x) z → z ≡ x
one_at x z i = let a = in_at 0 x in let f = i.from in let t = i.to in let g = a.from in let h = a.to in omega arith

-- law: with 32 levels below it, it is the root's
pub root_at : (x : ℕ) → x < 4294967296 → stripe_at 32 x ≡ root_stripe
root_at x h = let e : x / 4294967296 ≡ 0 = div-eq_of_lt h in λ j. record { lower = e j * 4294967296; upper = e j * 4294967296 + 4294967296 }

-- a level lower
module _ (k x : ℕ) where
  abbrev w : ℕ
  w = 2 ^ k

  abbrev q : ℕ
  q = x / 2 ^ k

  abbrev u : ℕ
  u = x / 2 ^ suc k

  half : u ≡ q / 2
  half = ap (λ v. x / v) (pow-suc 2 k) ∙ sym (div-div-eq-div-mul x (2 ^ k) 2)

  double : u * 2 ^ suc k ≡ u * w + u * w
  double = ap (λ v. u * v) (two-pow-succ k) ∙ mul-add u w w

  even : q % 2 ≡ 0 → q * w ≡ u * 2 ^ suc k
  even e = let h = half in let z : q ≡ u + u = omega arith in ap (λ v. v * w) z ∙ (add-mul u u w ∙ sym double)

  odd : (q % 2 ≡ 0 → ⊥) → q * w ≡ u * 2 ^ suc k + w
  odd e =
      let h = half in
      let z : q ≡ u + u + 1 = omega (arith, e) in
      let d = double in
      let a = add-mul (u + u) 1 w in
      let b = add-mul u u w in
      let o = one-mul w in
      ap (λ v. v * w) z ∙ omega arith

  -- the middle is half of the width from the lower end
  middle_at : middle (stripe_at (suc k) x) ≡ u * 2 ^ suc k + w
  middle_at = let e = two-pow-succ k in omega arith

  is_left : q % 2 ≡ 0 → x < middle (stripe_at (suc k) x)
  is_left e = let m = middle_at in let p = even e in let a = whole k x in let b = less k x in omega arith

  is_right : (q % 2 ≡ 0 → ⊥) → middle (stripe_at (suc k) x) ≤ x
  is_right e = let m = middle_at in let p = odd e in let a = whole k x in omega arith

  left_at_lem : q % 2 ≡ 0 → left_part (stripe_at (suc k) x) ≡ stripe_at k x
  left_at_lem e = λ j. record { lower = sym (even e) j; upper = up j }
    where
      up : middle (stripe_at (suc k) x) ≡ q * w + w
      up = middle_at ∙ ap (λ v. v + w) (sym (even e))

  right_at_lem : (q % 2 ≡ 0 → ⊥) → right_part (stripe_at (suc k) x) ≡ stripe_at k x
  right_at_lem e = λ j. record { lower = (middle_at ∙ sym (odd e)) j; upper = up j }
    where
      up : u * 2 ^ suc k + 2 ^ suc k ≡ q * w + w
      up = let p = odd e in let t = two-pow-succ k in omega arith

  -- law: x's bit says on which side of the middle it lies
  pub bit_at : eqb (q % 2) 0 ≡ ltb x (middle (stripe_at (suc k) x))
  bit_at = on (eqb (q % 2) 0)
      (λ t. t ∙ sym (lt-ltb x (middle (stripe_at (suc k) x)) (is_left (eqb-true (q % 2) 0 t))))
      (λ f. f ∙ sym (le-ltb x (middle (stripe_at (suc k) x)) (is_right (eqb-false (q % 2) 0 f))))

  -- law: the part on x's side is the stripe that x lies in a level lower
  pub part_at : part_of (stripe_at (suc k) x) x ≡ stripe_at k x
  unfolding part_of
  part_at = on (eqb (q % 2) 0)
      (λ t. let e = eqb-true (q % 2) 0 t in rw (lt-ltb x (middle (stripe_at (suc k) x)) (is_left e)) (left_at_lem e))
      (λ f. let e = eqb-false (q % 2) 0 f in rw (le-ltb x (middle (stripe_at (suc k) x)) (is_right e)) (right_at_lem e))

-- law: the same of a level by its number
pub bit_of : (k x : ℕ) → 1 ≤ k → eqb (x / 2 ^ (k - 1) % 2) 0 ≡ ltb x (middle (stripe_at k x))
bit_of k x h = let e : suc (k - 1) ≡ k = omega arith in subst (λ m. eqb (x / 2 ^ (k - 1) % 2) 0 ≡ ltb x (middle (stripe_at m x))) e (bit_at (k - 1) x)
