-- The parts of a slim stripe are the parts of the stripe that it stands for, as long as there is more than a single x in it. It assumes a
-- stripe with so many levels below it, which ends where the root's does or before (`SlimAt`).
use Prim.Native.Nat.{ℕ, zero, suc, ◌+◌, ◌-◌, ◌/◌, ◌^◌, ◌≤◌}
use mathlib.Core.Path.{◌≡◌, refl, sym, ap, ◌∙◌}
use native.Mathlib.Omega.{arith}
use native.Mathlib.Nat.{two-pow-succ}
use Rattle.stripes.specs.Stripe.{low_levels, middle, left_part, right_part}
use Rattle.stripes.proofs.Heights.{power_some}
use Rattle.slim.specs.declared.Slim.{Slim}
use Rattle.slim.specs.Slim.{wide, stripe_by, root_slim, left_slim, right_slim, MiddleFits, SlimAt}

-- law: the middle is the lower end and half of the width
pub middle_by : (s : Slim) → middle (stripe_by s) ≡ s.lower + s.half
middle_by s = go s.lower s.half
  where
    go : (l h : ℕ) → (l + (l + wide h)) / 2 ≡ l + h
    go l zero = omega arith
    go l (suc h) = omega arith

wide_some : (w : ℕ) → 1 ≤ w → wide w ≡ w + w
wide_some zero h = absurd (omega arith)
wide_some (suc w) h = refl

-- the width is that of its half
wide_at : (k : ℕ) → wide (2 ^ k / 2) ≡ 2 ^ k
wide_at zero = refl
wide_at (suc k) =
    let e = two-pow-succ k in
    let h : 2 ^ suc k / 2 ≡ 2 ^ k = omega arith in
    ap wide h ∙ (wide_some (2 ^ k) (power_some k) ∙ sym e)

pub root_slim_lem : SlimAt low_levels root_slim
root_slim_lem = record { half = refl; low = omega arith }

module _ (k : ℕ) (s : Slim) (h : SlimAt k s) where
  -- law: its middle is a number of 32 bits
  pub slim_fits : MiddleFits s
  slim_fits = let w = power_some k in let a = h.half in let b = h.low in omega arith

module _ (k : ℕ) (s : Slim) (h : SlimAt (suc k) s) where
  half_is : s.half ≡ 2 ^ k
  half_is = let a = h.half in let e = two-pow-succ k in omega arith

  ends : s.lower + (2 ^ k + 2 ^ k) ≤ 4294967296
  ends = let b = h.low in let e = two-pow-succ k in omega arith

  left_below : SlimAt k (left_slim s)
  left_below = let b = ends in record { half = ap (λ w. w / 2) half_is; low = omega arith }

  right_below : SlimAt k (right_slim s)
  right_below = let a = half_is in let b = ends in record { half = ap (λ w. w / 2) half_is; low = omega arith }

  wide_next : wide (s.half / 2) ≡ 2 ^ k
  wide_next = ap (λ w. wide (w / 2)) half_is ∙ wide_at k

  -- law: the parts are those of the stripe that it stands for
  pub left_part_lem : stripe_by (left_slim s) ≡ left_part (stripe_by s)
  left_part_lem = λ i. record { lower = s.lower; upper = up i }
    where
      up : s.lower + wide (s.half / 2) ≡ middle (stripe_by s)
      up = ap (λ w. s.lower + w) (wide_next ∙ sym half_is) ∙ sym (middle_by s)

  pub right_part_lem : stripe_by (right_slim s) ≡ right_part (stripe_by s)
  right_part_lem = λ i. record { lower = sym (middle_by s) i; upper = up i }
    where
      all : wide s.half ≡ 2 ^ k + 2 ^ k
      all = ap wide half_is ∙ wide_some (2 ^ k) (power_some k)

      up : s.lower + s.half + wide (s.half / 2) ≡ s.lower + wide s.half
      up = let a = half_is in let b = all in let d = wide_next in omega arith

-- law: the parts are a level lower, or a single x
pub left_at_lem : (k : ℕ) (s : Slim) → SlimAt k s → SlimAt (k - 1) (left_slim s)
left_at_lem zero s h = let a = h.half in record { half = omega arith; low = h.low }
left_at_lem (suc k) s h = let z : suc k - 1 ≡ k = omega arith in rw z (left_below k s h)

pub right_at_lem : (k : ℕ) (s : Slim) → SlimAt k s → SlimAt (k - 1) (right_slim s)
right_at_lem zero s h = let a = h.half in let b = h.low in record { half = omega arith; low = omega arith }
right_at_lem (suc k) s h = let z : suc k - 1 ≡ k = omega arith in rw z (right_below k s h)
