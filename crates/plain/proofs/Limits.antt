-- The limits of 01's table say what they are to say of every stored pair, and the x of a strip is of 32 bits. Assumed of a stored pair is only that
-- its x is.
use Prim.Native.Nat.{ℕ, ◌+◌, ◌*◌, ◌≤◌, ◌<◌}
use mathlib.Core.Path.{◌≡◌}
use mathlib.Core.Logic.{◌↔◌}
use mathlib.Core.Bool.{true, false, ◌||◌}
use native.Mathlib.Omega.{arith}
use lib.Dec.{leb, ltb}
use borrow.Author.Tests.{le-leb, leb-true, ltb-false}
use Rattle.kinds.specs.declared.Limits.{Limits}
use Rattle.kinds.specs.declared.Pair.{Pair}
use Rattle.plain.specs.Plain.{in_range, matches}
use Rattle.kinds.proofs.Tests.{both, neither}
use Rattle.plain.specs.Strips.{over, bad_strip, strip_pair, end_of, Covers, Meets, Contains, covers_limits, last_limits, meets_limits, contains_limits}

-- law: the numbers of a strip that is not bad fit, so its x is of 32 bits
module _ (start end number : ℕ) (f : bad_strip start end number ≡ false) where
  pub strip_fits : (end ≤ 65535) × (number ≤ 65535)
  strip_fits =
      let a = neither (over start || over end || over number) (ltb end start) f in
      let b = neither (over start || over end) (over number) a.0 in
      let d = neither (over start) (over end) b.0 in
      (ltb-false 65535 end d.1, ltb-false 65535 number b.1)

  pub strip_small : (strip_pair start end number).x < 4294967296
  strip_small = let h = strip_fits in omega arith

pub record Inside (q : Limits) (p : Pair) : Type 0 where
  pub from : q.x0 ≤ p.x
  pub to : p.x ≤ q.x1
  pub low : p.y ≤ q.y1

pub inside_true : (q : Limits) (p : Pair) → matches q p ≡ true → Inside q p
inside_true q p h =
    let a = both (in_range q.x0 q.x1 p) (leb p.y q.y1) h in
    let b = both (leb q.x0 p.x) (leb p.x q.x1) a.0 in
    record { from = leb-true _ _ b.0; to = leb-true _ _ b.1; low = leb-true _ _ a.1 }

pub true_inside : (q : Limits) (p : Pair) → Inside q p → matches q p ≡ true
true_inside q p i = rw (le-leb q.x0 p.x i.from, le-leb p.x q.x1 i.to, le-leb p.y q.y1 i.low)

module _ (p : Pair) (small : p.x < 4294967296) where
  -- law: the limits of covers
  pub covers_limits_lem : (u : ℕ) → (matches (covers_limits u) p ≡ true) ↔ Covers u p
  covers_limits_lem u = (
    λ h. let i = inside_true (covers_limits u) p h in record { start = i.low; end = omega arith },
    λ k. true_inside (covers_limits u) p (record { from = omega arith; to = omega arith; low = k.start }),
  )

  pub meets_limits_lem : (u v : ℕ) → (matches (meets_limits u v) p ≡ true) ↔ Meets u v p
  meets_limits_lem u v = (
    λ h. let i = inside_true (meets_limits u v) p h in record { start = i.low; end = omega arith },
    λ k. true_inside (meets_limits u v) p (record { from = omega arith; to = omega arith; low = k.start }),
  )

  pub contains_limits_lem : (u v : ℕ) → (matches (contains_limits u v) p ≡ true) ↔ Contains u v p
  contains_limits_lem u v = (
    λ h. let i = inside_true (contains_limits u v) p h in record { start = i.low; end = omega arith },
    λ k. true_inside (contains_limits u v) p (record { from = omega arith; to = omega arith; low = k.start }),
  )

  -- law: and of covers with an end no later than e: a strip that ends exactly on the limit is seen
  pub last_limits_lem : (u e : ℕ) → (matches (last_limits u e) p ≡ true) ↔ (Covers u p × (end_of p ≤ e))
  last_limits_lem u e = (
    λ h. let i = inside_true (last_limits u e) p h in (record { start = i.low; end = omega arith }, omega arith),
    λ k. let a = k.0.end in let b = k.1 in true_inside (last_limits u e) p (record { from = omega arith; to = omega arith; low = k.0.start }),
  )

  pub ends_limits : (u v : ℕ) → (in_range (u * 65536) (v * 65536 + 65535) p ≡ true) ↔ ((u ≤ end_of p) × (end_of p ≤ v))
  ends_limits u v = (
    λ h. let b = both (leb (u * 65536) p.x) (leb p.x (v * 65536 + 65535)) h in
        let f = leb-true (u * 65536) p.x b.0 in
        let g = leb-true p.x (v * 65536 + 65535) b.1 in
        (omega arith, omega arith),
    λ k. let a = k.0 in let b = k.1 in
        rw (le-leb (u * 65536) p.x (omega arith), le-leb p.x (v * 65536 + 65535) (omega arith)),
  )
