-- A stripe at most 2 ^ k wide has at most k + 1 levels of slots: a son's stripe is half as wide, and one x has one slot. It assumes a
-- well-formed tree.
use Prim.Native.Nat.{ℕ, zero, suc, ◌+◌, ◌^◌, ◌≤◌}
use native.Mathlib.Omega.{arith}
use native.Mathlib.Nat.{two-pow-succ}
use Rattle.kinds.specs.declared.Pair.{Pair}
use Rattle.stripes.specs.Stripe.{Stripe, In, root_stripe, left_part, right_part, low_levels, all_levels}
use Rattle.trees.specs.Tree.{Tree, none, fork, All, Under, Well, Within}

module _ {A : Type 0} (key : A → Pair) where
  one_left : (s : Stripe) (l : Tree A) → Well key (left_part s) l → s.upper ≤ s.lower + 1 → Within 0 l
  one_left s none w h = tt
  one_left s (fork i q l r) w h = let j = w.inside in absurd (omega arith)

  one_right : (s : Stripe) (p : A) (r : Tree A) → In s (key p).x → Well key (right_part s) r → All (λ q. Under (key p) (key q)) r → s.upper ≤ s.lower + 1
      → Within 0 r
  one_right s p none i w u h = tt
  one_right s p (fork a q l r) i w u h =
      let j = w.inside in
      let d = u.0.apart in
      absurd (d (omega arith))

  pub levels : (s : Stripe) (k : ℕ) (t : Tree A) → Well key s t → s.upper ≤ s.lower + 2 ^ k → Within (suc k) t
  levels s k none w h = tt
  levels s zero (fork i p l r) w h = (one_left s l w.left h, one_right s p r w.inside w.right w.over_right h)
  levels s (suc k) (fork i p l r) w h =
      let e = two-pow-succ k in
      (levels (left_part s) k l w.left (omega arith), levels (right_part s) k r w.right (omega arith))

  -- law: the root's tree has no slot below level 32
  pub root_levels : (t : Tree A) → Well key root_stripe t → Within all_levels t
  root_levels t w = levels root_stripe low_levels t w (omega arith)
