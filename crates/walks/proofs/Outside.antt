-- What a walk leaves out holds no match: the side of the middle that is beyond the range, and all below a pair with y > y1. It assumes a
-- well-formed tree.
use Prim.Native.Nat.{ℕ, ◌≤◌, ◌<◌}
use mathlib.Core.Path.{◌≡◌}
use mathlib.Core.Bool.{true, false}
use native.Mathlib.Omega.{arith}
use lib.Dec.{ltb, leb}
use borrow.Author.Tests.{ltb-true, ltb-false, leb-false, lt-leb, le-leb}
use Rattle.kinds.specs.declared.Pair.{Pair}
use Rattle.kinds.specs.declared.Limits.{Limits}
use Rattle.kinds.specs.Pairs.{Beats, lower, level}
use Rattle.plain.specs.Plain.{in_range, matches}
use Rattle.stripes.specs.Stripe.{Stripe, middle, left_part, right_part}
use Rattle.trees.specs.Tree.{Tree, fork, All, Well, itself}
use Rattle.kinds.proofs.Tests.{and_false}
use Rattle.trees.proofs.Trees.{all_map, well_in}

module _ (x0 x1 : ℕ) where
  out_low : (p : Pair) → p.x < x0 → in_range x0 x1 p ≡ false
  out_low p h = rw (lt-leb x0 p.x h)

  out_high : (p : Pair) → x1 < p.x → in_range x0 x1 p ≡ false
  out_high p h = and_false (leb x0 p.x) (leb p.x x1) (lt-leb p.x x1 h)

  -- a son that is not asked has no pair in the range
  pub left_out : (s : Stripe) (l : Tree Pair) → Well itself (left_part s) l → ltb x0 (middle s) ≡ false → All (λ p. in_range x0 x1 p ≡ false) l
  left_out s l w e = all_map (λ p i. out_low p (omega (arith, ltb-false))) l (well_in itself (left_part s) l w)

  pub right_out : (s : Stripe) (r : Tree Pair) → Well itself (right_part s) r → leb (middle s) x1 ≡ false → All (λ p. in_range x0 x1 p ≡ false) r
  right_out s r w e = all_map (λ p i. out_high p (omega (arith, leb-false))) r (well_in itself (right_part s) r w)

  pub in_range_lem : (p : Pair) → x0 ≤ p.x → p.x ≤ x1 → in_range x0 x1 p ≡ true
  in_range_lem p a b = rw (le-leb x0 p.x a, le-leb p.x x1 b)

module _ (q : Limits) where
  no_match : (t : Tree Pair) → All (λ p. in_range q.x0 q.x1 p ≡ false) t → All (λ p. matches q p ≡ false) t
  no_match t h = all_map (λ p e. rw e) t h

  pub left_none : (s : Stripe) (l : Tree Pair) → Well itself (left_part s) l → ltb q.x0 (middle s) ≡ false → All (λ p. matches q p ≡ false) l
  left_none s l w e = no_match l (left_out q.x0 q.x1 s l w e)

  pub right_none : (s : Stripe) (r : Tree Pair) → Well itself (right_part s) r → leb (middle s) q.x1 ≡ false → All (λ p. matches q p ≡ false) r
  right_none s r w e = no_match r (right_out q.x0 q.x1 s r w e)

  out_y : (p : Pair) → q.y1 < p.y → matches q p ≡ false
  out_y p h = and_false (in_range q.x0 q.x1 p) (leb p.y q.y1) (lt-leb p.y q.y1 h)

  out_beaten : {p v : Pair} → q.y1 < p.y → Beats p v → matches q v ≡ false
  out_beaten {v = v} h (lower a) = out_y v (omega arith)
  out_beaten {v = v} h (level a b) = out_y v (omega arith)

  -- where y > y1 there is no match, and none below
  pub all_none : (s : Stripe) (i : ℕ) (p : Pair) (l r : Tree Pair) → Well itself s (fork i p l r) → ltb q.y1 p.y ≡ true
      → All (λ v. matches q v ≡ false) (fork i p l r)
  all_none s i p l r w e =
      let h = ltb-true _ _ e in (
        out_y p h,
        all_map (λ v u. out_beaten h u.beaten) l w.over_left,
        all_map (λ v u. out_beaten h u.beaten) r w.over_right,
      )

  pub is_match : (p : Pair) → q.x0 ≤ p.x → p.x ≤ q.x1 → ltb q.y1 p.y ≡ false → matches q p ≡ true
  is_match p a b e = rw (in_range_lem q.x0 q.x1 p a b, le-leb p.y q.y1 (ltb-false _ _ e))
