-- At the root no search makes more than 127 visits. Shown once for all 32 levels. It assumes a well-formed tree.
use Rattle.std.specs.Prelude.{Option, Some, None}
use Prim.Native.Nat.{ℕ, zero, suc, ◌+◌, ◌≤◌}
use mathlib.Core.Path.{◌≡◌, refl}
use mathlib.Core.Bool.{Bool, true, false}
use native.Mathlib.Omega.{arith}
use lib.Dec.{ltb, leb}
use Rattle.kinds.specs.declared.Pair.{Pair}
use Rattle.kinds.specs.declared.Limits.{Limits}
use Rattle.kinds.specs.declared.Walked.{Walked}
use Rattle.plain.specs.Plain.{in_range, matches, own, closest, smaller, larger}
use Rattle.stripes.specs.Stripe.{Stripe, root_stripe, middle, left_part, right_part}
use Rattle.trees.specs.Tree.{Tree, fork, Well, itself}
use Rattle.walks.specs.Walks.{ask, or_else, x_rule, smallest_x, largest_x, smallest_y}
use Rattle.kinds.proofs.Tests.{on, clash}
use Rattle.walks.proofs.Outside.{in_range_lem, is_match}
use Rattle.walks.proofs.Sizes.{Upto, upto_ask}
use Rattle.walks.proofs.Ranges.{LiesOver, empty, inside, both, left_only, right_only, lies_over_root, whole, one_end, no_end, most_visits, no_end_le, most_both, most_one}

-- the smallest y
upto_none : {c : Bool} (w : Walked) → c ≡ false → c ≡ true → Upto 0 w
upto_none w e t = absurd (clash t e)

module _ (x0 x1 : ℕ) where
  y_slot : (s : Stripe) (i : ℕ) (p : Pair) (l r : Tree Pair) {j k m : ℕ} → (ltb x0 (middle s) ≡ true → Upto j (smallest_y x0 x1 (left_part s) l))
      → (leb (middle s) x1 ≡ true → Upto k (smallest_y x0 x1 (right_part s) r)) → j + k + 1 ≤ m → Upto m (smallest_y x0 x1 s (fork i p l r))
  unfolding smallest_y
  y_slot s i p l r ha hb h =
      let a = upto_ask (ltb x0 (middle s)) (smallest_y x0 x1 (left_part s) l) ha in
      let b = upto_ask (leb (middle s) x1) (smallest_y x0 x1 (right_part s) r) hb in
      on (in_range x0 x1 p) (λ e. rw e (record { visits = omega arith })) (λ e. rw e (record { visits = omega arith }))

  y_upto : {low high : Bool} {n : ℕ} {s : Stripe} {t : Tree Pair} → LiesOver x0 x1 low high n s t → Upto (most_visits low high n) (smallest_y x0 x1 s t)
  unfolding smallest_y
  y_upto empty = record { visits = omega arith }
  y_upto (inside {p = p} a b u v) = rw (in_range_lem x0 x1 p a b) (record { visits = omega arith })
  y_upto (both {low = low} {high = high} {n = n} {i = i} {s = s} {p = p} {l = l} {r = r} c u v) =
      y_slot s i p l r (λ _. y_upto u) (λ _. y_upto v) (most_both low high n c)
  y_upto (left_only {low = low} {high = high} {n = n} {i = i} {s = s} {p = p} {l = l} {r = r} c e u) =
      y_slot s i p l r (λ _. y_upto u) (upto_none _ e) (omega (arith, most_one low high n c))
  y_upto (right_only {low = low} {high = high} {n = n} {i = i} {s = s} {p = p} {l = l} {r = r} c e v) =
      y_slot s i p l r (upto_none _ e) (λ _. y_upto v) (omega (arith, most_one low high n c))

-- both x walks: visits at most f where nothing is found, and at most k
record Cost (f k : ℕ) (w : Walked) : Type 0 where
  miss : w.finding ≡ None → w.visits ≤ f
  all : w.visits ≤ k

cost_ask : (c : Bool) (w : Walked) {f k : ℕ} → (c ≡ true → Cost f k w) → Cost f k (ask c w)
cost_ask true w h = h refl
cost_ask false w h = record { miss = λ _. omega arith; all = omega arith }

cost_none : {c : Bool} (w : Walked) → c ≡ false → c ≡ true → Cost 0 0 w
cost_none w e t = absurd (clash t e)

module _ (closer : Pair → Pair → Bool) where
  -- where the closer of two is nothing, so are both
  miss_first : (f g : Option Pair) → closest closer f g ≡ None → f ≡ None
  miss_first None g e = refl
  miss_first (Some p) None e = e
  miss_first (Some p) (Some q) e = on (closer q p) (λ t. cc) (λ t. cc)

  miss_second : (f : Option Pair) (p : Pair) → closest closer f (Some p) ≡ None → ◌≡◌ {A = ℕ} 0 1
  miss_second None p e = cc
  miss_second (Some q) p e = on (closer p q) (λ t. cc) (λ t. cc)

  module _ (q : Limits) (p : Pair) (a b : Walked) where
    -- the slot's rule, whatever the sons cost: the second son is asked only where the first gave nothing
    cost_sons : {fa ka fb kb : ℕ} → Cost fa ka a → Cost fb kb b → (g : Option Pair) → a.finding ≡ g → (f k : ℕ) → ka + 1 ≤ k → fa + kb + 1 ≤ k → fa + fb + 1 ≤ f
        → Cost f k (record {
          finding = closest closer (or_else g b).finding (own (matches q) p);
          visits = a.visits + (or_else g b).visits + 1;
        })
    cost_sons ca cb None e f k h i j = record {
      miss = λ d. omega (arith, ca.miss e, cb.miss (miss_first b.finding (own (matches q) p) d));
      all = omega (arith, ca.miss e, cb.all);
    }
    cost_sons ca cb (Some v) e f k h i j = record {
      miss = λ d. let z : ◌≡◌ {A = ℕ} 0 1 = cc (miss_first (Some v) (own (matches q) p) d) in omega arith;
      all = omega (arith, ca.all);
    }

    cost_slot : {fa ka fb kb : ℕ} → Cost fa ka a → Cost fb kb b → (f k : ℕ) → ka + 1 ≤ k → fa + kb + 1 ≤ k → fa + fb + 1 ≤ f → Cost f k (x_rule closer q p a b)
    cost_slot ca cb f k h i j = on (ltb q.y1 p.y) (λ t. rw t (record { miss = λ _. omega arith; all = omega arith }))
        (λ t. rw t (cost_sons ca cb a.finding refl f k h i j))

    -- a slot whose x is in range finds something, or is the only one visited
    miss_one : q.x0 ≤ p.x → p.x ≤ q.x1 → (x_rule closer q p a b).finding ≡ None → (x_rule closer q p a b).visits ≤ 1
    miss_one h k = on (ltb q.y1 p.y) (λ e. rw e (λ _. omega arith))
        (λ e. rw (e, is_match q p h k e) (λ d. let z = miss_second (or_else a.finding b).finding p d in omega arith))

-- the most visits of an x walk: `near` says that the range covers the end on the side first asked
abbrev full : (near : Bool) → ℕ → ℕ
full true n = one_end n
full false n = no_end n

whole_end : (n : ℕ) → whole n ≤ one_end n
whole_end zero = omega arith
whole_end (suc n) = omega arith

end_none : (n : ℕ) → one_end n ≤ no_end n
end_none zero = omega arith
end_none (suc n) = omega (arith, whole_end n)

full_one : (near : Bool) (n : ℕ) → full near n + 1 ≤ full near (suc n)
full_one true n = omega arith
full_one false n = omega (arith, no_end_le n)

full_low : (low : Bool) (n : ℕ) → most_visits low true n + one_end n + 1 ≤ full low (suc n)
full_low true n = omega arith
full_low false n = omega arith

full_high : (high : Bool) (n : ℕ) → most_visits true high n + one_end n + 1 ≤ full high (suc n)
full_high true n = omega arith
full_high false n = omega arith

most_full : (low high : Bool) (n : ℕ) → (most_visits low high n ≤ full low n) × (most_visits low high n ≤ full high n)
most_full true true n = let a = whole_end n in (a, a)
most_full true false n = (omega arith, end_none n)
most_full false true n = (end_none n, omega arith)
most_full false false n = (omega arith, omega arith)

module _ (q : Limits) where
  smallest_x_slot : (s : Stripe) (i : ℕ) (p : Pair) (l r : Tree Pair) {fa ka fb kb : ℕ}
      → (ltb q.x0 (middle s) ≡ true → Cost fa ka (smallest_x q (left_part s) l)) → (leb (middle s) q.x1 ≡ true → Cost fb kb (smallest_x q (right_part s) r))
      → (f k : ℕ) → ka + 1 ≤ k → fa + kb + 1 ≤ k → fa + fb + 1 ≤ f → Cost f k (smallest_x q s (fork i p l r))
  unfolding smallest_x
  smallest_x_slot s i p l r ha hb = cost_slot smaller q p _ _ (cost_ask (ltb q.x0 (middle s)) _ ha) (cost_ask (leb (middle s) q.x1) _ hb)

  smallest_x_cost : {low high : Bool} {n : ℕ} {s : Stripe} {t : Tree Pair} → LiesOver q.x0 q.x1 low high n s t
      → Cost (most_visits low high n) (full low n) (smallest_x q s t)
  unfolding smallest_x
  smallest_x_cost empty = record { miss = λ _. omega arith; all = omega arith }
  smallest_x_cost (inside {n = n} {i = i} {s = s} {p = p} {l = l} {r = r} a b u v) = record {
    miss = miss_one smaller q p (ask (ltb q.x0 (middle s)) (smallest_x q (left_part s) l)) (ask (leb (middle s) q.x1) (smallest_x q (right_part s) r)) a b;
    all = (smallest_x_slot s i p l r (λ _. smallest_x_cost u) (λ _. smallest_x_cost v) (whole n + whole n + 1) (one_end (suc n))
        (omega arith) (omega arith) (omega arith)).all;
  }
  smallest_x_cost (both {low = low} {high = high} {n = n} {i = i} {s = s} {p = p} {l = l} {r = r} c u v) =
      smallest_x_slot s i p l r (λ _. smallest_x_cost u) (λ _. smallest_x_cost v) (most_visits low high (suc n)) (full low (suc n)) (full_one low n) (full_low low n) (most_both low high n c)
  smallest_x_cost (left_only {low = low} {high = high} {n = n} {i = i} {s = s} {p = p} {l = l} {r = r} c e u) =
      let m = most_full low high n in
      let h = full_one low n in
      smallest_x_slot s i p l r (λ _. smallest_x_cost u) (cost_none _ e) (most_visits low high (suc n)) (full low (suc n)) h (omega arith) (omega (arith, most_one low high n c))
  smallest_x_cost (right_only {low = low} {high = high} {n = n} {i = i} {s = s} {p = p} {l = l} {r = r} c e v) =
      let h = full_one low n in
      let m = most_one low high n c in
      smallest_x_slot s i p l r (cost_none _ e) (λ _. smallest_x_cost v) (most_visits low high (suc n)) (full low (suc n)) (omega arith) (omega arith) (omega arith)

  largest_x_slot : (s : Stripe) (i : ℕ) (p : Pair) (l r : Tree Pair) {fa ka fb kb : ℕ}
      → (leb (middle s) q.x1 ≡ true → Cost fa ka (largest_x q (right_part s) r)) → (ltb q.x0 (middle s) ≡ true → Cost fb kb (largest_x q (left_part s) l))
      → (f k : ℕ) → ka + 1 ≤ k → fa + kb + 1 ≤ k → fa + fb + 1 ≤ f → Cost f k (largest_x q s (fork i p l r))
  unfolding largest_x
  largest_x_slot s i p l r ha hb = cost_slot larger q p _ _ (cost_ask (leb (middle s) q.x1) _ ha) (cost_ask (ltb q.x0 (middle s)) _ hb)

  largest_x_cost : {low high : Bool} {n : ℕ} {s : Stripe} {t : Tree Pair} → LiesOver q.x0 q.x1 low high n s t
      → Cost (most_visits low high n) (full high n) (largest_x q s t)
  unfolding largest_x
  largest_x_cost empty = record { miss = λ _. omega arith; all = omega arith }
  largest_x_cost (inside {n = n} {i = i} {s = s} {p = p} {l = l} {r = r} a b u v) = record {
    miss = miss_one larger q p (ask (leb (middle s) q.x1) (largest_x q (right_part s) r)) (ask (ltb q.x0 (middle s)) (largest_x q (left_part s) l)) a b;
    all = (largest_x_slot s i p l r (λ _. largest_x_cost v) (λ _. largest_x_cost u) (whole n + whole n + 1) (one_end (suc n))
        (omega arith) (omega arith) (omega arith)).all;
  }
  largest_x_cost (both {low = low} {high = high} {n = n} {i = i} {s = s} {p = p} {l = l} {r = r} c u v) =
      let m = most_both low high n c in
      largest_x_slot s i p l r (λ _. largest_x_cost v) (λ _. largest_x_cost u) (most_visits low high (suc n)) (full high (suc n)) (full_one high n) (full_high high n) (omega arith)
  largest_x_cost (left_only {low = low} {high = high} {n = n} {i = i} {s = s} {p = p} {l = l} {r = r} c e u) =
      let h = full_one high n in
      let m = most_one low high n c in
      largest_x_slot s i p l r (cost_none _ e) (λ _. largest_x_cost u) (most_visits low high (suc n)) (full high (suc n)) (omega arith) (omega arith) (omega arith)
  largest_x_cost (right_only {low = low} {high = high} {n = n} {i = i} {s = s} {p = p} {l = l} {r = r} c e v) =
      let m = most_full low high n in
      let h = full_one high n in
      largest_x_slot s i p l r (λ _. largest_x_cost v) (cost_none _ e) (most_visits low high (suc n)) (full high (suc n)) h (omega arith) (omega (arith, most_one low high n c))

-- law: the smallest y
pub smallest_y_visits : (x0 x1 : ℕ) (t : Tree Pair) → Well itself root_stripe t → (smallest_y x0 x1 root_stripe t).visits ≤ 127
smallest_y_visits x0 x1 t w = (y_upto x0 x1 (lies_over_root x0 x1 t w)).visits

-- law: the smallest x
pub smallest_x_visits : (q : Limits) (t : Tree Pair) → Well itself root_stripe t → (smallest_x q root_stripe t).visits ≤ 127
smallest_x_visits q t w = (smallest_x_cost q (lies_over_root q.x0 q.x1 t w)).all

-- law: the largest x
pub largest_x_visits : (q : Limits) (t : Tree Pair) → Well itself root_stripe t → (largest_x q root_stripe t).visits ≤ 127
largest_x_visits q t w = (largest_x_cost q (lies_over_root q.x0 q.x1 t w)).all
