-- How a range of x lies over a tree's stripes, level by level, and how many slots that lets a walk visit. A walk branches at most once above
-- stripes of which the range covers an end; in those, one of the two sons is covered whole. It assumes a well-formed tree.
use Prim.Native.Nat.{ℕ, zero, suc, ◌+◌, ◌≤◌}
use mathlib.Core.Path.{◌≡◌, refl}
use mathlib.Core.Bool.{Bool, true, false, ◌&&◌}
use native.Mathlib.Omega.{arith}
use lib.Dec.{ltb, leb}
use borrow.Author.Tests.{ltb-true, leb-true}
use Rattle.kinds.specs.declared.Pair.{Pair}
use Rattle.stripes.specs.Stripe.{Stripe, root_stripe, middle, left_part, right_part, all_levels}
use Rattle.trees.specs.Tree.{Tree, none, fork, Well, Within, itself}
use Rattle.kinds.proofs.Tests.{on}
use Rattle.trees.proofs.Levels.{root_levels}

-- the range x0 to x1 over a tree of so many levels at most; `low` and `high` say that it covers the stripe's lower, upper end
pub data LiesOver (x0 x1 : ℕ) : (low high : Bool) → ℕ → Stripe → Tree Pair → Type 0 where
  empty : {low high : Bool} {n : ℕ} {s : Stripe} → LiesOver x0 x1 low high n s none
  inside : {n i : ℕ} {s : Stripe} {p : Pair} {l r : Tree Pair} → x0 ≤ p.x → p.x ≤ x1
      → LiesOver x0 x1 true true n (left_part s) l → LiesOver x0 x1 true true n (right_part s) r → LiesOver x0 x1 true true (suc n) s (fork i p l r)
  both : {low high : Bool} {n i : ℕ} {s : Stripe} {p : Pair} {l r : Tree Pair} → (low && high) ≡ false
      → LiesOver x0 x1 low true n (left_part s) l → LiesOver x0 x1 true high n (right_part s) r → LiesOver x0 x1 low high (suc n) s (fork i p l r)
  left_only : {low high : Bool} {n i : ℕ} {s : Stripe} {p : Pair} {l r : Tree Pair} → (low && high) ≡ false → leb (middle s) x1 ≡ false
      → LiesOver x0 x1 low high n (left_part s) l → LiesOver x0 x1 low high (suc n) s (fork i p l r)
  right_only : {low high : Bool} {n i : ℕ} {s : Stripe} {p : Pair} {l r : Tree Pair} → (low && high) ≡ false → ltb x0 (middle s) ≡ false
      → LiesOver x0 x1 low high n (right_part s) r → LiesOver x0 x1 low high (suc n) s (fork i p l r)

-- P, where it is asked for
abbrev When : Bool → Type 0 → Type 0
When true P = P
When false P = Unit {0}

lies_over : (x0 x1 : ℕ) (low high : Bool) (n : ℕ) (s : Stripe) (t : Tree Pair) → Well itself s t → Within n t
    → When low (x0 ≤ s.lower) → When high (s.upper ≤ suc x1) → LiesOver x0 x1 low high n s t
lies_over x0 x1 low high n s none w d a b = empty
lies_over x0 x1 low high zero s (fork i p l r) w d a b = absurd d
lies_over x0 x1 true true (suc n) s (fork i p l r) w d a b =
    let j = w.inside in
    inside {p = p} (omega arith) (omega arith) (lies_over x0 x1 true true n (left_part s) l w.left d.0 a (omega arith))
    (lies_over x0 x1 true true n (right_part s) r w.right d.1 (omega arith) b)
lies_over x0 x1 true false (suc n) s (fork i p l r) w d a b =
    let j = w.inside in
    on (leb (middle s) x1)
    (λ e. both refl (lies_over x0 x1 true true n (left_part s) l w.left d.0 a (omega (arith, leb-true)))
    (lies_over x0 x1 true false n (right_part s) r w.right d.1 (omega arith) tt))
    (λ e. left_only refl e (lies_over x0 x1 true false n (left_part s) l w.left d.0 a tt))
lies_over x0 x1 false true (suc n) s (fork i p l r) w d a b =
    let j = w.inside in
    on (ltb x0 (middle s))
    (λ e. both refl (lies_over x0 x1 false true n (left_part s) l w.left d.0 tt (omega arith))
    (lies_over x0 x1 true true n (right_part s) r w.right d.1 (omega (arith, ltb-true)) b))
    (λ e. right_only refl e (lies_over x0 x1 false true n (right_part s) r w.right d.1 tt b))
lies_over x0 x1 false false (suc n) s (fork i p l r) w d a b =
    on (ltb x0 (middle s))
    (λ e. on (leb (middle s) x1)
    (λ f. both refl (lies_over x0 x1 false true n (left_part s) l w.left d.0 tt (omega (arith, leb-true)))
    (lies_over x0 x1 true false n (right_part s) r w.right d.1 (omega (arith, ltb-true)) tt))
    (λ f. left_only refl f (lies_over x0 x1 false false n (left_part s) l w.left d.0 tt tt)))
    (λ e. right_only refl e (lies_over x0 x1 false false n (right_part s) r w.right d.1 tt tt))

pub lies_over_root : (x0 x1 : ℕ) (t : Tree Pair) → Well itself root_stripe t → LiesOver x0 x1 false false all_levels root_stripe t
lies_over_root x0 x1 t w = lies_over x0 x1 false false all_levels root_stripe t w (root_levels itself t w) tt tt

-- the most visits in so many levels: where the range covers the stripe, where it covers one end, and anywhere
abbrev pub whole : ℕ → ℕ
whole zero = 0
whole (suc n) = 1

abbrev pub one_end : ℕ → ℕ
one_end zero = 0
one_end (suc n) = whole n + one_end n + 1

abbrev pub no_end : ℕ → ℕ
no_end zero = 0
no_end (suc n) = one_end n + one_end n + 1

abbrev pub most_visits : (low high : Bool) → ℕ → ℕ
most_visits true true n = whole n
most_visits true false n = one_end n
most_visits false true n = one_end n
most_visits false false n = no_end n

pub no_end_le : (n : ℕ) → no_end n ≤ one_end n + one_end n
no_end_le zero = omega arith
no_end_le (suc n) = omega arith

pub whole_le : (n : ℕ) → whole n ≤ 1
whole_le zero = omega arith
whole_le (suc n) = omega arith

not_both : {C : Type 0} → (true && true) ≡ false → C
not_both e = let z : ◌≡◌ {A = ℕ} 0 1 = cc in absurd (omega arith)

-- a slot above two sons, and above one
pub most_both : (low high : Bool) (n : ℕ) → (low && high) ≡ false → most_visits low true n + most_visits true high n + 1 ≤ most_visits low high (suc n)
most_both true true n c = not_both c
most_both true false n c = omega arith
most_both false true n c = omega arith
most_both false false n c = omega arith

pub most_one : (low high : Bool) (n : ℕ) → (low && high) ≡ false → most_visits low high n + 1 ≤ most_visits low high (suc n)
most_one true true n c = not_both c
most_one true false n c = omega arith
most_one false true n c = omega arith
most_one false false n c = omega (arith, no_end_le n)
