-- Which of two findings is the closer, and what a scan keeps by it. What a scan keeps assumes that the closer of two pairs ranks them (`Ranks`),
-- as in each of the three questions.
use Rattle.std.specs.Prelude.{Option, Some, None}
use mathlib.Core.Path.{◌≡◌, refl, sym, ap, ◌∙◌}
use mathlib.Core.Logic.{◌≢◌, ◌⊎◌, inl, inr}
use mathlib.Core.Bool.{Bool, true, false, not}
use mathlib.Core.List.{List, [], ◌∷◌, ◌++◌}
use native.Mathlib.Omega.{arith}
use borrow.Author.Tests.{ltb-true, ltb-false, le-ltb}
use Rattle.kinds.specs.declared.Pair.{Pair}
use Rattle.kinds.specs.Pairs.{beats}
use Rattle.plain.specs.Plain.{own, closest, scan, smaller, larger}
use Rattle.kinds.proofs.Tests.{test, on, clash}
use Rattle.kinds.proofs.Order.{beats_true, false_beats, true_beats, beats_trans, beats_level}

-- which of two is closer: never both ways, carried on where it does not hold, and where neither is closer their x are equal
pub record Ranks (closer : Pair → Pair → Bool) : Type 0 where
  pub asym : (p q : Pair) → closer p q ≡ true → closer q p ≡ false
  pub down : (p q r : Pair) → closer r q ≡ false → closer q p ≡ false → closer r p ≡ false
  pub tie : (p q : Pair) → closer p q ≡ false → closer q p ≡ false → p.x ≡ q.x

pub by_smaller : Ranks smaller
by_smaller = record {
  asym = λ p q e. le-ltb q.x p.x (omega (arith, ltb-true));
  down = λ p q r a b. le-ltb r.x p.x (omega (arith, ltb-false));
  tie = λ p q a b. omega (arith, ltb-false);
}

pub by_larger : Ranks larger
by_larger = record {
  asym = λ p q e. le-ltb p.x q.x (omega (arith, ltb-true));
  down = λ p q r a b. le-ltb p.x r.x (omega (arith, ltb-false));
  tie = λ p q a b. omega (arith, ltb-false);
}

beats_down : (p q r : Pair) → beats r q ≡ false → beats q p ≡ false → beats r p ≡ false
beats_down p q r a b = on (beats p q)
    (λ t. on (beats r p) (λ u. absurd (clash (true_beats (beats_trans (beats_true r p u) (beats_true p q t))) a)) (λ u. u))
    (λ t. ap (beats r) (beats_level p q t b) ∙ a)

pub by_beats : Ranks beats
by_beats = record {
  asym = λ p q e. false_beats (beats_true p q e);
  down = beats_down;
  tie = λ p q a b. ap (λ p. p.x) (beats_level p q a b);
}

-- P holds of what is found, if anything is
pub data Sat (P : Pair → Type 0) : Option Pair → Type 0 where
  sat_none : Sat P None
  sat_one : {p : Pair} → P p → Sat P (Some p)

-- what holds whatever `closer` is
pub closest_nothing : (closer : Pair → Pair → Bool) (f : Option Pair) → closest closer f None ≡ f
closest_nothing closer None = refl
closest_nothing closer (Some p) = refl

module _ (ok : Pair → Bool) (closer : Pair → Pair → Bool) where
  pub scan_append : (f : Option Pair) (u v : List Pair) → scan ok closer f (u ++ v) ≡ scan ok closer (scan ok closer f u) v
  scan_append f [] v = refl
  scan_append f (p ∷ u) v = scan_append (closest closer f (own ok p)) u v

  module _ (P : Pair → Type 0) where
    pub closest_sat : {f g : Option Pair} → Sat P f → Sat P g → Sat P (closest closer f g)
    closest_sat sat_none k = k
    closest_sat (sat_one h) sat_none = sat_one h
    closest_sat (sat_one {p} h) (sat_one {p = q} k) = on (closer q p) (λ e. rw e (sat_one k)) (λ e. rw e (sat_one h))

    pub own_sat : (p : Pair) → P p → Sat P (own ok p)
    own_sat p h = on (ok p) (λ e. rw e (sat_one h)) (λ e. rw e sat_none)

  -- the first is kept where nothing of the second is closer; the order of two does not matter where one is the closer
  pub closest_first : {p : Pair} {g : Option Pair} → Sat (λ q. closer q p ≡ false) g → closest closer (Some p) g ≡ Some p
  closest_first sat_none = refl
  closest_first (sat_one h) = rw h

  pub closest_swap : (p : Pair) {f : Option Pair} → Sat (λ q. closer q p ≡ not (closer p q)) f
      → closest closer f (own ok p) ≡ closest closer (own ok p) f
  closest_swap p sat_none = sym (closest_nothing closer _)
  closest_swap p (sat_one {p = q} h) = on (ok p) (λ o. rw o (on (closer p q) (λ e. rw (h, e)) (λ e. rw (h, e)))) (λ o. rw o)

  pub closest_comm : {f g : Option Pair} → Sat (λ v. Sat (λ w. closer w v ≡ not (closer v w)) g) f → closest closer f g ≡ closest closer g f
  closest_comm sat_none = sym (closest_nothing closer _)
  closest_comm (sat_one sat_none) = refl
  closest_comm (sat_one {p = v} (sat_one {p = w} h)) = on (closer v w) (λ e. rw (h, e)) (λ e. rw (h, e))

module _ (ok : Pair → Bool) {closer : Pair → Pair → Bool} (R : Ranks closer) where
  up : (p q r : Pair) → closer r q ≡ true → closer q p ≡ true → closer r p ≡ true
  up p q r a b = on (closer r p) (λ t. t) (λ f. absurd (clash a (R.down q p r f (R.asym q p b))))

  -- of two with different x one is the closer
  pub one_way : (p q : Pair) → p.x ≢ q.x → closer q p ≡ not (closer p q)
  one_way p q d = on (closer p q) (λ e. rw e (R.asym p q e)) (λ e. rw e (on (closer q p) (λ t. t) (λ f. absurd (d (R.tie p q e f)))))

  pub closest_assoc : (f g h : Option Pair) → closest closer (closest closer f g) h ≡ closest closer f (closest closer g h)
  closest_assoc None g h = refl
  closest_assoc (Some p) None h = refl
  closest_assoc (Some p) (Some q) None = closest_nothing closer (closest closer (Some p) (Some q))
  closest_assoc (Some p) (Some q) (Some r) = go (test (closer q p)) (test (closer r q))
    where
      go : (closer q p ≡ true) ⊎ (closer q p ≡ false) → (closer r q ≡ true) ⊎ (closer r q ≡ false)
          → closest closer (closest closer (Some p) (Some q)) (Some r) ≡ closest closer (Some p) (closest closer (Some q) (Some r))
      go (inl a) (inl b) = rw (a, b, up p q r b a)
      go (inl a) (inr b) = rw (a, b, a)
      go (inr a) (inl b) = rw (a, b)
      go (inr a) (inr b) = rw (a, b, a, R.down p q r b a)
