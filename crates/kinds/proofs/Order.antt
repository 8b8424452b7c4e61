-- Beating is an order that decides between any two pairs with different x. That the keys order pairs as this does assumes an x of 32 bits;
-- nothing else is assumed.
use Prim.Native.Nat.{ℕ, ◌≤◌, ◌<◌}
use mathlib.Core.Path.{◌≡◌, refl, sym, ◌∙◌}
use mathlib.Core.Logic.{◌≢◌, ◌⊎◌, inl, inr, ⊎_elim}
use mathlib.Core.Bool.{Bool, true, false, true≢false, ◌&&◌, ◌||◌}
use native.Mathlib.Omega.{arith}
use lib.Dec.{ltb, eqb}
use borrow.Author.Tests.{ltb-true, ltb-false, eqb-true, lt-ltb, le-ltb, eq-eqb}
use Rattle.kinds.specs.declared.Pair.{Pair}
use Rattle.kinds.specs.Pairs.{Beats, lower, level, beats}
use Rattle.kinds.specs.Shape.{key_of, Keyed}
use Rattle.kinds.proofs.Tests.{test, on, clash}

pub pair_ext : {p q : Pair} → p.x ≡ q.x → p.y ≡ q.y → p ≡ q
pair_ext e f = λ i. record { x = e i; y = f i }

pub beats_true : (p q : Pair) → beats p q ≡ true → Beats p q
unfolding beats
beats_true p q h = go (ltb p.y q.y) refl (eqb p.y q.y) refl h
  where
    go : (a : Bool) → ltb p.y q.y ≡ a → (b : Bool) → eqb p.y q.y ≡ b → (a || (b && ltb p.x q.x)) ≡ true → Beats p q
    go true e b f h = lower (ltb-true _ _ e)
    go false e true f h = level (eqb-true _ _ f) (ltb-true _ _ h)
    go false e false f h = let z : ◌≡◌ {A = ℕ} 0 1 = cc in absurd (omega arith)

pub true_beats : {p q : Pair} → Beats p q → beats p q ≡ true
unfolding beats
true_beats {p} {q} (lower h) = rw (lt-ltb p.y q.y h)
true_beats {p} {q} (level e h) = rw (le-ltb p.y q.y (omega arith), eq-eqb p.y q.y e, lt-ltb p.x q.x h)

pub beats_asym : {p q : Pair} → Beats p q → Beats q p → ⊥
beats_asym (lower a) (lower b) = omega arith
beats_asym (lower a) (level b c) = omega arith
beats_asym (level a b) (lower c) = omega arith
beats_asym (level a b) (level c d) = omega arith

pub beats_trans : {p q r : Pair} → Beats p q → Beats q r → Beats p r
beats_trans (lower a) (lower b) = lower (omega arith)
beats_trans (lower a) (level b c) = lower (omega arith)
beats_trans (level a b) (lower c) = lower (omega arith)
beats_trans (level a b) (level c d) = level (omega arith) (omega arith)

pub beats_total : (p q : Pair) → p.x ≢ q.x → Beats p q ⊎ Beats q p
beats_total p q ne = go (test (ltb p.y q.y)) (test (ltb q.y p.y)) (test (ltb p.x q.x))
  where
    go : (ltb p.y q.y ≡ true) ⊎ (ltb p.y q.y ≡ false) → (ltb q.y p.y ≡ true) ⊎ (ltb q.y p.y ≡ false)
        → (ltb p.x q.x ≡ true) ⊎ (ltb p.x q.x ≡ false) → Beats p q ⊎ Beats q p
    go (inl a) b c = inl (lower (ltb-true _ _ a))
    go (inr a) (inl b) c = inr (lower (ltb-true _ _ b))
    go (inr a) (inr b) (inl c) = inl (level (omega (arith, ltb-true, ltb-false)) (ltb-true _ _ c))
    go (inr a) (inr b) (inr c) = inr (level (omega (arith, ltb-true, ltb-false)) (omega (arith, ltb-true, ltb-false)))

pub false_beats : {p q : Pair} → Beats q p → beats p q ≡ false
false_beats {p} {q} h = on (beats p q) (λ t. absurd (beats_asym h (beats_true p q t))) (λ f. f)

pub beats_false : (p q : Pair) → p.x ≢ q.x → beats p q ≡ false → Beats q p
beats_false p q ne f = ⊎_elim (λ b. absurd (true≢false (sym (true_beats b) ∙ f))) (λ b. b) (beats_total p q ne)

-- two pairs of which neither beats the other are equal
not_below : (p q : Pair) → beats p q ≡ false → q.y ≤ p.y
not_below p q e = on (ltb p.y q.y) (λ a. absurd (clash (true_beats {p = p} {q = q} (lower (ltb-true _ _ a))) e)) (λ a. ltb-false _ _ a)

not_before : (p q : Pair) → beats p q ≡ false → p.y ≡ q.y → q.x ≤ p.x
not_before p q e d = on (ltb p.x q.x) (λ a. absurd (clash (true_beats {p = p} {q = q} (level d (ltb-true _ _ a))) e)) (λ a. ltb-false _ _ a)

pub beats_level : (p q : Pair) → beats p q ≡ false → beats q p ≡ false → p ≡ q
beats_level p q e f =
    let a = not_below p q e in
    let b = not_below q p f in
    let d : p.y ≡ q.y = omega arith in
    let c = not_before p q e d in
    let g = not_before q p f (sym d) in
    pair_ext (omega arith) d

-- law: of two keys the smaller is that of the pair that beats
pub beats_by_key : (p q : Pair) {k l : ℕ} → Keyed p k → Keyed q l → ltb k l ≡ beats p q
beats_by_key p q a b = rw (a.key, b.key) (on (ltb (key_of p) (key_of q))
    (λ t. t ∙ sym (true_beats (smaller_key (ltb-true (key_of p) (key_of q) t))))
    (λ f. f ∙ sym (not_smaller (ltb-false (key_of p) (key_of q) f))))
  where
    smaller_key : key_of p < key_of q → Beats p q
    smaller_key l = on (ltb p.y q.y) (λ t. lower (ltb-true _ _ t)) (λ f. let g = ltb-false p.y q.y f in level (omega (arith, l, g, a.low, b.low)) (omega (arith, l, g, a.low, b.low)))

    no : key_of q ≤ key_of p → Beats p q → ⊥
    no l (lower h) = omega (arith, h, l, a.low, b.low)
    no l (level h g) = omega (arith, h, g, l)

    not_smaller : key_of q ≤ key_of p → beats p q ≡ false
    not_smaller l = on (beats p q) (λ t. absurd (no l (beats_true p q t))) (λ f. f)
