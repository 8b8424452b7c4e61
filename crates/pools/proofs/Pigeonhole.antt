-- Different numbers from 1 to n: they are n at most, and where they are n every one is there.
use Prim.Native.Nat.{ℕ, zero, suc, ◌+◌, ◌≤◌}
use mathlib.Core.Path.{◌≡◌, refl, sym, ◌∙◌}
use mathlib.Core.Logic.{◌≢◌, ◌⊎◌, inl, inr, ⊎_elim}
use mathlib.Core.Bool.{cond}
use mathlib.Core.List.{List, [], ◌∷◌, Memᴰ}
use native.Mathlib.Omega.{arith}
use lib.Dec.{eqb}
use lib.ListN.{length}
use borrow.Author.Tests.{eqb-true, eqb-false}
use Rattle.plain.specs.Plain.{Differs, Apart}
use Rattle.kinds.proofs.Tests.{on}
use Rattle.plain.proofs.Apart.{differs_not}

pub member_or_not : (x : ℕ) (l : List ℕ) → Memᴰ x l ⊎ (Memᴰ x l → ⊥)
member_or_not x [] = inr (λ m. elim m [ ])
member_or_not x (a ∷ l) =
    let R = member_or_not x l in
    on (eqb x a) (λ e. inl (mathlib.Core.List.Memᴰ.head (eqb-true _ _ e)))
    (λ e. ⊎_elim (λ m. inl (mathlib.Core.List.Memᴰ.tail m)) (λ n. inr (λ m. ⊎_elim (λ h. eqb-false _ _ e h) n (mathlib.Core.List.Memᴰ.cases_cons m))) R)

-- the list without x
abbrev without : ℕ → List ℕ → List ℕ
without x [] = []
without x (a ∷ l) = let rest = without x l in cond (eqb a x) rest (a ∷ rest)

module _ (x : ℕ) where
  without_mem : (l : List ℕ) {a : ℕ} → Memᴰ a (without x l) → Memᴰ a l × (a ≢ x)
  without_mem [] m = elim m [ ]
  without_mem (b ∷ l) {a} m =
      let R = without_mem l {a = a} in
      on (eqb b x) (λ e. let k = R (rw e at m) in (mathlib.Core.List.Memᴰ.tail k.0, k.1))
      (λ e. let n : Memᴰ a (b ∷ without x l) = rw e at m in
      ⊎_elim (λ h. (mathlib.Core.List.Memᴰ.head h, λ z. eqb-false _ _ e (sym h ∙ z))) (λ n. let k = R n in (mathlib.Core.List.Memᴰ.tail k.0, k.1)) (mathlib.Core.List.Memᴰ.cases_cons n))

  without_differs : (y : ℕ) (l : List ℕ) → Differs y l → Differs y (without x l)
  without_differs y [] d = tt
  without_differs y (a ∷ l) d = let R = without_differs y l d.1 in on (eqb a x) (λ e. rw e R) (λ e. rw e (d.0, R))

  without_apart : (l : List ℕ) → Apart l → Apart (without x l)
  without_apart [] d = tt
  without_apart (a ∷ l) d =
      let R = without_apart l d.1 in
      let D = without_differs a l d.0 in
      on (eqb a x) (λ e. rw e R) (λ e. rw e (D, R))

  without_none : (l : List ℕ) → Differs x l → length (without x l) ≡ length l
  without_none [] d = refl
  without_none (a ∷ l) d =
      let R = without_none l d.1 in
      on (eqb a x) (λ e. absurd (d.0 (sym (eqb-true _ _ e)))) (λ e. rw e (omega arith))

  without_length : (l : List ℕ) → Apart l → length l ≤ length (without x l) + 1
  without_length [] d = omega arith
  without_length (a ∷ l) d =
      let R = without_length l d.1 in
      on (eqb a x) (λ e. let D : Differs x l = rw (← eqb-true a x e) d.0 in rw e (omega (arith, without_none l D))) (λ e. rw e (omega arith))

-- all are from 1 to n
abbrev pub FromOne : ℕ → List ℕ → Type 0
FromOne n l = (a : ℕ) → Memᴰ a l → (1 ≤ a) × (a ≤ n)

-- law: different numbers from 1 to n are n at most
pub at_most : (n : ℕ) (l : List ℕ) → Apart l → FromOne n l → length l ≤ n
at_most zero [] d h = omega arith
at_most zero (a ∷ l) d h = let k = h a (mathlib.Core.List.Memᴰ.head refl) in absurd (omega (arith, k.0, k.1))
at_most (suc n) l d h =
    let R = at_most n (without (suc n) l) (without_apart (suc n) l d)
    (λ a m. let k = without_mem (suc n) l m in let b = h a k.0 in let f = k.1 in (b.0, omega (arith, b.1))) in
    omega (arith, without_length (suc n) l d)

-- law: where they are n, every one is there
pub all_there : (n : ℕ) (l : List ℕ) → Apart l → FromOne n l → length l ≡ n → (s : ℕ) → 1 ≤ s → s ≤ n → Memᴰ s l
all_there n l d h e s a b = ⊎_elim (λ m. m)
    (λ f. absurd (omega (arith, at_most n (s ∷ l) (differs_not s l f, d) (λ x m. ⊎_elim (λ z. (omega arith, omega arith)) (λ k. h x k) (mathlib.Core.List.Memᴰ.cases_cons m)))))
    (member_or_not s l)
