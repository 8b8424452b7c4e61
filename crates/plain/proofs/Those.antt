-- The pairs of a list for which a test holds: which they are, and that each stands there once. That each stands there once assumes that the x
-- differ.
use Prim.Native.Nat.{ℕ}
use mathlib.Core.Path.{◌≡◌, refl, sym, ap, ◌∙◌}
use mathlib.Core.Logic.{◌↔◌, ⊎_elim}
use mathlib.Core.Bool.{Bool, true}
use mathlib.Core.List.{List, [], ◌∷◌, ◌++◌, map, Memᴰ}
use Rattle.kinds.specs.declared.Pair.{Pair}
use Rattle.plain.specs.Plain.{those, Differs, Apart}
use Rattle.kinds.proofs.Tests.{on}

pub those_all : (ps : List Pair) → those (λ q. true) ps ≡ ps
those_all [] = refl
those_all (p ∷ ps) = ap (λ l. p ∷ l) (those_all ps)

module _ (ok : Pair → Bool) where
  pub those_append : (u v : List Pair) → those ok (u ++ v) ≡ those ok u ++ those ok v
  those_append [] v = refl
  those_append (p ∷ u) v = on (ok p) (λ e. rw (e, those_append u v)) (λ e. rw (e, those_append u v))

  among : (q : Pair) (ps : List Pair) → Memᴰ q (those ok ps) → Memᴰ q ps × (ok q ≡ true)
  among q [] m = elim m [ ]
  among q (p ∷ ps) m = on (ok p)
      (λ e. let m' : Memᴰ q (p ∷ those ok ps) = rw e at m in
      ⊎_elim (λ d. (mathlib.Core.List.Memᴰ.head d, ap ok d ∙ e)) (λ k. let r = among q ps k in (mathlib.Core.List.Memᴰ.tail r.0, r.1)) (mathlib.Core.List.Memᴰ.cases_cons m'))
      (λ e. let m' : Memᴰ q (those ok ps) = rw e at m in let r = among q ps m' in (mathlib.Core.List.Memᴰ.tail r.0, r.1))

  kept : (q : Pair) (ps : List Pair) → Memᴰ q ps → ok q ≡ true → Memᴰ q (those ok ps)
  kept q [] m t = elim m [ ]
  kept q (p ∷ ps) (mathlib.Core.List.Memᴰ.head d) t = rw (ap ok (sym d) ∙ t) (mathlib.Core.List.Memᴰ.head d)
  kept q (p ∷ ps) (mathlib.Core.List.Memᴰ.tail m) t = let r = kept q ps m t in on (ok p) (λ e. rw e (mathlib.Core.List.Memᴰ.tail r)) (λ e. rw e r)

  -- law: those of the list that pass the test, and no others
  pub those_mem : (q : Pair) (ps : List Pair) → Memᴰ q (those ok ps) ↔ (Memᴰ q ps × (ok q ≡ true))
  those_mem q ps = (among q ps, λ h. kept q ps h.0 h.1)

  those_differs : (z : ℕ) (ps : List Pair) → Differs z (map (λ p. p.x) ps) → Differs z (map (λ p. p.x) (those ok ps))
  those_differs z [] d = tt
  those_differs z (p ∷ ps) d = let r = those_differs z ps d.1 in on (ok p) (λ e. rw e (d.0, r)) (λ e. rw e r)

  -- law: each once
  pub those_apart : (ps : List Pair) → Apart (map (λ p. p.x) ps) → Apart (map (λ p. p.x) (those ok ps))
  those_apart [] a = tt
  those_apart (p ∷ ps) a =
      let r = those_apart ps a.1 in
      let d = those_differs p.x ps a.0 in
      on (ok p) (λ e. rw e (d, r)) (λ e. rw e r)
