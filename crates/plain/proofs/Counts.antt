-- What a list weighs does not depend on its order, where the x differ; and so for how many of its pairs pass a test. Nothing else is assumed.
use Prim.Native.Nat.{ℕ, ◌+◌}
use mathlib.Core.Path.{◌≡◌, refl, sym, ap, ◌∙◌}
use mathlib.Core.Logic.{◌≢◌, ⊎_elim}
use mathlib.Core.Bool.{Bool, cond}
use mathlib.Core.List.Memᴰ
use mathlib.Core.List.{List, [], ◌∷◌, ◌++◌, map, Memᴰ}
use native.Mathlib.Omega.{arith}
use lib.ListN.{length}
use Rattle.kinds.specs.declared.Pair.{Pair}
use Rattle.kinds.proofs.Tests.{on}
use Rattle.plain.specs.Plain.{those, Alike, Differs, Apart}
use Rattle.plain.proofs.Apart.{differs_mem}

-- what the members of a list weigh together
abbrev pub total : {A : Type 0} → (A → ℕ) → List A → ℕ
total w [] = 0
total w (p ∷ ps) = w p + total w ps

-- p stands in the list, between two others
data Split {A : Type 0} (p : A) : List A → Type 0 where
  split : (u v : List A) → Split p (u ++ (p ∷ v))

module _ {A : Type 0} where
  split_at : (p : A) (ps : List A) → Memᴰ p ps → Split p ps
  split_at p [] m = elim m [ ]
  split_at p (q ∷ ps) (Memᴰ.head e) = rw (← e) (split [] ps)
  split_at p (q ∷ ps) (Memᴰ.tail m) = further (split_at p ps m)
    where
      further : {ps : List A} → Split p ps → Split p (q ∷ ps)
      further (split u v) = split (q ∷ u) v

module _ {A : Type 0} (x-of : A → ℕ) (p : A) (v : List A) where
  differs_out : (x : ℕ) (u : List A) → Differs x (map x-of (u ++ (p ∷ v))) → (x ≢ x-of p) × Differs x (map x-of (u ++ v))
  differs_out x [] d = d
  differs_out x (q ∷ u) d = let e = differs_out x u d.1 in (e.0, (d.0, e.1))

  apart_out : (u : List A) → Apart (map x-of (u ++ (p ∷ v))) → Differs (x-of p) (map x-of (u ++ v)) × Apart (map x-of (u ++ v))
  apart_out [] d = d
  apart_out (q ∷ u) d =
      let e = apart_out u d.1 in
      let f = differs_out (x-of q) u d.0 in
      ((λ h. f.0 (sym h), e.0), (f.1, e.1))

module _ {A : Type 0} (p : A) (v : List A) where
  mem_out : (u : List A) {q : A} → q ≢ p → Memᴰ q (u ++ (p ∷ v)) → Memᴰ q (u ++ v)
  mem_out u n m = ⊎_elim (λ m. Memᴰ.append_left v m) (λ m. ⊎_elim (λ e. absurd (n e)) (λ m. Memᴰ.append_right u m) (Memᴰ.cases_cons m))
      (Memᴰ.append_cases u m)

  mem_in : (u : List A) {q : A} → Memᴰ q (u ++ v) → Memᴰ q (u ++ (p ∷ v))
  mem_in u m = ⊎_elim (λ m. Memᴰ.append_left (p ∷ v) m) (λ m. Memᴰ.append_right u (Memᴰ.tail m)) (Memᴰ.append_cases u m)

  total_out : (w : A → ℕ) (u : List A) → total w (u ++ (p ∷ v)) ≡ w p + total w (u ++ v)
  total_out w [] = refl
  total_out w (q ∷ u) = let e = total_out w u in omega arith

-- law: what the members weigh together, whatever the weight
pub total_alike : {A : Type 0} (x-of w : A → ℕ) (ps qs : List A) → Apart (map x-of ps) → Apart (map x-of qs) → Alike ps qs → total w ps ≡ total w qs
total_alike x-of w [] [] a b h = refl
total_alike x-of w [] (q ∷ qs) a b h = elim ((h q).1 (Memᴰ.head refl)) [ ]
total_alike {A} x-of w (p ∷ ps) qs a b h = go (λ rs. total_alike x-of w ps rs a.1) (split_at p qs ((h p).0 (Memᴰ.head refl))) b h
  where
    go : ((rs : List A) → Apart (map x-of rs) → Alike ps rs → total w ps ≡ total w rs)
        → {qs : List A} → Split p qs → Apart (map x-of qs) → Alike (p ∷ ps) qs → total w (p ∷ ps) ≡ total w qs
    go below (split u v) b h =
        let e = apart_out x-of p v u b in
        let E = below (u ++ v) e.1 (λ r. (
          λ m. mem_out p v u (λ d. differs_mem x-of (x-of p) ps a.0 r m (ap x-of (sym d))) ((h r).0 (Memᴰ.tail m)),
          λ m. ⊎_elim (λ d. absurd (differs_mem x-of (x-of p) (u ++ v) e.0 r m (ap x-of (sym d)))) (λ m. m)
              (Memᴰ.cases_cons ((h r).1 (mem_in p v u m))),
        )) in
        ap (λ n. w p + n) E ∙ sym (total_out p v w u)

-- one for each pair that passes a test
abbrev passing : (Pair → Bool) → Pair → ℕ
passing ok p = cond (ok p) 1 0

those_total : (ok : Pair → Bool) (ps : List Pair) → length (those ok ps) ≡ total (passing ok) ps
those_total ok [] = refl
those_total ok (p ∷ ps) = let e = those_total ok ps in on (ok p) (λ t. rw t (omega arith)) (λ f. rw f (omega arith))

-- law: how many pass a test
pub those_count : (ok : Pair → Bool) (ps qs : List Pair) → Apart (map (λ p. p.x) ps) → Apart (map (λ p. p.x) qs) → Alike ps qs
    → length (those ok ps) ≡ length (those ok qs)
those_count ok ps qs a b h = those_total ok ps ∙ (total_alike (λ p. p.x) (passing ok) ps qs a b h ∙ sym (those_total ok qs))
