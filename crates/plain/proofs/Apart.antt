-- Lists of which no number stands twice: put together, taken apart, and searched. Nothing else is assumed of them.
use Prim.Native.Nat.{ℕ}
use mathlib.Core.Path.{◌≡◌, refl, sym, ap, ◌∙◌}
use mathlib.Core.Logic.{◌≢◌}
use mathlib.Core.List.{List, [], ◌∷◌, ◌++◌, map, Memᴰ}
use Rattle.plain.specs.Plain.{Differs, Apart}

-- to differ from all of a list is to be none of it
pub differs_not : (x : ℕ) (l : List ℕ) → (Memᴰ x l → ⊥) → Differs x l
differs_not x [] h = tt
differs_not x (a ∷ l) h = (λ e. h (Memᴰ.head e), differs_not x l (λ m. h (Memᴰ.tail m)))

pub not_differs : {x : ℕ} {l : List ℕ} → Memᴰ x l → Differs x l → ⊥
not_differs (Memᴰ.head e) d = d.0 e
not_differs (Memᴰ.tail m) d = not_differs m d.1

differs_join : (x : ℕ) (u v : List ℕ) → Differs x u → Differs x v → Differs x (u ++ v)
differs_join x [] v a b = b
differs_join x (y ∷ u) v a b = (a.0, differs_join x u v a.1 b)

-- two lists with no number in common
pub apart_join : (u v : List ℕ) → Apart u → Apart v → ((a : ℕ) → Memᴰ a u → Memᴰ a v → ⊥) → Apart (u ++ v)
apart_join [] v a b h = b
apart_join (x ∷ u) v a b h =
    (differs_join x u v a.0 (differs_not x v (h x (Memᴰ.head refl))), apart_join u v a.1 b (λ y m. h y (Memᴰ.tail m)))

module _ {A : Type 0} (x-of : A → ℕ) where
  pub differs_append : (x : ℕ) (u v : List A) → Differs x (map x-of u) → Differs x (map x-of v) → Differs x (map x-of (u ++ v))
  differs_append x [] v a b = b
  differs_append x (p ∷ u) v a b = (a.0, differs_append x u v a.1 b)

  pub apart_append : (u v : List A) → Apart (map x-of u) → Apart (map x-of v) → ((a : A) → Memᴰ a u → Differs (x-of a) (map x-of v))
      → Apart (map x-of (u ++ v))
  apart_append [] v a b h = b
  apart_append (p ∷ u) v a b h =
      (differs_append (x-of p) u v a.0 (h p (Memᴰ.head refl)), apart_append u v a.1 b (λ q m. h q (Memᴰ.tail m)))

  -- two of a list that have one x are the same
  pub differs_mem : (x : ℕ) (ps : List A) → Differs x (map x-of ps) → (q : A) → Memᴰ q ps → x ≢ x-of q
  differs_mem x [] d q m e = elim m [ ]
  differs_mem x (p ∷ ps) d q (Memᴰ.head h) e = d.0 (e ∙ ap x-of h)
  differs_mem x (p ∷ ps) d q (Memᴰ.tail m) e = differs_mem x ps d.1 q m e

  pub apart_same : (ps : List A) → Apart (map x-of ps) → (p q : A) → Memᴰ p ps → Memᴰ q ps → x-of p ≡ x-of q → p ≡ q
  apart_same [] d p q m n e = elim m [ ]
  apart_same (v ∷ ps) d p q (Memᴰ.head h) (Memᴰ.head k) e = h ∙ sym k
  apart_same (v ∷ ps) d p q (Memᴰ.head h) (Memᴰ.tail n) e = absurd (differs_mem (x-of v) ps d.0 q n (sym (ap x-of h) ∙ e))
  apart_same (v ∷ ps) d p q (Memᴰ.tail m) (Memᴰ.head k) e = absurd (differs_mem (x-of v) ps d.0 p m (sym (ap x-of k) ∙ sym e))
  apart_same (v ∷ ps) d p q (Memᴰ.tail m) (Memᴰ.tail n) e = apart_same ps d.1 p q m n e

  pub differs_split : (x : ℕ) (u v : List A) → Differs x (map x-of (u ++ v)) → Differs x (map x-of u) × Differs x (map x-of v)
  differs_split x [] v h = (tt, h)
  differs_split x (p ∷ u) v h = let k = differs_split x u v h.1 in ((h.0, k.0), k.1)

  pub apart_split : (u v : List A) → Apart (map x-of (u ++ v)) → Apart (map x-of u) × Apart (map x-of v)
  apart_split [] v h = (tt, h)
  apart_split (p ∷ u) v h = let k = apart_split u v h.1 in (((differs_split (x-of p) u v h.0).0, k.0), k.1)
