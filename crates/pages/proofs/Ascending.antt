-- The pairs by ascending x: the same pairs, each x larger than the one before; so the smallest x comes first, and then the rest. That each is
-- larger assumes that the x differ.
use Prim.Native.Nat.{ℕ, suc, ◌+◌, ◌≤◌, ◌<◌}
use mathlib.Core.Path.{◌≡◌, refl, sym, ap, ◌∙◌}
use mathlib.Core.Logic.{◌≢◌, ◌↔◌, ◌⊎◌, inl, inr, ⊎_elim}
use mathlib.Core.List.Memᴰ
use mathlib.Core.List.{List, [], ◌∷◌, map, Memᴰ}
use mathlib.Core.Bool.{Bool, true, false, cond}
use native.Mathlib.Omega.{arith}
use lib.Dec.{leb}
use lib.ListN.{length}
use borrow.Author.Tests.{le-leb, leb-true, leb-false}
use Rattle.kinds.specs.declared.Pair.{Pair}
use Rattle.plain.specs.Plain.{those, Alike, Differs, Apart}
use Rattle.kinds.proofs.Tests.{on}
use Rattle.plain.proofs.Apart.{apart_same}
use Rattle.plain.proofs.Those.{those_mem, those_apart}
use Rattle.pages.specs.Book.{place, by_x, Rises}

place_mem_at : (p q r : Pair) (ps rest : List Pair) (b : Bool) → Memᴰ q rest ↔ ((q ≡ p) ⊎ Memᴰ q ps)
    → Memᴰ q (cond b (p ∷ r ∷ ps) (r ∷ rest)) ↔ ((q ≡ p) ⊎ Memᴰ q (r ∷ ps))
place_mem_at p q r ps rest true ih =
    (λ m. ⊎_elim (λ e. inl e) (λ k. inr k) (Memᴰ.cases_cons m), λ h. ⊎_elim (λ e. Memᴰ.head e) (λ k. Memᴰ.tail k) h)
place_mem_at p q r ps rest false ih = (
  λ m. ⊎_elim (λ e. inr (Memᴰ.head e)) (λ k. ⊎_elim (λ e. inl e) (λ j. inr (Memᴰ.tail j)) (ih.0 k)) (Memᴰ.cases_cons m),
  λ h. ⊎_elim (λ e. Memᴰ.tail (ih.1 (inl e))) (λ k. ⊎_elim (λ e. Memᴰ.head e) (λ j. Memᴰ.tail (ih.1 (inr j))) (Memᴰ.cases_cons k)) h,
)

place_mem : (p q : Pair) (ps : List Pair) → Memᴰ q (place p ps) ↔ ((q ≡ p) ⊎ Memᴰ q ps)
place_mem p q [] = (λ m. ⊎_elim (λ e. inl e) (λ k. elim k [ ]) (Memᴰ.cases_cons m), λ h. ⊎_elim (λ e. Memᴰ.head e) (λ k. elim k [ ]) h)
place_mem p q (r ∷ ps) = place_mem_at p q r ps (place p ps) _ (place_mem p q ps)

pub by_x_mem : (q : Pair) (ps : List Pair) → Memᴰ q (by_x ps) ↔ Memᴰ q ps
unfolding by_x
by_x_mem q [] = (λ m. m, λ m. m)
by_x_mem q (p ∷ ps) =
    let h = place_mem p q (by_x ps) in
    let ih = by_x_mem q ps in (
      λ m. ⊎_elim (λ e. Memᴰ.head e) (λ k. Memᴰ.tail (ih.0 k)) (h.0 m),
      λ m. h.1 (⊎_elim (λ e. inl e) (λ k. inr (ih.1 k)) (Memᴰ.cases_cons m)),
    )

place_rises_at : (p v : Pair) (ps : List Pair) (b : Bool) → (b ≡ true → p.x < v.x) → (b ≡ false → v.x < p.x) → Rises (v ∷ ps) → Rises (place p ps)
    → Rises (cond b (p ∷ v ∷ ps) (v ∷ place p ps))
place_rises_at p v ps true h g r ih =
    let n = h refl in
    ((λ q m. ⊎_elim (λ e. let z = ap (λ q. q.x) e in omega arith) (λ k. let z = r.0 q k in omega arith) (Memᴰ.cases_cons m)), r)
place_rises_at p v ps false h g r ih =
    let n = g refl in
    ((λ q m. ⊎_elim (λ e. let z = ap (λ q. q.x) e in omega arith) (λ k. r.0 q k) ((place_mem p q ps).0 m)), ih)

place_rises : (p : Pair) (ps : List Pair) → Rises ps → ((q : Pair) → Memᴰ q ps → p.x ≢ q.x) → Rises (place p ps)
place_rises p [] r d = (λ q m. elim m [ ], tt)
place_rises p (v ∷ ps) r d =
    let ih = place_rises p ps r.1 (λ q m. d q (Memᴰ.tail m)) in
    let n = d v (Memᴰ.head refl) in
    place_rises_at p v ps _ (λ t. grind arith) (λ f. grind arith) r ih

differs_at : (x : ℕ) (ps : List Pair) → Differs x (map (λ p. p.x) ps) → (q : Pair) → Memᴰ q ps → x ≢ q.x
differs_at x [] d q m = elim m [ ]
differs_at x (p ∷ ps) d q (Memᴰ.head e) = λ h. d.0 (h ∙ ap (λ q. q.x) e)
differs_at x (p ∷ ps) d q (Memᴰ.tail m) = differs_at x ps d.1 q m

pub by_x_rises : (ps : List Pair) → Apart (map (λ p. p.x) ps) → Rises (by_x ps)
unfolding by_x
by_x_rises [] a = tt
by_x_rises (p ∷ ps) a = place_rises p (by_x ps) (by_x_rises ps a.1) (λ q m. differs_at p.x ps a.0 q ((by_x_mem q ps).0 m))

-- two rising lists with the same pairs are one
first_same : (p q : Pair) (ps qs : List Pair) → Rises (p ∷ ps) → Rises (q ∷ qs) → Alike (p ∷ ps) (q ∷ qs) → p ≡ q
first_same p q ps qs r t h =
    ⊎_elim (λ e. e) (λ k. ⊎_elim (λ e. sym e) (λ j. let a = t.0 p k in let b = r.0 q j in absurd (omega arith))
    (Memᴰ.cases_cons ((h q).1 (Memᴰ.head refl)))) (Memᴰ.cases_cons ((h p).0 (Memᴰ.head refl)))

pub rises_one : (ps qs : List Pair) → Rises ps → Rises qs → Alike ps qs → ps ≡ qs
rises_one [] [] r t h = refl
rises_one [] (q ∷ qs) r t h = elim ((h q).1 (Memᴰ.head refl)) [ ]
rises_one (p ∷ ps) [] r t h = elim ((h p).0 (Memᴰ.head refl)) [ ]
rises_one (p ∷ ps) (q ∷ qs) r t h =
    let e = first_same p q ps qs r t h in
    let d = ap (λ q. q.x) e in
    let E = rises_one ps qs r.1 t.1 (λ v. (
      λ m. ⊎_elim (λ f. let a = r.0 v m in let g = ap (λ q. q.x) f in absurd (omega arith)) (λ k. k) (Memᴰ.cases_cons ((h v).0 (Memᴰ.tail m))),
      λ m. ⊎_elim (λ f. let a = t.0 v m in let g = ap (λ q. q.x) f in absurd (omega arith)) (λ k. k) (Memᴰ.cases_cons ((h v).1 (Memᴰ.tail m))),
    )) in
    λ i. e i ∷ E i

-- the pairs with x0 ≤ x
abbrev pub at_least : ℕ → List Pair → List Pair
at_least x0 ps = those (λ q. leb x0 q.x) ps

-- law: the smallest x from x0 on comes first, and then those above it
pub by_x_first : (ps : List Pair) → Apart (map (λ p. p.x) ps) → (x0 : ℕ) (p : Pair) → Memᴰ p ps → x0 ≤ p.x
    → ((q : Pair) → Memᴰ q ps → x0 ≤ q.x → p.x ≤ q.x) → by_x (at_least x0 ps) ≡ p ∷ by_x (at_least (p.x + 1) ps)
by_x_first ps a x0 p m h n =
    let T = those_mem (λ q. leb x0 q.x) in
    let U = those_mem (λ q. leb (p.x + 1) q.x) in
    rises_one (by_x (at_least x0 ps)) (p ∷ by_x (at_least (p.x + 1) ps))
    (by_x_rises (at_least x0 ps) (those_apart _ ps a)) (
      (λ q k. let u = (U q ps).0 ((by_x_mem q (at_least (p.x + 1) ps)).0 k) in let g = leb-true (p.x + 1) q.x u.1 in omega arith),
      by_x_rises (at_least (p.x + 1) ps) (those_apart _ ps a),
    )
    (λ q. (
      λ k. let t = (T q ps).0 ((by_x_mem q (at_least x0 ps)).0 k) in
          let g = n q t.0 (leb-true x0 q.x t.1) in
          on (leb (p.x + 1) q.x)
          (λ e. Memᴰ.tail ((by_x_mem q (at_least (p.x + 1) ps)).1 ((U q ps).1 (t.0, e))))
          (λ e. let l = leb-false (p.x + 1) q.x e in Memᴰ.head (apart_same (λ p. p.x) ps a q p t.0 m (omega arith))),
      λ k. (by_x_mem q (at_least x0 ps)).1 (⊎_elim
          (λ e. let d = ap (λ q. q.x) e in (T q ps).1 (rw e m, le-leb x0 q.x (omega arith)))
          (λ j. let u = (U q ps).0 ((by_x_mem q (at_least (p.x + 1) ps)).0 j) in
          let g = leb-true (p.x + 1) q.x u.1 in
          (T q ps).1 (u.0, le-leb x0 q.x (omega arith)))
          (Memᴰ.cases_cons k)),
    ))

all_at_least : (ps : List Pair) → at_least 0 ps ≡ ps
all_at_least [] = refl
all_at_least (p ∷ ps) = rw (le-leb 0 p.x (omega arith)) (ap (λ l. p ∷ l) (all_at_least ps))

-- law: from 0 on they are all
pub by_x_all : (ps : List Pair) → by_x (at_least 0 ps) ≡ by_x ps
by_x_all ps = ap by_x (all_at_least ps)

length_place_at : (p q : Pair) (ps : List Pair) (b : Bool) → length (place p ps) ≡ suc (length ps) → length (cond b (p ∷ q ∷ ps) (q ∷ place p ps)) ≡ suc (suc (length ps))
length_place_at p q ps true ih = refl
length_place_at p q ps false ih = ap suc ih

length_place : (p : Pair) (ps : List Pair) → length (place p ps) ≡ suc (length ps)
length_place p [] = refl
length_place p (q ∷ ps) = length_place_at p q ps _ (length_place p ps)

pub length_by_x : (ps : List Pair) → length (by_x ps) ≡ length ps
unfolding by_x
length_by_x [] = refl
length_by_x (p ∷ ps) = length_place p (by_x ps) ∙ ap suc (length_by_x ps)
