-- The walk for the smallest y, one step at a time, as the code takes it: the lower of two findings, a son that is asked or not, a slot. It
-- assumes what a walk may rely on (`Walkable`).
use Rattle.std.specs.Prelude.{None}
use Prim.Native.Nat.{ℕ, ◌+◌, ◌≤◌, ◌<◌}
use mathlib.Core.Path.{◌≡◌, refl, sym, ◌∙◌}
use mathlib.Core.Bool.{Bool, true, false, not}
use mathlib.Core.List.{List}
use native.Mathlib.Omega.{arith}
use lib.Dec.{ltb, leb, eqb}
use Rattle.std.proofs.lemmas.Bool.Decides.{nat_tests}
use borrow.Author.Tests.{lt-ltb, le-ltb, eqb-true}
use Rattle.kinds.specs.declared.Pair.{Pair}
use Rattle.kinds.specs.declared.Walked.{Walked}
use Rattle.pools.specs.Cells.{pair_at}
use Rattle.plain.specs.Plain.{in_range}
use Rattle.stripes.specs.Stripe.{Stripe, middle, left_part, right_part}
use Rattle.trees.specs.Tree.{none, size}
use Rattle.walks.specs.Walks.{seen, ask, smallest_y}
use Rattle.plain.proofs.Closest.{closest_nothing}
use Rattle.kinds.proofs.Tests.{on}
use Rattle.walks.proofs.Sizes.{smallest_y_size}
use Rattle.places.specs.declared.Place.{Place}
use Rattle.places.specs.Places.{tree_here, left_place, right_place}
use Rattle.questions.specs.Walking.{found_at, IsLink, Walkable, Made}
use Rattle.questions.proofs.Finding.{not_lt, found_none, found_some}
use Rattle.questions.proofs.Places.{some, there, slot_here, asked_right}
use Rattle.questions.proofs.Sons.{none_there, unasked}
use Rattle.lowest.specs.Sons.{asks, lower_y, Lower, lower_of, sons_asked}

-- of two findings
module _ (c : List ℕ) (l r : ℕ) where
  pub lower_second : l ≡ 0 → IsLink c r → Lower c l r r
  lower_second e o = record { found = rw (found_none c l e); some = o }

  pub lower_first : r ≡ 0 → IsLink c l → Lower c l r l
  lower_first e o = record { found = rw (found_none c r e) (sym (closest_nothing lower_y (found_at c l))); some = o }

  module _ (hl : l ≡ 0 → ⊥) (hr : r ≡ 0 → ⊥) where
    pub second_wins : (pair_at c r).y < (pair_at c l).y → IsLink c r → Lower c l r r
    second_wins h o = record { found = rw (found_some c l hl, found_some c r hr, lt-ltb (pair_at c r).y (pair_at c l).y h); some = o }

    pub first_wins : (pair_at c l).y ≤ (pair_at c r).y → IsLink c l → Lower c l r l
    first_wins h o = record { found = rw (found_some c l hl, found_some c r hr, le-ltb (pair_at c r).y (pair_at c l).y h); some = o }

-- the answers of both sons, one after the other
joined : (c : List ℕ) (v : ℕ) (a b : Walked) (l r n vl vr : ℕ) → Made c v a l vl → Made c vl b r vr → Lower c l r n → Made c v (lower_of a b) n vr
joined c v a b l r n vl vr A B N =
    let z = A.visits in
    let y = B.visits in
    record { found = rw (A.found, B.found) at N.found; some = N.some; visits = omega arith }

pub smallest_y_empty : (x0 x1 : ℕ) (at : Stripe) → smallest_y x0 x1 at none ≡ seen None 0
unfolding smallest_y
smallest_y_empty x0 x1 at = refl

-- whether a son is asked, and what it then gives
module _ (s : ℕ) (go : Bool) {b : Bool} (eb : b ≡ asks s go) where
  pub son_there : b ≡ true → 1 ≤ s
  unfolding asks
  son_there t = grind (arith, nat_tests)

  pub son_asked : {c : List ℕ} {v n v' : ℕ} {w : Walked} → b ≡ true → Made c v w n v' → Made c v (ask go w) n v'
  unfolding asks
  son_asked t M = let g : go ≡ true = grind (arith, nat_tests) in rw g M

  pub son_unasked : (p : Place) (x0 x1 : ℕ) {c : List ℕ} {v : ℕ} → s ≡ p.slot → b ≡ false → Made c v (ask go (smallest_y x0 x1 p.stripe (tree_here c p))) 0 v
  unfolding asks
  son_unasked p x0 x1 {c = c} {v = v} es f = on (eqb s 0)
      (λ e. none_there (smallest_y x0 x1 p.stripe) (smallest_y_empty x0 x1 p.stripe) c p v go (sym es ∙ eqb-true s 0 e))
      (λ e. let g : go ≡ false = grind (arith, nat_tests) in unasked (smallest_y x0 x1 p.stripe) (smallest_y_empty x0 x1 p.stripe) c p v go g)

-- a slot
module _ (c : List ℕ) (p : Place) (v : ℕ) (one : 1 ≤ p.slot) (o : Walkable c p v) (x0 x1 : ℕ) where
  abbrev W : Walked
  W = smallest_y x0 x1 p.stripe (tree_here c p)

  abbrev L : Walked
  L = ask (ltb x0 (middle p.stripe)) (smallest_y x0 x1 (left_part p.stripe) (tree_here c (left_place c p)))

  abbrev R : Walked
  R = ask (leb (middle p.stripe) x1) (smallest_y x0 x1 (right_part p.stripe) (tree_here c (right_place c p)))

  pub own_pair : {q : Pair} {g : Bool} → q ≡ pair_at c p.slot → g ≡ in_range x0 x1 q → g ≡ true → Made c v W p.slot (v + 1)
  unfolding smallest_y
  own_pair eq eg t =
      let e : in_range x0 x1 (pair_at c p.slot) ≡ true = sym (rw eq at eg) ∙ t in
      rw (slot_here c p v one o, e) (record { found = found_some c p.slot (some c p v one o); some = λ ne. (there c p v one o).0; visits = refl })

  -- the slot's own pair is out of range: its sons answer
  pub from_sons : {q : Pair} {g : Bool} {n vb : ℕ} → q ≡ pair_at c p.slot → g ≡ in_range x0 x1 q → g ≡ false → Made c (v + 1) (sons_asked c p x0 x1) n vb
      → Made c v W n vb
  unfolding smallest_y sons_asked
  from_sons eq eg f J =
      let e : in_range x0 x1 (pair_at c p.slot) ≡ false = sym (rw eq at eg) ∙ f in
      let z = J.visits in
      rw (slot_here c p v one o, e) (record { found = J.found; some = J.some; visits = omega arith })

  -- the left son is asked after the slot's own visit, and then the right one
  module _ {u : ℕ} (eu : u ≡ v + 1) {l : Place} {gl : Bool} {a va : ℕ} (el : l ≡ left_place c p) (egl : gl ≡ ltb x0 (middle p.stripe))
      (A : Made c u (ask gl (smallest_y x0 x1 l.stripe (tree_here c l))) a va) where
    left_made : Made c (v + 1) L a va
    left_made = rw (eu, el, egl) at A

    -- what the left son visited leaves room for the right one
    pub right_then : {r : Place} → r ≡ right_place c p → Walkable c r va
    right_then er =
        let z = left_made.visits in
        let n : L.visits ≤ size (tree_here c (left_place c p)) = ask_size (ltb x0 (middle p.stripe)) _ _ (smallest_y_size x0 x1 (left_part p.stripe) (tree_here c (left_place c p))) in
        asked_right c p v one o _ va er (omega arith)
      where
        ask_size : (go : Bool) (w : Walked) (m : ℕ) → w.visits ≤ m → (ask go w).visits ≤ m
        ask_size true w m e = e
        ask_size false w m e = omega arith

    pub better : {gr : Bool} {r : Place} {b vb n : ℕ} → r ≡ right_place c p → gr ≡ ltb x1 (middle p.stripe)
        → Made c va (ask (not gr) (smallest_y x0 x1 r.stripe (tree_here c r))) b vb → Lower c a b n → Made c u (sons_asked c p x0 x1) n vb
    unfolding sons_asked
    better {b = b} {vb = vb} {n = n} er egr B N =
        let B' : Made c va R b vb = rw (er, egr, not_lt x1 (middle p.stripe)) at B in
        rw eu (joined c (v + 1) L R a b n va vb left_made B' N)
