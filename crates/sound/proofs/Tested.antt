-- A looped pool does not make the check wander: the slots that pass their own tests all differ, and at the first that does not the check ends.
-- Nothing is assumed of the cells.
use Prim.Native.Nat.{ℕ, zero, suc, ◌+◌, ◌≤◌}
use mathlib.Core.Path.{◌≡◌, sym, refl, subst}
use mathlib.Core.Logic.{⊎_elim}
use mathlib.Core.Bool.{Bool, true, false, true≢false, cond, ◌&&◌, ◌||◌}
use mathlib.Core.List.Memᴰ
use mathlib.Core.List.{List, [], ◌∷◌, ◌++◌, Memᴰ}
use native.Mathlib.Omega.{arith}
use lib.Dec.{ltb, leb, eqb}
use lib.ListN.{length, length-append}
use borrow.Author.Tests.{eqb-false, leb-true, ltb-true}
use Rattle.kinds.specs.declared.Pair.{Pair}
use Rattle.kinds.specs.Pairs.{Beats, beats}
use Rattle.stripes.specs.Stripe.{Stripe, In, holds, root_stripe, left_part, right_part, low_levels}
use Rattle.plain.specs.Plain.{Apart}
use Rattle.pools.specs.Cells.{slots_of, root_of, pair_at, left_at, right_at}
use Rattle.pools.specs.Sound.{Slot}
use Rattle.pools.specs.Test.{slot_fine, fine}
use Rattle.kinds.proofs.Tests.{on, both}
use Rattle.kinds.proofs.Order.{beats_true, beats_asym, beats_trans}
use Rattle.plain.proofs.Apart.{differs_not, apart_join}
use Rattle.pools.proofs.Pigeonhole.{at_most}
use Rattle.sound.specs.Tested.{in_turn, tested, tested_below, tested_slots}

module _ (c : List ℕ) where
  -- u passes its own tests in some part of a stripe, below a slot with the pair p
  record Passes (p : Pair) (at : Stripe) (u : ℕ) : Type 0 where
    slot : Slot c u
    inside : In at (pair_at c u).x
    beaten : Beats p (pair_at c u)

  -- n slots are tested there: those that pass, all different, and at most one more, after which all is not fine
  record Went (p : Pair) (at : Stripe) (n : ℕ) (ok : Bool) : Type 0 where
    passed : List ℕ
    each : (u : ℕ) → Memᴰ u passed → Passes p at u
    apart : Apart passed
    few : n ≤ length passed + 1
    no_more : ok ≡ true → n ≤ length passed

  nowhere : (p : Pair) (at : Stripe) → Went p at 0 true
  nowhere p at = record { passed = []; each = λ u m. elim m [ ]; apart = tt; few = omega arith; no_more = λ e. omega arith }

  fault : (p : Pair) (at : Stripe) → Went p at 1 false
  fault p at = record { passed = []; each = λ u m. elim m [ ]; apart = tt; few = omega arith; no_more = λ e. absurd (true≢false (sym e)) }

  -- the sons in turn: their stripes have no x in common
  module _ (q : Pair) (at : Stripe) (i : In at q.x) where
    from_left : (u : ℕ) → Passes q (left_part at) u → Passes q at u
    from_left u h = let j = h.inside in record { slot = h.slot; inside = omega arith; beaten = h.beaten }

    from_right : (u : ℕ) → Passes q (right_part at) u → Passes q at u
    from_right u h = let j = h.inside in record { slot = h.slot; inside = omega arith; beaten = h.beaten }

    sons : {a b : ℕ} (f g h : Bool) → Went q (left_part at) a f → Went q (right_part at) b g → Went q at (in_turn f a b) (f && g && h)
    sons false g h v w =
        record { passed = v.passed; each = λ u m. from_left u (v.each u m); apart = v.apart; few = v.few; no_more = v.no_more }
    sons true g h v w = record {
      passed = v.passed ++ w.passed;
      each = λ u m. ⊎_elim (λ k. from_left u (v.each u k)) (λ k. from_right u (w.each u k)) (Memᴰ.append_cases v.passed m);
      apart = apart_join v.passed w.passed v.apart w.apart
          (λ u m k. let a = (v.each u m).inside in let b = (w.each u k).inside in omega arith);
      few = simp length-append (omega (arith, v.no_more refl, w.few));
      no_more = λ e. simp length-append (omega (arith, v.no_more refl, w.no_more (both g h e).0));
    }

  -- a slot and those below it: none of them is the slot, for its pair does not beat itself
  slot_apart : (s : ℕ) {at : Stripe} {n : ℕ} {ok : Bool} (w : Went (pair_at c s) at n ok) → Apart (s ∷ w.passed)
  slot_apart s w = (differs_not s w.passed (λ m. let b = (w.each s m).beaten in beats_asym b b), w.apart)

  slot_too : {p : Pair} {s : ℕ} {at : Stripe} {n : ℕ} {ok : Bool} → Passes p at s → Went (pair_at c s) at n ok → Went p at (n + 1) ok
  slot_too {p} {s} {at} h w = record {
    passed = s ∷ w.passed;
    each = λ u m. ⊎_elim (λ e. subst (Passes p at) (sym e) h)
        (λ k. let v = w.each u k in record { slot = v.slot; inside = v.inside; beaten = beats_trans h.beaten v.beaten })
        (Memᴰ.cases_cons m);
    apart = slot_apart s w;
    few = omega (arith, w.few);
    no_more = λ e. omega (arith, w.no_more e);
  }

  -- what a slot's own tests say
  own_tests : (s : ℕ) (at : Stripe) → (s ≡ 0 → ⊥) → slot_fine c s at ≡ true → Slot c s × In at (pair_at c s).x
  unfolding slot_fine holds
  own_tests s at ne h =
      let x = (pair_at c s).x in
      let a = both (leb s (slots_of c)) _ h in
      let b = both (leb at.lower x) (ltb x at.upper) a.1 in
      (record { some = omega arith; most = leb-true _ _ a.0 }, record { from = leb-true _ _ b.0; to = ltb-true _ _ b.1 })

  -- a link, by what its own tests say: a slot that does not pass is the last
  at_link : (p : Pair) (s : ℕ) (at : Stripe) {n : ℕ} {ok : Bool} → (In at (pair_at c s).x → Went (pair_at c s) at n ok)
      → (z f b : Bool) → eqb s 0 ≡ z → slot_fine c s at ≡ f → beats p (pair_at c s) ≡ b → Went p at (cond z 0 (cond (f && b) (n + 1) 1)) (z || (f && b && ok))
  at_link p s at w true f b ez ef eb = nowhere p at
  at_link p s at w false false b ez ef eb = fault p at
  at_link p s at w false true false ez ef eb = fault p at
  at_link p s at w false true true ez ef eb =
      let o = own_tests s at (eqb-false s 0 ez) ef in
      slot_too (record { slot = o.0; inside = o.1; beaten = beats_true p (pair_at c s) eb }) (w o.1)

  -- from a link down, along the test
  went : (k : ℕ) (p : Pair) (s : ℕ) (at : Stripe) → Went p at (tested c k p s at) (fine c k p s at)
  unfolding tested fine
  went zero p s at = on (eqb s 0) (λ e. rw e (nowhere p at)) (λ e. rw e (fault p at))
  went (suc k) p s at =
      let q = pair_at c s in
      let L = went k q (left_at c s) (left_part at) in
      let R = went k q (right_at c s) (right_part at) in
      at_link p s at (λ i. sons q at i _ _ _ L R) _ _ _ refl refl refl

  -- with the slot above them they are different slots of the pool, and so no more than there are
  below_few : (k s : ℕ) (at : Stripe) → (s ≡ 0 → ⊥) → slot_fine c s at ≡ true → tested_below c k s at ≤ slots_of c
  unfolding tested_below
  below_few k s at ne f =
      let q = pair_at c s in
      let o = own_tests s at ne f in
      let w = sons q at o.1 _ _ true (went k q (left_at c s) (left_part at)) (went k q (right_at c s) (right_part at)) in
      let m = at_most (slots_of c) (s ∷ w.passed) (slot_apart s w) (λ u m. slot_of u o.0 (λ k. (w.each u k).slot) m) in
      omega (arith, m, w.few)
    where
      slot_of : {l : List ℕ} (u : ℕ) → Slot c s → (Memᴰ u l → Slot c u) → Memᴰ u (s ∷ l) → (1 ≤ u) × (u ≤ slots_of c)
      slot_of u o h m = let a = ⊎_elim (λ e. subst (Slot c) (sym e) o) h (Memᴰ.cases_cons m) in (a.some, a.most)

  -- law: whatever the cells hold, the check tests at most as many tree slots as there are slots, and one more
  pub tested_few : tested_slots c ≤ slots_of c + 1
  unfolding tested_slots
  tested_few =
      let s = root_of c in
      on (eqb s 0) (λ e. rw e (omega arith))
      (λ e. on (slot_fine c s root_stripe)
      (λ f. let h = below_few low_levels s root_stripe (eqb-false s 0 e) f in rw (e, f) (omega (arith, h)))
      (λ f. rw (e, f) (omega arith)))
