-- At the root a listing makes at most 127 visits, and two more for each pair listed. A slot whose x is in range either stops the walk or
-- matches, and a match pays for both sons. It assumes a well-formed tree.
use Prim.Native.Nat.{ℕ, zero, suc, ◌+◌, ◌*◌, ◌≤◌}
use mathlib.Core.Path.{◌≡◌, refl}
use mathlib.Core.Bool.{Bool, true, false, cond}
use mathlib.Core.List.{[]}
use native.Mathlib.Omega.{arith}
use lib.Dec.{ltb, leb}
use lib.ListN.{length, length-append}
use Rattle.kinds.specs.declared.Pair.{Pair}
use Rattle.kinds.specs.declared.Limits.{Limits}
use Rattle.plain.specs.Plain.{matches}
use Rattle.stripes.specs.Stripe.{Stripe, root_stripe, middle, left_part, right_part}
use Rattle.trees.specs.Tree.{Tree, fork, Well, itself}
use Rattle.walks.specs.Walks.{ListWalked, list_walked, and_then, list_own, listing}
use Rattle.kinds.proofs.Tests.{on, clash}
use Rattle.walks.proofs.Outside.{is_match}
use Rattle.walks.proofs.Ranges.{LiesOver, empty, inside, both, left_only, right_only, lies_over_root, most_visits, whole_le, most_both, most_one}

-- so many visits at most are not paid for by the pairs listed
record Paid (f : ℕ) (a : ListWalked) : Type 0 where
  paid : a.visits ≤ f + 2 * length a.pairs

paid_more : {a : ListWalked} {f g : ℕ} → f ≤ g → Paid f a → Paid g a
paid_more h c = record { paid = omega arith }

paid_then : (a b : ListWalked) {f g : ℕ} → Paid f a → Paid g b → Paid (f + g) (and_then a b)
paid_then a b ca cb = on a.more (λ e. rw e (record { paid = omega arith })) (λ e. rw e (record { paid = simp length-append (omega arith) }))

-- a son that is asked or not
paid_ask : (c : Bool) (a : ListWalked) {f : ℕ} → (c ≡ true → Paid f a) → Paid f (cond c a (list_walked [] false 0))
paid_ask true a h = h refl
paid_ask false a h = record { paid = omega arith }

paid_none : {c : Bool} (L : ℕ → ListWalked) → c ≡ false → c ≡ true → (room : ℕ) → Paid 0 (L room)
paid_none L e t room = absurd (clash t e)

paid_own : (c : Bool) (room : ℕ) (p : Pair) → Paid 1 (list_own c room p)
paid_own false room p = record { paid = omega arith }
paid_own true zero p = record { paid = omega arith }
paid_own true (suc room) p = record { paid = omega arith }

-- a match pays for two visits of its sons
paid_match : (room : ℕ) (p : Pair) (b : ListWalked) → Paid 2 b → Paid 1 (and_then (list_own true room p) b)
paid_match zero p b c = record { paid = omega arith }
paid_match (suc room) p b c = record { paid = omega arith }

module _ (q : Limits) where
  paid_slot : (s : Stripe) (i : ℕ) (p : Pair) (l r : Tree Pair) (room : ℕ) {f g m : ℕ}
      → (ltb q.x0 (middle s) ≡ true → (room : ℕ) → Paid f (listing q (left_part s) l room))
      → (leb (middle s) q.x1 ≡ true → (room : ℕ) → Paid g (listing q (right_part s) r room))
      → f + g + 1 ≤ m → Paid m (listing q s (fork i p l r) room)
  unfolding listing
  paid_slot s i p l r room ha hb h = on (ltb q.y1 p.y) (λ e. rw e (record { paid = omega arith }))
      (λ e. rw e (paid_more (omega arith) (paid_then _ _ (paid_own (matches q p) room p) (paid_then _ _
      (paid_ask (ltb q.x0 (middle s)) _ (λ c. ha c _)) (paid_ask (leb (middle s) q.x1) _ (λ c. hb c _))))))

  paid_inside : (s : Stripe) (i : ℕ) (p : Pair) (l r : Tree Pair) (room : ℕ) {f g : ℕ} → q.x0 ≤ p.x → p.x ≤ q.x1 → f + g ≤ 2
      → ((room : ℕ) → Paid f (listing q (left_part s) l room)) → ((room : ℕ) → Paid g (listing q (right_part s) r room))
      → Paid 1 (listing q s (fork i p l r) room)
  unfolding listing
  paid_inside s i p l r room a b h ha hb = on (ltb q.y1 p.y) (λ e. rw e (record { paid = omega arith }))
      (λ e. rw (e, is_match q p a b e) (paid_match room p _ (paid_more h (paid_then _ _
      (paid_ask (ltb q.x0 (middle s)) _ (λ c. ha _)) (paid_ask (leb (middle s) q.x1) _ (λ c. hb _))))))

  listing_paid : {low high : Bool} {n : ℕ} {s : Stripe} {t : Tree Pair} → LiesOver q.x0 q.x1 low high n s t → (room : ℕ)
      → Paid (most_visits low high n) (listing q s t room)
  unfolding listing
  listing_paid empty room = record { paid = omega arith }
  listing_paid (inside {n = n} {i = i} {s = s} {p = p} {l = l} {r = r} a b u v) room =
      let h = whole_le n in
      paid_inside s i p l r room a b (omega arith) (listing_paid u) (listing_paid v)
  listing_paid (both {low = low} {high = high} {n = n} {i = i} {s = s} {p = p} {l = l} {r = r} c u v) room =
      paid_slot s i p l r room (λ _. listing_paid u) (λ _. listing_paid v) (most_both low high n c)
  listing_paid (left_only {low = low} {high = high} {n = n} {i = i} {s = s} {p = p} {l = l} {r = r} c e u) room =
      paid_slot s i p l r room (λ _. listing_paid u) (paid_none _ e) (omega (arith, most_one low high n c))
  listing_paid (right_only {low = low} {high = high} {n = n} {i = i} {s = s} {p = p} {l = l} {r = r} c e v) room =
      paid_slot s i p l r room (paid_none _ e) (λ _. listing_paid v) (omega (arith, most_one low high n c))

-- law: a listing into any room
pub listing_visits : (q : Limits) (t : Tree Pair) → Well itself root_stripe t → (room : ℕ)
    → (listing q root_stripe t room).visits ≤ 127 + 2 * length (listing q root_stripe t room).pairs
listing_visits q t w room = (listing_paid q (lies_over_root q.x0 q.x1 t w) room).paid
