-- A sound pool stores the pairs of its tree, each once.
use Prim.Native.Nat.{ℕ, zero, suc, ◌+◌, ◌≤◌, ◌<◌}
use mathlib.Core.Path.{◌≡◌, refl, sym, ap, ◌∙◌, subst}
use mathlib.Core.Logic.{◌≢◌, ◌↔◌, ⊎_elim}
use mathlib.Core.Bool.{true, false}
use mathlib.Core.List.{List, [], ◌∷◌, map, map-append, Memᴰ}
use native.Mathlib.Omega.{arith}
use lib.Dec.{eqb}
use lib.ListN.{length, length-append}
use borrow.Author.Tests.{eqb-true, eqb-false}
use Rattle.kinds.specs.declared.Pair.{Pair}
use Rattle.plain.specs.Plain.{those, Differs, Apart}
use Rattle.trees.specs.Tree.{Tree, none, fork, members, size, Mem, here, in_left, in_right, xs, itself}
use Rattle.trees.specs.Standing.{slots, Stands, at_top, at_left, at_right}
use Rattle.pools.specs.Cells.{slots_of, count_of, pair_at, is_free, stored_from, stored, left_at, right_at}
use Rattle.pools.specs.Sound.{Slot, Leads, nowhere, slot, Sound}
use Rattle.kinds.proofs.Tests.{on, clash}
use Rattle.trees.proofs.Members.{members_mem}
use Rattle.plain.proofs.Apart.{apart_same}
use Rattle.pools.proofs.Decided.{free_true, true_free}
use Rattle.plain.proofs.Counts.{those_count}
use Rattle.pools.proofs.Agreement.{leads_reads}
use Rattle.pools.proofs.Slots.{stands_list, stands_mem, stands_used, chain_free, tree_slot, slot_either}

-- q is the pair of a slot from s on, below n, that is not in the free form
record Kept (c : List ℕ) (q : Pair) (s n : ℕ) : Type 0 where
  at : ℕ
  from : s ≤ at
  to : at < n
  used : is_free c at ≡ false
  pair : q ≡ pair_at c at

module _ (c : List ℕ) where
  further : {q : Pair} {s n : ℕ} → Kept c q (suc s) n → Kept c q s n
  further k = record { at = k.at; from = omega (arith, k.from); to = k.to; used = k.used; pair = k.pair }

  from_kept : (k s n : ℕ) → s + k ≡ n → {q : Pair} → Memᴰ q (stored_from c k s) → Kept c q s n
  unfolding stored_from
  from_kept zero s n e m = elim m [ ]
  from_kept (suc k) s n e {q} m =
      let R = from_kept k (suc s) n (omega arith) {q = q} in
      on (is_free c s) (λ t. further (R (rw t at m)))
      (λ t. let m' : Memᴰ q (pair_at c s ∷ stored_from c k (suc s)) = rw t at m in
      ⊎_elim (λ h. record { at = s; from = omega arith; to = omega arith; used = t; pair = h }) (λ h. further (R h)) (mathlib.Core.List.Memᴰ.cases_cons m'))

  kept_from : (k s u : ℕ) → s ≤ u → u < s + k → is_free c u ≡ false → Memᴰ (pair_at c u) (stored_from c k s)
  unfolding stored_from
  kept_from zero s u a b f = absurd (omega arith)
  kept_from (suc k) s u a b f =
      let R = kept_from k (suc s) u in
      on (eqb s u) (λ t. let e = eqb-true s u t in let g : is_free c s ≡ false = rw e f in rw (g, ← e) (mathlib.Core.List.Memᴰ.head refl))
      (λ t. let n = eqb-false s u t in let r = R (omega arith) (omega arith) f in on (is_free c s) (λ t. rw t r) (λ t. rw t (mathlib.Core.List.Memᴰ.tail r)))

-- where a member stands
record Stood (c : List ℕ) (t : Tree Pair) (q : Pair) : Type 0 where
  at : ℕ
  stands : Stands at t
  pair : q ≡ pair_at c at

mem_stood : {c : List ℕ} {s : ℕ} {q : Pair} (t : Tree Pair) → Leads c s t → Mem q t → Stood c t q
mem_stood none h m = elim m [ ]
mem_stood (fork i p l r) h (here e) = record { at = i; stands = at_top refl; pair = e ∙ sym (leads_reads h).pair }
mem_stood {c = c} (fork i p l r) h (in_left m) = let k = mem_stood {s = left_at c i} l (leads_reads h).left m in record { at = k.at; stands = at_left k.stands; pair = k.pair }
mem_stood {c = c} (fork i p l r) h (in_right m) = let k = mem_stood {s = right_at c i} r (leads_reads h).right m in record { at = k.at; stands = at_right k.stands; pair = k.pair }

-- the x in the tree's slots are the tree's
slots_xs : {c : List ℕ} {s : ℕ} {t : Tree Pair} → Leads c s t → map (λ u. (pair_at c u).x) (slots t) ≡ xs itself t
slots_xs nowhere = refl
slots_xs {c} (slot {s = s} {l = l} {r = r} o L R) = rw (map-append (λ u. (pair_at c u).x) (slots l) (slots r), map-append (λ p. (itself p).x) (members l) (members r), slots_xs L, slots_xs R)

differs_from : (x : ℕ) (ps : List Pair) → ((q : Pair) → Memᴰ q ps → x ≢ q.x) → Differs x (map (λ p. p.x) ps)
differs_from x [] h = tt
differs_from x (p ∷ ps) h = (h p (mathlib.Core.List.Memᴰ.head refl), differs_from x ps (λ q m. h q (mathlib.Core.List.Memᴰ.tail m)))

those_all : (ps : List Pair) → those (λ _. true) ps ≡ ps
those_all [] = refl
those_all (p ∷ ps) = ap (λ l. p ∷ l) (those_all ps)

pub length_members : {A : Type 0} (t : Tree A) → length (members t) ≡ size t
length_members none = refl
length_members (fork s p l r) =
    let a = length_members l in
    let b = length_members r in
    simp length-append (omega arith)

module _ {c : List ℕ} (s : Sound c) where
  -- a slot that is not in the free form is one of the tree, and none of the tree's is
  used_stands : {u : ℕ} → Slot c u → is_free c u ≡ false → Stands u s.tree
  used_stands {u} o f = ⊎_elim (λ m. m) (λ m. absurd (clash (true_free c u (chain_free s.chain m)) f)) (slot_either s o)

  stands_kept : {u : ℕ} → Stands u s.tree → is_free c u ≡ false
  stands_kept {u} m = on (is_free c u) (λ t. absurd (stands_used s.tree s.pool s.links m (free_true c u t))) (λ t. t)

  -- one x stands in one slot
  one_slot : {u v : ℕ} → Stands u s.tree → Stands v s.tree → (pair_at c u).x ≡ (pair_at c v).x → u ≡ v
  one_slot {u} {v} m n e =
      apart_same (λ u. (pair_at c u).x) (slots s.tree) (rw (slots_xs s.links) s.apart) u v (stands_list m) (stands_list n) e

  -- law: what is stored is what the tree holds
  pub stored_mem : (q : Pair) → Memᴰ q (stored c) ↔ Mem q s.tree
  stored_mem q = (
    λ m. let k = from_kept c (slots_of c) 1 (suc (slots_of c)) (omega arith) m in
        let o : Slot c k.at = record { some = k.from; most = omega (arith, k.to) } in
        subst (λ q. Mem q s.tree) (sym k.pair) (stands_mem s.tree s.links (used_stands o k.used)),
    λ m. let k = mem_stood s.tree s.links m in
        let o = tree_slot s k.stands in
        subst (λ q. Memᴰ q (stored c)) (sym k.pair)
        (kept_from c (slots_of c) 1 k.at o.some (omega (arith, o.most)) (stands_kept k.stands)),
  )

  apart_from : (k a : ℕ) → 1 ≤ a → a + k ≤ suc (slots_of c) → Apart (map (λ p. p.x) (stored_from c k a))
  unfolding stored_from
  apart_from zero a h l = tt
  apart_from (suc k) a h l =
      let R = apart_from k (suc a) (omega arith) (omega arith) in
      on (is_free c a) (λ t. rw t R) (λ t. rw t (
        differs_from (pair_at c a).x (stored_from c k (suc a)) (λ q m e.
            let d = from_kept c k (suc a) (suc a + k) refl m in
            let o : Slot c a = record { some = h; most = omega arith } in
            let o' : Slot c d.at = record { some = omega (arith, d.from); most = omega (arith, d.to) } in
            let z = one_slot (used_stands o t) (used_stands o' d.used) (e ∙ ap (λ q. q.x) d.pair) in
            omega (arith, d.from)),
        R,
      ))

  -- law: no x is stored twice
  pub stored_apart : Apart (map (λ p. p.x) (stored c))
  stored_apart = apart_from (slots_of c) 1 (omega arith) (omega arith)

  -- law: as many are stored as cell 3 says
  pub stored_count : length (stored c) ≡ count_of c
  stored_count =
      let t = s.tree in
      let e = those_count (λ _. true) (stored c) (members t) stored_apart s.apart
      (λ q. (λ m. (members_mem q t).0 ((stored_mem q).0 m), λ m. (stored_mem q).1 ((members_mem q t).1 m))) in
      ap length (sym (those_all (stored c))) ∙ e ∙ ap length (those_all (members t)) ∙ length_members t ∙ s.count
