-- The slots of a sound pool: those of the tree and of the free chain all differ, and together they are all there are.
use Prim.Native.Nat.{ℕ, ◌≤◌}
use mathlib.Core.Path.{◌≡◌, refl, sym, ap, ◌∙◌, subst}
use mathlib.Core.Logic.{◌⊎◌, inl, inr, ⊎_elim}
use mathlib.Core.List.Memᴰ
use mathlib.Core.List.{List, ◌∷◌, ◌++◌, Memᴰ}
use native.Mathlib.Omega.{arith}
use lib.ListN.{length, length-append}
use Rattle.kinds.specs.declared.Pair.{Pair}
use Rattle.stripes.specs.Stripe.{Stripe, root_stripe, left_part, right_part}
use Rattle.trees.specs.Tree.{Tree, none, fork, size, Mem, here, in_left, in_right, Well, itself}
use Rattle.trees.specs.Standing.{slots, Stands, at_top, at_left, at_right, Distinct}
use Rattle.plain.specs.Plain.{Apart}
use Rattle.pools.specs.Cells.{slots_of, pair_at, left_at, right_at}
use Rattle.pools.specs.Sound.{Pool, Slot, Leads, nowhere, slot, Free, Chain, ends, next, Sound}
use Rattle.trees.proofs.Trees.{all_at, well_in}
use Rattle.pools.proofs.Decided.{sound_well}
use Rattle.pools.proofs.Agreement.{leads_reads, leads_slot}
use Rattle.plain.proofs.Apart.{differs_not, apart_join}
use Rattle.pools.proofs.Pigeonhole.{FromOne, all_there}

-- a tree's slots as a list
module _ {A : Type 0} where
  pub stands_list : {u : ℕ} {t : Tree A} → Stands u t → Memᴰ u (slots t)
  stands_list (at_top e) = Memᴰ.head e
  stands_list (at_left {r = r} m) = Memᴰ.tail (Memᴰ.append_left (slots r) (stands_list m))
  stands_list (at_right {l = l} m) = Memᴰ.tail (Memᴰ.append_right (slots l) (stands_list m))

  pub list_stands : {u : ℕ} (t : Tree A) → Memᴰ u (slots t) → Stands u t
  list_stands none m = elim m [ ]
  list_stands (fork s p l r) (Memᴰ.head e) = at_top e
  list_stands (fork s p l r) (Memᴰ.tail m) =
      ⊎_elim (λ k. at_left (list_stands l k)) (λ k. at_right (list_stands r k)) (Memᴰ.append_cases (slots l) m)

  pub distinct_apart : (t : Tree A) → Distinct t → Apart (slots t)
  distinct_apart none h = tt
  distinct_apart (fork s p l r) h = (
    differs_not s (slots l ++ slots r) (λ m. ⊎_elim (λ k. h.not_left (list_stands l k)) (λ k. h.not_right (list_stands r k)) (Memᴰ.append_cases (slots l) m)),
    apart_join (slots l) (slots r) (distinct_apart l h.left) (distinct_apart r h.right) (λ u a b. h.across u (list_stands l a) (list_stands r b)),
  )

  pub length_slots : (t : Tree A) → length (slots t) ≡ size t
  length_slots none = refl
  length_slots (fork s p l r) =
      let a = length_slots l in
      let b = length_slots r in
      simp length-append (omega arith)

-- what stands in a slot of the tree is in the tree
pub stands_mem : {c : List ℕ} {s u : ℕ} (t : Tree Pair) → Leads c s t → Stands u t → Mem (pair_at c u) t
stands_mem none h m = elim m [ ]
stands_mem {c} (fork i p l r) h (at_top e) = here (ap (λ v. pair_at c v) e ∙ (leads_reads h).pair)
stands_mem {c = c} (fork i p l r) h (at_left m) = in_left (stands_mem {s = left_at c i} l (leads_reads h).left m)
stands_mem {c = c} (fork i p l r) h (at_right m) = in_right (stands_mem {s = right_at c i} r (leads_reads h).right m)

-- law: no slot stands twice, for it would hold one x twice
pub leads_distinct : {c : List ℕ} {s : ℕ} (at : Stripe) (t : Tree Pair) → Leads c s t → Well itself at t → Distinct t
leads_distinct at none h w = tt
leads_distinct {c} at (fork i p l r) h w =
    let k = leads_reads h in
    let il = well_in itself (left_part at) l w.left in
    let ir = well_in itself (right_part at) r w.right in
    let e = ap (λ q. q.x) k.pair in
    record {
      not_left = λ m. (all_at _ w.over_left (stands_mem l k.left m)).apart (sym e);
      not_right = λ m. (all_at _ w.over_right (stands_mem r k.right m)).apart (sym e);
      across = λ u m n. let a = all_at _ il (stands_mem l k.left m) in let b = all_at _ ir (stands_mem r k.right n) in omega arith;
      left = leads_distinct {s = left_at c i} (left_part at) l k.left w.left;
      right = leads_distinct {s = right_at c i} (right_part at) r k.right w.right;
    }

-- a link of the tree is 0 to n, and so none to a slot in the free form
leads_low : {c : List ℕ} {s : ℕ} {t : Tree Pair} → Leads c s t → s ≤ slots_of c
leads_low nowhere = omega arith
leads_low (slot o L R) = o.most

stands_low : {c : List ℕ} {s u : ℕ} (t : Tree Pair) → Leads c s t → Stands u t → left_at c u ≤ slots_of c
stands_low none h m = elim m [ ]
stands_low {c} (fork i p l r) h (at_top e) = subst (λ v. left_at c v ≤ slots_of c) (sym e) (leads_low (leads_reads h).left)
stands_low {c = c} (fork i p l r) h (at_left m) = stands_low {s = left_at c i} l (leads_reads h).left m
stands_low {c = c} (fork i p l r) h (at_right m) = stands_low {s = right_at c i} r (leads_reads h).right m

-- law: a slot of the tree is not in the free form
pub stands_used : {c : List ℕ} {s u : ℕ} (t : Tree Pair) → Pool c → Leads c s t → Stands u t → Free c u → ⊥
stands_used t p h m f = let a = stands_low t h m in let b = p.most in let d = f.left in omega arith

-- from u on there is a chain of at most n slots
record Onward (c : List ℕ) (u n : ℕ) : Type 0 where
  free : List ℕ
  chain : Chain c u free
  short : length free ≤ n

-- the free chain
module _ {c : List ℕ} where
  pub chain_slot : {s u : ℕ} {free : List ℕ} → Chain c s free → Memᴰ u free → Slot c u
  chain_slot ends m = elim m [ ]
  chain_slot (next o f k) (Memᴰ.head e) = subst (Slot c) (sym e) o
  chain_slot (next o f k) (Memᴰ.tail m) = chain_slot k m

  pub chain_free : {s u : ℕ} {free : List ℕ} → Chain c s free → Memᴰ u free → Free c u
  chain_free ends m = elim m [ ]
  chain_free (next o f k) (Memᴰ.head e) = subst (Free c) (sym e) f
  chain_free (next o f k) (Memᴰ.tail m) = chain_free k m

  -- from a slot on there is one chain
  chain_one : {s : ℕ} {a b : List ℕ} → Chain c s a → Chain c s b → a ≡ b
  chain_one ends ends = refl
  chain_one ends (next o f k) = absurd (omega (arith, o.some))
  chain_one (next o f k) ends = absurd (omega (arith, o.some))
  chain_one (next {s = s} o f k) (next o' f' k') = ap (λ l. s ∷ l) (chain_one k k')

  onward : {s u : ℕ} {free : List ℕ} → Chain c s free → Memᴰ u free → Onward c u (length free)
  onward ends m = elim m [ ]
  onward (next {s = s} {rest = rest} o f k) (Memᴰ.head e) = rw e (record { free = s ∷ rest; chain = next o f k; short = omega arith })
  onward (next o f k) (Memᴰ.tail m) = let r = onward k m in record { free = r.free; chain = r.chain; short = omega (arith, r.short) }

  -- law: a chain that ends has no slot twice
  pub chain_apart : {s : ℕ} {free : List ℕ} → Chain c s free → Apart free
  chain_apart ends = tt
  chain_apart (next {s = s} {rest = rest} o f k) = (
    differs_not s rest (λ m. let r = onward k m in let e = ap length (chain_one r.chain (next {rest = rest} o f k)) in omega (arith, r.short)),
    chain_apart k,
  )

module _ {c : List ℕ} (s : Sound c) where
  pub sound_distinct : Distinct s.tree
  sound_distinct = leads_distinct root_stripe s.tree s.links (sound_well c s)

  pub tree_slot : {u : ℕ} → Stands u s.tree → Slot c u
  tree_slot m = leads_slot s.tree s.links m

  pub free_slot : {u : ℕ} → Memᴰ u s.free → Slot c u
  free_slot m = chain_slot s.chain m

  -- law: no slot is both
  pub not_both : {u : ℕ} → Stands u s.tree → Memᴰ u s.free → ⊥
  not_both m k = stands_used s.tree s.pool s.links m (chain_free s.chain k)

  -- law: the slots of the tree and of the chain all differ
  pub slots_apart : Apart (slots s.tree ++ s.free)
  slots_apart = apart_join (slots s.tree) s.free (distinct_apart s.tree sound_distinct) (chain_apart s.chain) (λ u m k. not_both (list_stands s.tree m) k)

  slots_some : FromOne (slots_of c) (slots s.tree ++ s.free)
  slots_some u m = ⊎_elim (λ k. let o = tree_slot (list_stands s.tree k) in (o.some, o.most)) (λ k. let o = free_slot k in (o.some, o.most))
      (Memᴰ.append_cases (slots s.tree) m)

  slots_many : length (slots s.tree ++ s.free) ≡ slots_of c
  slots_many =
      let a = length_slots s.tree in
      let b = s.count in
      let d = s.rest in
      simp length-append (omega arith)

  -- law: every slot is one of the tree or one of the chain
  pub slot_either : {u : ℕ} → Slot c u → Stands u s.tree ⊎ Memᴰ u s.free
  slot_either {u} o = ⊎_elim (λ m. inl (list_stands s.tree m)) (λ m. inr m)
      (Memᴰ.append_cases (slots s.tree) (all_there (slots_of c) (slots s.tree ++ s.free) slots_apart slots_some slots_many u o.some o.most))
