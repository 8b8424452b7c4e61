-- What a sound pool stores, over its tree and over its list: the same pairs, so that a test on the list is one on the tree.
use Prim.Native.Nat.{ℕ, ◌≤◌}
use mathlib.Core.Path.{◌≡◌, refl, sym, ◌∙◌}
use mathlib.Core.Logic.{◌≢◌, ◌↔◌}
use mathlib.Core.Bool.{true, false}
use mathlib.Core.List.{List, map, Memᴰ}
use native.Mathlib.Omega.{arith}
use lib.Dec.{eqb, leb}
use lib.ListN.{length}
use borrow.Author.Tests.{eqb-true, eqb-false, le-leb, lt-leb}
use Rattle.kinds.specs.declared.Pair.{Pair}
use Rattle.stripes.specs.Stripe.{root_stripe}
use Rattle.kinds.proofs.Tests.{on, clash}
use Rattle.plain.specs.Plain.{has_x, has, Alike, Apart}
use Rattle.plain.proofs.Having.{has_x_true, true_has_x, has_true, true_has}
use Rattle.trees.specs.Tree.{itself, members, Mem, Well}
use Rattle.trees.specs.Standing.{New}
use Rattle.trees.proofs.Trees.{all_map, all_mem, all_at}
use Rattle.trees.proofs.Members.{members_mem, well_apart}
use Rattle.pools.specs.Cells.{slots_of, free_of, stored, tree_of}
use Rattle.pools.specs.Sound.{Sound, Chain, ends, next}
use Rattle.pools.proofs.Decided.{sound_well, sound_tree}
use Rattle.pools.proofs.Stored.{stored_mem, stored_count}

-- a chain from 0 has no slots, and one from elsewhere has some
chain_none : {c : List ℕ} {i : ℕ} {free : List ℕ} → Chain c i free → i ≡ 0 → length free ≡ 0
chain_none ends e = refl
chain_none (next o f r) e = absurd (omega (arith, o.some))

chain_some : {c : List ℕ} {i : ℕ} {free : List ℕ} → Chain c i free → i ≢ 0 → 1 ≤ length free
chain_some ends n = absurd (n refl)
chain_some (next o f r) n = omega arith

module _ {c : List ℕ} (s : Sound c) where
  -- law: the tree that is read is well formed, and its members are the stored pairs, each once
  pub tree_well : Well itself root_stripe (tree_of c)
  tree_well = rw (sound_tree c s) (sound_well c s)

  pub tree_stored : (p : Pair) → Mem p (tree_of c) ↔ Memᴰ p (stored c)
  tree_stored p = rw (sound_tree c s) ((stored_mem s p).1, (stored_mem s p).0)

  pub members_stored : Alike (members (tree_of c)) (stored c)
  members_stored = rw (sound_tree c s) (λ p. (
    λ m. (stored_mem s p).1 ((members_mem p s.tree).1 m),
    λ m. (members_mem p s.tree).0 ((stored_mem s p).0 m),
  ))

  pub members_apart : Apart (map (λ p. p.x) (members (tree_of c)))
  members_apart = rw (sound_tree c s) (well_apart itself root_stripe s.tree (sound_well c s))

  -- x is in nobody's pair
  pub new_of : (x : ℕ) → has_x x (stored c) ≡ false → New itself x s.tree
  new_of x e = all_map (λ q m d. clash (true_has_x q x (stored c) ((stored_mem s q).1 m) (sym d)) e) s.tree (all_mem s.tree)

  pub of_new : (x : ℕ) → New itself x s.tree → has_x x (stored c) ≡ false
  of_new x n = on (has_x x (stored c))
      (λ e. let h = has_x_true x (stored c) e in absurd (all_at _ n ((stored_mem s h.pair).0 h.member) (sym h.same))) (λ e. e)

  pub has_mem : (p : Pair) → has p (stored c) ≡ true → Mem p s.tree
  has_mem p e = (stored_mem s p).0 (has_true p (stored c) e)

  pub mem_has : (p : Pair) → Mem p s.tree → has p (stored c) ≡ true
  mem_has p m = true_has p (stored c) ((stored_mem s p).1 m)

  pub mem_has_x : (p : Pair) → Mem p s.tree → has_x p.x (stored c) ≡ true
  mem_has_x p m = true_has_x p p.x (stored c) ((stored_mem s p).1 m) refl

  -- law: there is no first free slot exactly where there are as many pairs as slots
  pub full_is : leb (slots_of c) (length (stored c)) ≡ eqb (free_of c) 0
  full_is =
      let k = stored_count s in
      let r = s.rest in
      on (eqb (free_of c) 0)
      (λ e. let z = chain_none s.chain (eqb-true _ _ e) in le-leb (slots_of c) (length (stored c)) (omega arith) ∙ sym e)
      (λ e. let z = chain_some s.chain (eqb-false _ _ e) in lt-leb (slots_of c) (length (stored c)) (omega arith) ∙ sym e)
