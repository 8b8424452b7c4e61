-- The test of a pool is true exactly where the pool is sound. Nothing is assumed of the cells.
use Prim.Native.Nat.{ℕ, zero, suc, ◌+◌, ◌*◌, ◌-◌, ◌≤◌}
use mathlib.Core.Path.{◌≡◌, refl, ap}
use mathlib.Core.Logic.{◌↔◌}
use mathlib.Core.Bool.{Bool, true, false, cond, not, ◌&&◌}
use mathlib.Core.List.{List, [], ◌∷◌}
use native.Mathlib.Omega.{arith}
use lib.Dec.{ltb, leb, eqb}
use lib.ListN.{length}
use borrow.Author.Tests.{eq-eqb, ne_eqb, le-leb, lt-ltb, eqb-true, eqb-false, leb-true, ltb-true, ltb-false, not-true}
use Rattle.kinds.specs.declared.Pair.{Pair}
use Rattle.kinds.specs.Pairs.{beats}
use Rattle.stripes.specs.Stripe.{Stripe, In, holds, root_stripe, middle, left_part, right_part, low_levels, all_levels}
use Rattle.trees.specs.Tree.{Tree, fork, size, Tops, free, over, Within, Well, itself}
use Rattle.trees.specs.Standing.{New}
use Rattle.trees.specs.Changes.{met}
use Rattle.pools.specs.Cells.{most_slots, per_slot, slots_of, mark_of, root_of, free_of, count_of, pair_at, left_at, right_at, free_mark, is_free, tree_at}
use Rattle.pools.specs.Sound.{Pool, Slot, Leads, nowhere, slot, Free, Chain, ends, next, Sound}
use Rattle.pools.specs.Test.{is_pool, slot_fine, alone, fine, below, root_fine, free_fine, chain_fine, rest_fine, is_sound}
use Rattle.kinds.proofs.Tests.{on, both, and_true, all_three, all_four}
use Rattle.kinds.proofs.Order.{beats_true, true_beats}
use Rattle.trees.proofs.Trees.{all_map, well_in, under_new, tops_of}
use Rattle.trees.proofs.Clauses.{well_fork, well_of, stripes_of, ordered_of}
use Rattle.trees.proofs.Members.{well_apart}
use Rattle.trees.proofs.Halving.{unmet_new, new_unmet}
use Rattle.pools.proofs.Leads.{tree_none, tree_fork, tree_within, leads_tree}

pub pool_true : (c : List ℕ) → is_pool c ≡ true → Pool c
unfolding is_pool
pool_true c h =
    let a = all_three (eqb (length c) (per_slot * (slots_of c + 1))) (leb 1 (slots_of c)) (leb (slots_of c) most_slots) h in
    record { whole = eqb-true _ _ a.0; some = leb-true _ _ a.1; most = leb-true _ _ a.2 }

pub true_pool : (c : List ℕ) → Pool c → is_pool c ≡ true
unfolding is_pool
true_pool c p = rw (eq-eqb (length c) (per_slot * (slots_of c + 1)) p.whole, le-leb 1 (slots_of c) p.some, le-leb (slots_of c) most_slots p.most)

holds_true : (s : Stripe) (x : ℕ) → holds s x ≡ true → In s x
unfolding holds
holds_true s x h = let a = both (leb s.lower x) _ h in record { from = leb-true _ _ a.0; to = ltb-true _ _ a.1 }

true_holds : (s : Stripe) (x : ℕ) → In s x → holds s x ≡ true
unfolding holds
true_holds s x i = and_true (le-leb s.lower x i.from) (lt-ltb x s.upper i.to)

-- the slot's x against the trees below it
alone_new : (x : ℕ) (at : Stripe) (l r : Tree Pair) → Well itself (left_part at) l → Well itself (right_part at) r → alone x at l r ≡ true
    → New itself x l × New itself x r
unfolding alone
alone_new x at l r f g h = on (ltb x (middle at))
    (λ e. let k : not (met itself x (left_part at) l) ≡ true = rw e at h in
    (unmet_new itself x (left_part at) l f (not-true _ k), all_map (λ q i. omega (arith, ltb-true)) r (well_in itself (right_part at) r g)))
    (λ e. let k : not (met itself x (right_part at) r) ≡ true = rw e at h in
    (all_map (λ q i. omega (arith, ltb-false)) l (well_in itself (left_part at) l f), unmet_new itself x (right_part at) r g (not-true _ k)))

new_alone : (x : ℕ) (at : Stripe) (l r : Tree Pair) → New itself x l → New itself x r → alone x at l r ≡ true
unfolding alone
new_alone x at l r f g = rw (new_unmet itself x (left_part at) l f, new_unmet itself x (right_part at) r g) (go (ltb x (middle at)))
  where
    go : (b : Bool) → not (cond b false false) ≡ true
    go true = refl
    go false = refl

module _ (c : List ℕ) where
  -- what is fine from a link down: the link leads to the tree that is read, and that is well formed
  pub record Fine (s : ℕ) (at : Stripe) (t : Tree Pair) : Type 0 where
    pub leads : Leads c s t
    pub well : Well itself at t

  pub record Below (p : Pair) (s : ℕ) (at : Stripe) (t : Tree Pair) : Type 0 where
    pub fine : Fine s at t
    pub tops : Tops itself p t

  fine_none : (k : ℕ) (p : Pair) (s : ℕ) (at : Stripe) → s ≡ 0 → Below p s at (tree_at c k s)
  fine_none k p s at e = rw (tree_none c k s e, e) (record { fine = record { leads = nowhere; well = tt }; tops = free })

  pub fine_slot : (k s : ℕ) (at : Stripe) → (s ≡ 0 → ⊥) → slot_fine c s at ≡ true
      → Below (pair_at c s) (left_at c s) (left_part at) (tree_at c k (left_at c s))
      → Below (pair_at c s) (right_at c s) (right_part at) (tree_at c k (right_at c s))
      → alone (pair_at c s).x at (tree_at c k (left_at c s)) (tree_at c k (right_at c s)) ≡ true
      → Fine s at (fork s (pair_at c s) (tree_at c k (left_at c s)) (tree_at c k (right_at c s)))
  unfolding slot_fine
  fine_slot k s at ne h l r a =
      let p = pair_at c s in
      let t = both (leb s (slots_of c)) (holds at p.x) h in
      let n = alone_new p.x at (tree_at c k (left_at c s)) (tree_at c k (right_at c s)) l.fine.well r.fine.well a in
      record {
        leads = slot {s = s} (record { some = omega arith; most = leb-true _ _ t.0 }) l.fine.leads r.fine.leads;
        well = well_fork itself at s p (tree_at c k (left_at c s)) (tree_at c k (right_at c s)) (holds_true at p.x t.1)
            l.tops r.tops n.0 n.1 l.fine.well r.fine.well;
      }

  pub fine_true : (k : ℕ) (p : Pair) (s : ℕ) (at : Stripe) → fine c k p s at ≡ true → Below p s at (tree_at c k s)
  unfolding fine
  fine_true zero p s at h = fine_none zero p s at (eqb-true _ _ h)
  fine_true (suc k) p s at h =
      let q = pair_at c s in
      let F = fine c k q (left_at c s) (left_part at) in
      let G = fine c k q (right_at c s) (right_part at) in
      let N = alone q.x at (tree_at c k (left_at c s)) (tree_at c k (right_at c s)) in
      let L = fine_true k q (left_at c s) (left_part at) in
      let R = fine_true k q (right_at c s) (right_part at) in
      on (eqb s 0) (λ e. fine_none (suc k) p s at (eqb-true _ _ e))
      (λ e. let h' : (slot_fine c s at && beats p q && (F && G && N)) ≡ true = rw e at h in
      let ne = eqb-false s 0 e in
      let a = all_three (slot_fine c s at) (beats p q) (F && G && N) h' in
      let b = all_three F G N a.2 in
      rw (tree_fork c k s ne) (record { fine = fine_slot k s at ne a.0 (L b.0) (R b.1) b.2; tops = over (beats_true p q a.1) }))

  pub below_true : (k s : ℕ) (at : Stripe) → (s ≡ 0 → ⊥) → slot_fine c s at ≡ true → below c k s at ≡ true → Fine s at (tree_at c (suc k) s)
  unfolding below
  below_true k s at ne f h =
      let q = pair_at c s in
      let b = all_three (fine c k q (left_at c s) (left_part at)) (fine c k q (right_at c s) (right_part at)) _ h in
      rw (tree_fork c k s ne) (fine_slot k s at ne f (fine_true k q (left_at c s) (left_part at) b.0) (fine_true k q (right_at c s) (right_part at) b.1) b.2)

  pub root_true : root_fine c ≡ true → Fine (root_of c) root_stripe (tree_at c all_levels (root_of c))
  unfolding root_fine
  root_true h =
      on (eqb (root_of c) 0) (λ e. (fine_none all_levels (pair_at c 0) (root_of c) root_stripe (eqb-true _ _ e)).fine)
      (λ e. let h' : (slot_fine c (root_of c) root_stripe && below c low_levels (root_of c) root_stripe) ≡ true = rw e at h in
      let a = both (slot_fine c (root_of c) root_stripe) (below c low_levels (root_of c) root_stripe) h' in
      below_true low_levels (root_of c) root_stripe (eqb-false _ _ e) a.0 a.1)

  -- and conversely
  slot_true : {s : ℕ} {at : Stripe} → Slot c s → In at (pair_at c s).x → slot_fine c s at ≡ true
  unfolding slot_fine
  slot_true {s} {at} o i = rw (le-leb s (slots_of c) o.most, true_holds at (pair_at c s).x i)

  pub true_fine : (k : ℕ) (p : Pair) {s : ℕ} {t : Tree Pair} (at : Stripe) → Leads c s t → Well itself at t → Tops itself p t → Within k t
      → fine c k p s at ≡ true
  unfolding fine
  true_fine zero p at nowhere w o d = refl
  true_fine (suc k) p at nowhere w o d = refl
  true_fine zero p at (slot q l r) w o d = absurd d
  true_fine (suc k) p at (slot {s = s} {l = l} {r = r} q a b) w (over u) d =
      let v = pair_at c s in
      rw (
        ne_eqb s 0 (λ e. omega (arith, q.some)),
        slot_true q w.inside,
        true_beats u,
        true_fine k v (left_part at) a w.left (tops_of itself v l w.over_left) d.0,
        true_fine k v (right_part at) b w.right (tops_of itself v r w.over_right) d.1,
        leads_tree c k a d.0,
        leads_tree c k b d.1,
      ) (new_alone v.x at l r (under_new itself v l w.over_left) (under_new itself v r w.over_right))

  true_root : {s : ℕ} {t : Tree Pair} → s ≡ root_of c → Leads c s t → Well itself root_stripe t → Within all_levels t → root_fine c ≡ true
  unfolding root_fine below
  true_root e nowhere w d = rw (← e)
  true_root e (slot {s = s} {l = l} {r = r} q a b) w d =
      let v = pair_at c s in
      rw (
        ← e,
        ne_eqb s 0 (λ e. omega (arith, q.some)),
        slot_true q w.inside,
        true_fine low_levels v (left_part root_stripe) a w.left (tops_of itself v l w.over_left) d.0,
        true_fine low_levels v (right_part root_stripe) b w.right (tops_of itself v r w.over_right) d.1,
        leads_tree c low_levels a d.0,
        leads_tree c low_levels b d.1,
      ) (new_alone v.x root_stripe l r (under_new itself v l w.over_left) (under_new itself v r w.over_right))

  -- the free chain
  pub free_true : (s : ℕ) → is_free c s ≡ true → Free c s
  unfolding is_free
  free_true s h =
      let a = all_three (eqb (pair_at c s).x 0) (eqb (pair_at c s).y 0) (eqb (left_at c s) free_mark) h in
      record { x = eqb-true _ _ a.0; y = eqb-true _ _ a.1; left = eqb-true _ _ a.2 }

  pub true_free : (s : ℕ) → Free c s → is_free c s ≡ true
  unfolding is_free
  true_free s f = rw (eq-eqb (pair_at c s).x 0 f.x, eq-eqb (pair_at c s).y 0 f.y, eq-eqb (left_at c s) free_mark f.left)

  pub record Chained (s k : ℕ) : Type 0 where
    pub free : List ℕ
    pub chain : Chain c s free
    pub many : length free ≡ k

  pub chain_true : (k s : ℕ) → chain_fine c k s ≡ true → Chained s k
  unfolding chain_fine free_fine
  chain_true zero s h = let e = eqb-true s 0 h in rw e (record { free = []; chain = ends; many = refl })
  chain_true (suc k) s h =
      let b = both (free_fine c s) (chain_fine c k (right_at c s)) h in
      let a = all_three (leb 1 s) (leb s (slots_of c)) (is_free c s) b.0 in
      let r = chain_true k (right_at c s) b.1 in
      record {
        free = s ∷ r.free;
        chain = next (record { some = leb-true _ _ a.0; most = leb-true _ _ a.1 }) (free_true s a.2) r.chain;
        many = ap suc r.many;
      }

  pub true_chain : {s : ℕ} {rest : List ℕ} → Chain c s rest → chain_fine c (length rest) s ≡ true
  unfolding chain_fine free_fine
  true_chain ends = refl
  true_chain (next {s = s} o f h) = rw (le-leb 1 s o.some, le-leb s (slots_of c) o.most, true_free s f, true_chain h)

  -- the whole pool
  pub test_sound : is_sound c ≡ true → Sound c
  unfolding is_sound rest_fine
  test_sound h =
      let t = tree_at c all_levels (root_of c) in
      let b = all_four (is_pool c) (eqb (mark_of c) 1) (root_fine c) (rest_fine c) h in
      let d = all_three (eqb (size t) (count_of c)) (leb (count_of c) (slots_of c)) (chain_fine c (slots_of c - count_of c) (free_of c)) b.3 in
      let f = root_true b.2 in
      let g = chain_true (slots_of c - count_of c) (free_of c) d.2 in
      let m = g.many in
      let n : count_of c ≤ slots_of c = leb-true _ _ d.1 in
      record {
        pool = pool_true c b.0;
        mark = eqb-true _ _ b.1;
        tree = t;
        links = f.leads;
        stripes = stripes_of itself root_stripe t f.well;
        order = ordered_of itself root_stripe t f.well;
        apart = well_apart itself root_stripe t f.well;
        levels = tree_within c all_levels (root_of c);
        count = eqb-true _ _ d.0;
        free = g.free;
        chain = g.chain;
        rest = omega arith;
      }

  -- the tree of a sound pool
  pub sound_well : (s : Sound c) → Well itself root_stripe s.tree
  sound_well s = well_of itself root_stripe s.tree s.stripes s.order s.apart

  pub sound_tree : (s : Sound c) → tree_at c all_levels (root_of c) ≡ s.tree
  sound_tree s = leads_tree c all_levels s.links s.levels

  pub sound_test : Sound c → is_sound c ≡ true
  unfolding is_sound rest_fine
  sound_test s =
      let r = s.rest in
      let e : slots_of c - count_of c ≡ length s.free = omega arith in
      rw (
        true_pool c s.pool,
        eq-eqb (mark_of c) 1 s.mark,
        true_root refl s.links (sound_well s) s.levels,
        sound_tree s,
        eq-eqb (size s.tree) (count_of c) s.count,
        le-leb (count_of c) (slots_of c) (omega arith),
        e,
        true_chain s.chain,
      )

  -- law: soundness is decided by the test
  pub decided : (is_sound c ≡ true) ↔ Sound c
  decided = (test_sound, sound_test)
