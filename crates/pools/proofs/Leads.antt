-- The tree that a link leads to is the one that is read from the cells, and no other. It assumes that the tree has no more levels than are read.
use Prim.Native.Nat.{ℕ, zero, suc, ◌-◌, ◌^◌, ◌≤◌, ◌<◌}
use mathlib.Core.Path.{◌≡◌, refl, ◌∙◌}
use mathlib.Core.Bool.{Bool, true, false}
use mathlib.Core.List.{List}
use native.Mathlib.Omega.{arith}
use native.Mathlib.Nat.{pow-suc}
use lib.Dec.{eqb}
use borrow.Author.Tests.{eq-eqb, ne_eqb}
use Rattle.kinds.specs.declared.Pair.{Pair}
use Rattle.trees.specs.Tree.{Tree, none, fork, size, Within}
use Rattle.pools.specs.Cells.{pair_at, left_at, right_at, tree_at}
use Rattle.pools.specs.Links.{Fits, son_at}
use Rattle.pools.specs.Sound.{Leads, nowhere, slot}
use Rattle.kinds.proofs.Tests.{on}

-- the code's `n - 1` and the definitions' `suc`
pub back : (n : ℕ) → (n ≡ 0 → ⊥) → suc (n - 1) ≡ n
back n h = omega arith

-- a tree that is within so many levels is within more
pub within_more : {A : Type 0} (j k : ℕ) (t : Tree A) → j ≤ k → Within j t → Within k t
within_more j k none h w = tt
within_more zero k (fork s p l r) h w = absurd w
within_more (suc j) zero (fork s p l r) h w = absurd (omega arith)
within_more (suc j) (suc k) (fork s p l r) h w = (within_more j k l (omega arith) w.0, within_more j k r (omega arith) w.1)

module _ (c : List ℕ) where
  pub tree_none : (k s : ℕ) → s ≡ 0 → tree_at c k s ≡ none
  unfolding tree_at
  tree_none zero s h = refl
  tree_none (suc k) s h = rw (eq-eqb s 0 h)

  pub tree_fork : (k s : ℕ) → (s ≡ 0 → ⊥) → tree_at c (suc k) s ≡ fork s (pair_at c s) (tree_at c k (left_at c s)) (tree_at c k (right_at c s))
  unfolding tree_at
  tree_fork k s h = rw (ne_eqb s 0 h)

  pub tree_within : (k s : ℕ) → Within k (tree_at c k s)
  unfolding tree_at
  tree_within zero s = tt
  tree_within (suc k) s =
      let l = tree_within k (left_at c s) in
      let r = tree_within k (right_at c s) in
      on (eqb s 0) (λ e. rw e tt) (λ e. rw e (l, r))

  -- what a link leads to is read, as deep as it is
  pub leads_tree : (k : ℕ) {s : ℕ} {t : Tree Pair} → Leads c s t → Within k t → tree_at c k s ≡ t
  leads_tree k nowhere w = tree_none k 0 refl
  leads_tree zero (slot o l r) w = absurd w
  leads_tree (suc k) (slot {s = s} o l r) w =
      tree_fork k s (λ e. omega (arith, o.some)) ∙ (λ i. fork s (pair_at c s) (leads_tree k l w.0 i) (leads_tree k r w.1 i))

  -- and one level deeper than that there is no more to read
  pub tree_deeper : (k s : ℕ) → Leads c s (tree_at c k s) → tree_at c (suc k) s ≡ tree_at c k s
  tree_deeper k s o = leads_tree (suc k) o (within_more k (suc k) (tree_at c k s) (omega arith) (tree_within k s))

  -- a link leads to one tree
  pub leads_one : {s : ℕ} {t u : Tree Pair} → Leads c s t → Leads c s u → t ≡ u
  leads_one nowhere nowhere = refl
  leads_one nowhere (slot o l r) = absurd (omega (arith, o.some))
  leads_one (slot o l r) nowhere = absurd (omega (arith, o.some))
  leads_one (slot {s = s} o l r) (slot o' l' r') = λ i. fork s (pair_at c s) (leads_one l l' i) (leads_one r r' i)

  -- what the code may rely on along a link
  leads_none : {s : ℕ} {t : Tree Pair} → Leads c s t → t ≡ none → s ≡ 0
  leads_none nowhere e = refl
  leads_none (slot o l r) e = let z : ◌≡◌ {A = ℕ} 0 1 = cc in absurd (omega arith)

  pub leads_deep : (k s : ℕ) → Leads c s (tree_at c k s) → (s ≡ 0 → ⊥) → k ≡ 0 → ⊥
  unfolding tree_at
  leads_deep zero s h ne e = ne (leads_none h refl)
  leads_deep (suc k) s h ne e = omega arith

  pub leads_fits : {s : ℕ} {t : Tree Pair} → Leads c s t → (s ≡ 0 → ⊥) → Fits c s
  leads_fits nowhere ne = absurd (ne refl)
  leads_fits (slot o l r) ne = let a = o.some in let b = o.most in omega arith

  record Sons (t u : Tree Pair) (s : ℕ) : Type 0 where
    left : Leads c (left_at c s) t
    right : Leads c (right_at c s) u

  leads_fork : {s i : ℕ} {p : Pair} {t l r : Tree Pair} → Leads c s t → t ≡ fork i p l r → Sons l r s
  leads_fork nowhere e = let z : ◌≡◌ {A = ℕ} 0 1 = cc in absurd (omega arith)
  leads_fork {l = u} {r = v} (slot {l = l} {r = r} o a b) e =
      let el : l ≡ u = cc in
      let er : r ≡ v = cc in
      record { left = rw el at a; right = rw er at b }

  pub leads_son : (k s : ℕ) (b : Bool) → Leads c s (tree_at c (suc k) s) → (s ≡ 0 → ⊥) → Leads c (son_at c s b) (tree_at c k (son_at c s b))
  unfolding son_at
  leads_son k s true h ne = (leads_fork h (tree_fork k s ne)).left
  leads_son k s false h ne = (leads_fork h (tree_fork k s ne)).right

  -- a tree that is read so many levels down has few slots
  pub few : (k s : ℕ) → size (tree_at c k s) < 2 ^ k
  unfolding tree_at
  few zero s = omega arith
  few (suc k) s =
      let l = few k (left_at c s) in
      let r = few k (right_at c s) in
      on (eqb s 0) (λ e. rw e (omega (arith, pow-suc 2 k))) (λ e. rw e (omega (arith, pow-suc 2 k)))
