-- Two well-formed trees of one stripe with equal members are equal but for their slots' numbers.
use Prim.Native.Nat.{ℕ, ◌≤◌, ◌<◌}
use mathlib.Core.Path.{◌≡◌, refl, sym, ap, ◌∙◌}
use mathlib.Core.Logic.{◌≢◌, ◌↔◌, ◌⊎◌, inl, inr}
use native.Mathlib.Omega.{arith}
use Rattle.kinds.specs.declared.Pair.{Pair}
use Rattle.kinds.specs.Pairs.{Beats}
use Rattle.stripes.specs.Stripe.{Stripe, In, middle, left_part, right_part}
use Rattle.trees.specs.Tree.{Tree, none, fork, bare, All, Mem, here, in_left, in_right, Under, WellFork, Well}
use Rattle.kinds.proofs.Order.{beats_asym}
use Rattle.trees.proofs.Trees.{all_map, all_and, all_at, all_mem, well_in}

module _ {A : Type 0} (key : A → Pair) where
  module _ {s : Stripe} {i : ℕ} {p q : A} {l r : Tree A} where
    pub mem_top : WellFork key s p l r (Well key (left_part s) l) (Well key (right_part s) r) → Mem q (fork i p l r) → (q ≡ p) ⊎ Beats (key p) (key q)
    mem_top f (here e) = inl e
    mem_top f (in_left m) = inr (all_at _ f.over_left m).beaten
    mem_top f (in_right m) = inr (all_at _ f.over_right m).beaten

    -- a member of a half's stripe that is not the top is a member of that half
    pub mem_left : WellFork key s p l r (Well key (left_part s) l) (Well key (right_part s) r) → (key p).x ≢ (key q).x → (key q).x < middle s
        → Mem q (fork i p l r) → Mem q l
    mem_left f d h (here e) = absurd (d (ap (λ q. (key q).x) (sym e)))
    mem_left f d h (in_left m) = m
    mem_left f d h (in_right m) = let j = all_at _ (well_in key (right_part s) r f.right) m in absurd (omega arith)

    pub mem_right : WellFork key s p l r (Well key (left_part s) l) (Well key (right_part s) r) → (key p).x ≢ (key q).x → middle s ≤ (key q).x
        → Mem q (fork i p l r) → Mem q r
    mem_right f d h (here e) = absurd (d (ap (λ q. (key q).x) (sym e)))
    mem_right f d h (in_left m) = let j = all_at _ (well_in key (left_part s) l f.left) m in absurd (omega arith)
    mem_right f d h (in_right m) = m

  same_top : {p q : A} → (p ≡ q) ⊎ Beats (key q) (key p) → (q ≡ p) ⊎ Beats (key p) (key q) → p ≡ q
  same_top (inl e) b = e
  same_top (inr a) (inl e) = sym e
  same_top (inr a) (inr b) = absurd (beats_asym a b)

  -- below p: in the stripe, with another x
  below : (s : Stripe) (p : A) (t : Tree A) → Well key s t → All (λ q. Under (key p) (key q)) t → All (λ q. In s (key q).x × ((key p).x ≢ (key q).x)) t
  below s p t w u = all_and (λ q i v. (i, v.apart)) t (well_in key s t w) u

  same : (s : Stripe) (t u : Tree A) → Well key s t → Well key s u → All (λ q. Mem q u) t → All (λ q. Mem q t) u → bare t ≡ bare u
  unfolding bare
  same s none none f g a b = refl
  same s none (fork c v x y) f g a b = elim b.0 [ ]
  same s (fork i p l r) none f g a b = elim a.0 [ ]
  same s (fork i p l r) (fork c v x y) f g a b =
      let e = same_top (mem_top g a.0) (mem_top f b.0) in
      let d = ap (λ q. (key q).x) e in
      let ls = left_part s in
      let rs = right_part s in
      let L = same ls l x f.left g.left
      (all_and (λ q w m. mem_left g (λ h. w.1 (d ∙ h)) w.0.to m) l (below ls p l f.left f.over_left) a.1)
      (all_and (λ q w m. mem_left f (λ h. w.1 (sym d ∙ h)) w.0.to m) x (below ls v x g.left g.over_left) b.1) in
      let R = same rs r y f.right g.right
      (all_and (λ q w m. mem_right g (λ h. w.1 (d ∙ h)) w.0.from m) r (below rs p r f.right f.over_right) a.2)
      (all_and (λ q w m. mem_right f (λ h. w.1 (sym d ∙ h)) w.0.from m) y (below rs v y g.right g.over_right) b.2) in
      λ i. fork 0 (e i) (L i) (R i)

  -- law: the tree depends on the set alone
  pub same_set : (s : Stripe) (t u : Tree A) → Well key s t → Well key s u → ((q : A) → Mem q t ↔ Mem q u) → bare t ≡ bare u
  same_set s t u f g h = same s t u f g (all_map (λ q m. (h q).0 m) t (all_mem t)) (all_map (λ q m. (h q).1 m) u (all_mem u))
