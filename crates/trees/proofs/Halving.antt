-- In a well-formed tree x is met by halving exactly where it is a member's.
use Prim.Native.Nat.{ℕ}
use mathlib.Core.Path.{◌≡◌, refl, sym}
use mathlib.Core.Bool.{Bool, true, false, cond}
use native.Mathlib.Omega.{arith}
use lib.Dec.{ltb}
use borrow.Author.Tests.{eq-eqb, ne_eqb, lt-ltb, le-ltb}
use Rattle.kinds.specs.declared.Pair.{Pair}
use Rattle.stripes.specs.Stripe.{Stripe, middle, left_part, right_part}
use Rattle.trees.specs.Tree.{Tree, none, fork, Mem, here, in_left, in_right, Well}
use Rattle.trees.specs.Standing.{New}
use Rattle.trees.specs.Changes.{met}
use Rattle.trees.proofs.Trees.{all_map, all_at, all_mem, well_in}

module _ {A : Type 0} (key : A → Pair) where
  pub mem_met : (p : A) (s : Stripe) (t : Tree A) → Well key s t → Mem p t → met key (key p).x s t ≡ true
  unfolding met
  mem_met p s none w m = elim m [ ]
  mem_met p s (fork i q l r) w (here e) = rw (← e, eq-eqb (key p).x (key p).x refl)
  mem_met p s (fork i q l r) w (in_left m) =
      let j = all_at _ (well_in key (left_part s) l w.left) m in
      rw (ne_eqb (key q).x (key p).x (all_at _ w.over_left m).apart, lt-ltb (key p).x (middle s) j.to) (mem_met p (left_part s) l w.left m)
  mem_met p s (fork i q l r) w (in_right m) =
      let j = all_at _ (well_in key (right_part s) r w.right) m in
      rw (ne_eqb (key q).x (key p).x (all_at _ w.over_right m).apart, le-ltb (key p).x (middle s) j.from) (mem_met p (right_part s) r w.right m)

  pub unmet_new : (x : ℕ) (s : Stripe) (t : Tree A) → Well key s t → met key x s t ≡ false → New key x t
  unmet_new x s t w f = all_map (λ q m e. let h : met key x s t ≡ true = rw e (mem_met q s t w m) in let z : ◌≡◌ {A = ℕ} 0 1 = cc in omega arith) t (all_mem t)

  pub new_unmet : (x : ℕ) (s : Stripe) (t : Tree A) → New key x t → met key x s t ≡ false
  unfolding met
  new_unmet x s none h = refl
  new_unmet x s (fork i q l r) h = rw (ne_eqb (key q).x x (λ e. h.0 (sym e)), new_unmet x (left_part s) l h.1, new_unmet x (right_part s) r h.2) (same (ltb x (middle s)))
    where
      same : (b : Bool) → cond b false false ≡ false
      same true = refl
      same false = refl
