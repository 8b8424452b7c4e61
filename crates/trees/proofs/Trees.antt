-- What holds of all members of a tree, and what a well-formed tree keeps where. `A` is what a slot holds, and `key` gives its pair.
use mathlib.Core.Path.{refl, sym, subst}
use native.Mathlib.Omega.{arith}
use Rattle.kinds.specs.declared.Pair.{Pair}
use Rattle.stripes.specs.Stripe.{Stripe, In, left_part, right_part}
use Rattle.trees.specs.Tree.{Tree, none, fork, All, Mem, here, in_left, in_right, Tops, free, over, Under, Well}
use Rattle.trees.specs.Standing.{New}

module _ {A : Type 0} where
  pub all_map : {P Q : A → Type 0} → ((q : A) → P q → Q q) → (t : Tree A) → All P t → All Q t
  all_map f none h = tt
  all_map f (fork s p l r) h = (f p h.0, all_map f l h.1, all_map f r h.2)

  pub all_and : {P Q R : A → Type 0} → ((q : A) → P q → Q q → R q) → (t : Tree A) → All P t → All Q t → All R t
  all_and f none h k = tt
  all_and f (fork s p l r) h k = (f p h.0 k.0, all_and f l h.1 k.1, all_and f r h.2 k.2)

  pub all_at : (P : A → Type 0) {q : A} {t : Tree A} → All P t → Mem q t → P q
  all_at P h (here e) = subst P (sym e) h.0
  all_at P h (in_left m) = all_at P h.1 m
  all_at P h (in_right m) = all_at P h.2 m

  pub all_mem : (t : Tree A) → All (λ q. Mem q t) t
  all_mem none = tt
  all_mem (fork s p l r) = (here refl, all_map (λ _ m. in_left m) l (all_mem l), all_map (λ _ m. in_right m) r (all_mem r))

module _ {A : Type 0} (key : A → Pair) where
  -- every member lies in the stripe
  pub well_in : (s : Stripe) (t : Tree A) → Well key s t → All (λ q. In s (key q).x) t
  well_in s none f = tt
  well_in s (fork i p l r) f =
      let h = f.inside in
      (h, all_map (λ q i. omega arith) l (well_in (left_part s) l f.left), all_map (λ q i. omega arith) r (well_in (right_part s) r f.right))

  pub under_new : (p : Pair) (t : Tree A) → All (λ q. Under p (key q)) t → New key p.x t
  under_new p t h = all_map (λ q u. u.apart) t h

  -- what stands over a tree beats its top
  pub tops_of : (p : Pair) (t : Tree A) → All (λ q. Under p (key q)) t → Tops key p t
  tops_of p none u = free
  tops_of p (fork i q l r) u = over u.0.beaten
