-- Which slots a tree has: a pair that goes down adds the one given, and no slot then stands twice. That assumes that none stood twice before,
-- and that the one given did not stand there.
use Prim.Native.Nat.{ℕ, ◌+◌}
use mathlib.Core.Path.{◌≡◌, refl, sym, subst}
use mathlib.Core.Logic.{◌≢◌, ◌⊎◌, inl, inr, ⊎_elim}
use native.Mathlib.Omega.{arith}
use lib.Dec.{eqb}
use borrow.Author.Tests.{eqb-true, eqb-false}
use Rattle.kinds.specs.declared.Pair.{Pair}
use Rattle.stripes.specs.Stripe.{Stripe}
use Rattle.trees.specs.Tree.{Tree, none, fork, size}
use Rattle.trees.specs.Standing.{Stands, at_top, at_left, at_right, Distinct}
use Rattle.kinds.proofs.Tests.{on}
use Rattle.trees.proofs.GoDown.{Down, put, go_left, go_right}

module _ {A : Type 0} where
  -- it is, or it is not
  stands_fork : {u s : ℕ} {p : A} {l r : Tree A} → (u ≢ s) → Stands u l ⊎ (Stands u l → ⊥) → Stands u r ⊎ (Stands u r → ⊥)
      → Stands u (fork s p l r) ⊎ (Stands u (fork s p l r) → ⊥)
  stands_fork n (inl a) b = inl (at_left a)
  stands_fork n (inr a) (inl b) = inl (at_right b)
  stands_fork {u} {s} {p} {l} {r} n (inr a) (inr b) = inr (λ m. out m)
    where
      out : Stands u (fork s p l r) → ⊥
      out (at_top e) = n e
      out (at_left m) = a m
      out (at_right m) = b m

  pub stands : (u : ℕ) (t : Tree A) → Stands u t ⊎ (Stands u t → ⊥)
  stands u none = inr (λ m. elim m [ ])
  stands u (fork s p l r) =
      let L = stands u l in
      let R = stands u r in
      on (eqb u s) (λ e. inl (at_top (eqb-true _ _ e))) (λ e. stands_fork (eqb-false _ _ e) L R)

module _ {A : Type 0} (key : A → Pair) {f : ℕ} where
  -- the slots afterwards are those before, and f
  pub down_stands : {u : ℕ} {p : A} {s : Stripe} {t t' : Tree A} → Down key f p s t t' → Stands u t' → (u ≡ f) ⊎ Stands u t
  down_stands put (at_top e) = inl e
  down_stands put (at_left m) = elim m [ ]
  down_stands put (at_right m) = elim m [ ]
  down_stands (go_left o j d) (at_top e) = inr (at_top e)
  down_stands (go_left o j d) (at_left m) = ⊎_elim (λ e. inl e) (λ k. inr (at_left k)) (down_stands d m)
  down_stands (go_left o j d) (at_right m) = inr (at_right m)
  down_stands (go_right o j d) (at_top e) = inr (at_top e)
  down_stands (go_right o j d) (at_left m) = inr (at_left m)
  down_stands (go_right o j d) (at_right m) = ⊎_elim (λ e. inl e) (λ k. inr (at_right k)) (down_stands d m)

  pub stands_new : {p : A} {s : Stripe} {t t' : Tree A} → Down key f p s t t' → Stands f t'
  stands_new put = at_top refl
  stands_new (go_left o j d) = at_left (stands_new d)
  stands_new (go_right o j d) = at_right (stands_new d)

  pub stands_down : {u : ℕ} {p : A} {s : Stripe} {t t' : Tree A} → Down key f p s t t' → Stands u t → Stands u t'
  stands_down put m = elim m [ ]
  stands_down (go_left o j d) (at_top e) = at_top e
  stands_down (go_left o j d) (at_left m) = at_left (stands_down d m)
  stands_down (go_left o j d) (at_right m) = at_right m
  stands_down (go_right o j d) (at_top e) = at_top e
  stands_down (go_right o j d) (at_left m) = at_left m
  stands_down (go_right o j d) (at_right m) = at_right (stands_down d m)

  -- they differ afterwards exactly where they differ before, and f is none of them
  pub down_distinct : {p : A} {s : Stripe} {t t' : Tree A} → Down key f p s t t' → Distinct t → (Stands f t → ⊥) → Distinct t'
  down_distinct put h n = record { not_left = λ m. elim m [ ]; not_right = λ m. elim m [ ]; across = λ u m k. elim m [ ]; left = tt; right = tt }
  down_distinct (go_left {r = r} o j d) h n = record {
    not_left = λ m. ⊎_elim (λ e. n (at_top (sym e))) (λ k. h.not_left k) (down_stands d m);
    not_right = h.not_right;
    across = λ u m k. ⊎_elim (λ e. n (at_right (subst (λ v. Stands v r) e k))) (λ a. h.across u a k) (down_stands d m);
    left = down_distinct d h.left (λ m. n (at_left m));
    right = h.right;
  }
  down_distinct (go_right {l = l} o j d) h n = record {
    not_left = h.not_left;
    not_right = λ m. ⊎_elim (λ e. n (at_top (sym e))) (λ k. h.not_right k) (down_stands d m);
    across = λ u k m. ⊎_elim (λ e. n (at_left (subst (λ v. Stands v l) e k))) (λ a. h.across u k a) (down_stands d m);
    left = h.left;
    right = down_distinct d h.right (λ m. n (at_right m));
  }

  pub distinct_down : {p : A} {s : Stripe} {t t' : Tree A} → Down key f p s t t' → Distinct t' → Distinct t
  distinct_down put h = tt
  distinct_down (go_left o j d) h = record {
    not_left = λ m. h.not_left (stands_down d m);
    not_right = h.not_right;
    across = λ u m k. h.across u (stands_down d m) k;
    left = distinct_down d h.left;
    right = h.right;
  }
  distinct_down (go_right o j d) h = record {
    not_left = h.not_left;
    not_right = λ m. h.not_right (stands_down d m);
    across = λ u m k. h.across u m (stands_down d k);
    left = h.left;
    right = distinct_down d h.right;
  }

  pub new_out : {p : A} {s : Stripe} {t t' : Tree A} → Down key f p s t t' → Distinct t' → Stands f t → ⊥
  new_out put h m = elim m [ ]
  new_out (go_left {t = t} o j d) h (at_top e) = h.not_left (subst (λ v. Stands v t) e (stands_new d))
  new_out (go_left o j d) h (at_left m) = new_out d h.left m
  new_out (go_left o j d) h (at_right m) = h.across f (stands_new d) m
  new_out (go_right {t = t} o j d) h (at_top e) = h.not_right (subst (λ v. Stands v t) e (stands_new d))
  new_out (go_right o j d) h (at_left m) = h.across f m (stands_new d)
  new_out (go_right o j d) h (at_right m) = new_out d h.right m

  -- there is one more
  pub down_size : {p : A} {s : Stripe} {t t' : Tree A} → Down key f p s t t' → size t' ≡ size t + 1
  down_size put = refl
  down_size (go_left o j d) = let e = down_size d in omega arith
  down_size (go_right o j d) = let e = down_size d in omega arith
