-- A hole that is filled: the tree stays well formed and has one member less. It assumes a well-formed tree that has the pair. `Filled` and
-- `Taken` are the graphs of `fill` and `take_out`; every law is an induction over them.
use Prim.Native.Nat.{ℕ, ◌≤◌, ◌<◌}
use mathlib.Core.Path.{◌≡◌, refl, sym, ap, subst}
use mathlib.Core.Bool.{Bool, true, false, cond}
use mathlib.Core.Logic.{◌≢◌, ◌↔◌, ◌⊎◌, inl, inr, ⊎_elim}
use native.Mathlib.Omega.{arith}
use borrow.Author.Tests.{eq-eqb, ne_eqb, lt-ltb, le-ltb}
use Rattle.kinds.specs.declared.Pair.{Pair}
use Rattle.kinds.specs.Pairs.{Beats}
use Rattle.stripes.specs.Stripe.{Stripe, middle, left_part, right_part}
use Rattle.trees.specs.Tree.{Tree, none, fork, All, Mem, here, in_left, in_right, Tops, free, over, Under, Well}
use Rattle.trees.specs.Standing.{New}
use Rattle.trees.specs.Changes.{Cut, left_son, right_son, move_up, fill, take_out}
use Rattle.kinds.proofs.Order.{beats_true, true_beats, false_beats, beats_false, beats_trans}
use Rattle.trees.proofs.Trees.{all_map, all_and, all_at, all_mem, well_in, under_new}

module _ {A : Type 0} (key : A → Pair) where
  -- the hole at the top of a tree is filled, and slot k is given up
  pub data Filled : Tree A → Tree A → ℕ → Type 0 where
    last : {i : ℕ} {p : A} → Filled (fork i p none none) none i
    from_left : {i a k : ℕ} {p q : A} {l₁ l₂ r t : Tree A} → Tops key (key q) r → Filled (fork a q l₁ l₂) t k
        → Filled (fork i p (fork a q l₁ l₂) r) (fork i q t r) k
    from_right : {i a k : ℕ} {p q : A} {l r₁ r₂ t : Tree A} → Tops key (key q) l → Filled (fork a q r₁ r₂) t k
        → Filled (fork i p l (fork a q r₁ r₂)) (fork i q l t) k

  -- p is taken out
  pub data Taken (p : A) : Stripe → Tree A → Tree A → ℕ → Type 0 where
    hit : {s : Stripe} {i k : ℕ} {l r t : Tree A} → Filled (fork i p l r) t k → Taken p s (fork i p l r) t k
    out_left : {s : Stripe} {i k : ℕ} {q : A} {l r t : Tree A} → (key p).x ≢ (key q).x → (key p).x < middle s → Taken p (left_part s) l t k
        → Taken p s (fork i q l r) (fork i q t r) k
    out_right : {s : Stripe} {i k : ℕ} {q : A} {l r t : Tree A} → (key p).x ≢ (key q).x → middle s ≤ (key p).x → Taken p (right_part s) r t k
        → Taken p s (fork i q l r) (fork i q l t) k

  -- what holds of all members
  module _ (P : A → Type 0) where
    pub all_filled : {i k : ℕ} {p : A} {l r t : Tree A} → Filled (fork i p l r) t k → All P l → All P r → All P t
    all_filled last h k = tt
    all_filled (from_left o u) h k = (h.0, all_filled u h.1 h.2, k)
    all_filled (from_right o u) h k = (k.0, h, all_filled u k.1 k.2)

    pub filled_all : {i k : ℕ} {p : A} {l r t : Tree A} → Filled (fork i p l r) t k → All P t → All P l × All P r
    filled_all last h = (tt, tt)
    filled_all (from_left o u) h = let k = filled_all u h.1 in ((h.0, k.0, k.1), h.2)
    filled_all (from_right o u) h = let k = filled_all u h.2 in (h.1, (h.0, k.0, k.1))

    pub all_taken : {p : A} {s : Stripe} {k : ℕ} {t t' : Tree A} → Taken p s t t' k → All P t → P p × All P t'
    all_taken (hit u) h = (h.0, all_filled u h.1 h.2)
    all_taken (out_left e b d) h = let k = all_taken d h.1 in (k.0, (h.0, k.1, h.2))
    all_taken (out_right e b d) h = let k = all_taken d h.2 in (k.0, (h.0, h.1, k.1))

    pub taken_all : {p : A} {s : Stripe} {k : ℕ} {t t' : Tree A} → Taken p s t t' k → P p → All P t' → All P t
    taken_all (hit u) h k = let a = filled_all u k in (h, a.0, a.1)
    taken_all (out_left e b d) h k = (k.0, taken_all d h k.1, k.2)
    taken_all (out_right e b d) h k = (k.0, k.1, taken_all d h k.2)

  -- a pair that beats the top beats all
  pub tops_all : (q : Pair) (s : Stripe) (t : Tree A) → Tops key q t → Well key s t → All (λ v. Beats q (key v)) t
  tops_all q s none o w = tt
  tops_all q s (fork i p l r) (over b) w =
      (b, all_map (λ _ u. beats_trans b u.beaten) l w.over_left, all_map (λ _ u. beats_trans b u.beaten) r w.over_right)

  -- a pair outside a tree's stripe that beats the tree's top may stand over the tree
  pub tops_under : (q : Pair) (s : Stripe) (t : Tree A) → Tops key q t → Well key s t → (q.x < s.lower) ⊎ (s.upper ≤ q.x)
      → All (λ v. Under q (key v)) t
  tops_under q s t o w (inl a) = all_and (λ v b i. record { beaten = b; apart = omega arith }) t (tops_all q s t o w) (well_in key s t w)
  tops_under q s t o w (inr a) = all_and (λ v b i. record { beaten = b; apart = omega arith }) t (tops_all q s t o w) (well_in key s t w)

  pub filled_well : (s : Stripe) {i k : ℕ} {p : A} {l r t : Tree A} → Filled (fork i p l r) t k → Well key s (fork i p l r) → Well key s t
  filled_well s last w = tt
  filled_well s (from_left {q = q} {r = r} o u) w =
      let g = w.left in
      let h = g.inside in
      let i = w.inside in
      record {
        inside = omega arith;
        over_left = all_filled (λ v. Under (key q) (key v)) u g.over_left g.over_right;
        over_right = tops_under (key q) (right_part s) r o w.right (inl h.to);
        left = filled_well (left_part s) u g;
        right = w.right;
      }
  filled_well s (from_right {q = q} {l = l} o u) w =
      let g = w.right in
      let h = g.inside in
      let i = w.inside in
      record {
        inside = omega arith;
        over_left = tops_under (key q) (left_part s) l o w.left (inr h.from);
        over_right = all_filled (λ v. Under (key q) (key v)) u g.over_left g.over_right;
        left = w.left;
        right = filled_well (right_part s) u g;
      }

  pub taken_well : {p : A} {s : Stripe} {k : ℕ} {t t' : Tree A} → Taken p s t t' k → Well key s t → Well key s t'
  taken_well (hit u) w = filled_well _ u w
  taken_well (out_left e b d) w = record {
    inside = w.inside;
    over_left = (all_taken _ d w.over_left).1;
    over_right = w.over_right;
    left = taken_well d w.left;
    right = w.right;
  }
  taken_well (out_right e b d) w = record {
    inside = w.inside;
    over_left = w.over_left;
    over_right = (all_taken _ d w.over_right).1;
    left = w.left;
    right = taken_well d w.right;
  }

  -- nothing that is left has p's x
  pub taken_new : {p : A} {s : Stripe} {k : ℕ} {t t' : Tree A} → Taken p s t t' k → Well key s t → New key (key p).x t'
  taken_new {p = p} (hit {l = l} {r = r} u) w = all_filled _ u (under_new key (key p) l w.over_left) (under_new key (key p) r w.over_right)
  taken_new (out_left {r = r} e b d) w = (e, taken_new d w.left, all_map (λ q i. omega arith) r (well_in key _ r w.right))
  taken_new (out_right {l = l} e b d) w = (e, all_map (λ q i. omega arith) l (well_in key _ l w.left), taken_new d w.right)

  -- `fill` and `take_out` have these graphs
  abbrev pub HoleFilled : Tree A → Type 0
  HoleFilled none = Unit {0}
  HoleFilled (fork i p l r) = Filled (fork i p l r) (fill key (fork i p l r)).tree (fill key (fork i p l r)).slot

  -- over two sons the hole is filled from the one that a test picks, where that one beats the other
  filled_two : {i a b : ℕ} {p q v : A} {l r t u : Tree A} {x y : Cut A} (z : Bool)
      → (z ≡ false → Beats (key v) (key q)) → (z ≡ true → Beats (key q) (key v))
      → Filled (fork a q l r) x.tree x.slot → Filled (fork b v t u) y.tree y.slot
      → let c = move_up i (fork a q l r) (fork b v t u) x y (cond z (left_son q) (right_son v)) in
      Filled (fork i p (fork a q l r) (fork b v t u)) c.tree c.slot
  filled_two true right left L R = from_left (over (left refl)) L
  filled_two false right left L R = from_right (over (right refl)) R

  fills_fork : (s : Stripe) (i : ℕ) (p : A) (l r : Tree A) → Well key s (fork i p l r) → HoleFilled l → HoleFilled r → HoleFilled (fork i p l r)
  unfolding fill
  fills_fork s i p none none w L R = last
  fills_fork s i p none (fork b v t u) w L R = from_right free R
  fills_fork s i p (fork a q l r) none w L R = from_left free L
  fills_fork s i p (fork a q l r) (fork b v t u) w L R =
      let m = w.left.inside in
      let n = w.right.inside in
      let d : (key q).x ≢ (key v).x = omega arith in
      filled_two _ (beats_false (key q) (key v) d) (beats_true (key q) (key v)) L R

  pub hole_filled : (s : Stripe) (t : Tree A) → Well key s t → HoleFilled t
  hole_filled s none w = tt
  hole_filled s (fork i p l r) w = fills_fork s i p l r w (hole_filled (left_part s) l w.left) (hole_filled (right_part s) r w.right)

  pub taken_view : (p : A) (s : Stripe) (t : Tree A) → Well key s t → Mem p t
      → Taken p s t (take_out key (key p).x s t).tree (take_out key (key p).x s t).slot
  unfolding take_out
  taken_view p s none w m = elim m [ ]
  taken_view p s (fork i q l r) w (here e) = rw (← e, eq-eqb (key p).x (key p).x refl) (hit (hole_filled s (fork i p l r) (rw e w)))
  taken_view p s (fork i q l r) w (in_left m) =
      let j = all_at _ (well_in key (left_part s) l w.left) m in
      let a = (all_at _ w.over_left m).apart in
      rw (ne_eqb (key q).x (key p).x a, lt-ltb (key p).x (middle s) j.to) (out_left (λ d. a (sym d)) j.to (taken_view p (left_part s) l w.left m))
  taken_view p s (fork i q l r) w (in_right m) =
      let j = all_at _ (well_in key (right_part s) r w.right) m in
      let a = (all_at _ w.over_right m).apart in
      rw (ne_eqb (key q).x (key p).x a, le-ltb (key p).x (middle s) j.from) (out_right (λ d. a (sym d)) j.from (taken_view p (right_part s) r w.right m))

  -- the graphs determine the values
  pub filled_value : {k : ℕ} {t t' : Tree A} → Filled t t' k → fill key t ≡ record { tree = t'; slot = k }
  unfolding fill
  filled_value last = refl
  filled_value (from_left {i = i} {q = q} {r = none} free u) = ap (λ c. record { tree = fork i q c.tree none; slot = c.slot }) (filled_value u)
  filled_value (from_left {i = i} {q = q} {r = r} (over b) u) =
      rw (true_beats b) (ap (λ c. record { tree = fork i q c.tree r; slot = c.slot }) (filled_value u))
  filled_value (from_right {i = i} {q = q} free u) = ap (λ c. record { tree = fork i q none c.tree; slot = c.slot }) (filled_value u)
  filled_value (from_right {i = i} {q = q} {l = l} (over b) u) =
      rw (false_beats b) (ap (λ c. record { tree = fork i q l c.tree; slot = c.slot }) (filled_value u))

  pub taken_value : {p : A} {s : Stripe} {k : ℕ} {t t' : Tree A} → Taken p s t t' k → take_out key (key p).x s t ≡ record { tree = t'; slot = k }
  unfolding take_out
  taken_value {p = p} (hit u) = rw (eq-eqb (key p).x (key p).x refl) (filled_value u)
  taken_value {p = p} (out_left {s = s} {i = i} {q = q} {r = r} e b d) =
      rw (ne_eqb (key q).x (key p).x (λ h. e (sym h)), lt-ltb (key p).x (middle s) b)
      (ap (λ c. record { tree = fork i q c.tree r; slot = c.slot }) (taken_value d))
  taken_value {p = p} (out_right {s = s} {i = i} {q = q} {l = l} e b d) =
      rw (ne_eqb (key q).x (key p).x (λ h. e (sym h)), le-ltb (key p).x (middle s) b)
      (ap (λ c. record { tree = fork i q l c.tree; slot = c.slot }) (taken_value d))

  module _ (p : A) (s : Stripe) (t : Tree A) (w : Well key s t) (m : Mem p t) where
    -- law: taking out keeps a tree well formed
    pub take_out_well : Well key s (take_out key (key p).x s t).tree
    take_out_well = taken_well (taken_view p s t w m) w

    -- law: the members before are p, and those afterwards
    pub take_out_mem : (q : A) → Mem q t ↔ ((q ≡ p) ⊎ Mem q (take_out key (key p).x s t).tree)
    take_out_mem q =
        let d = taken_view p s t w m in
        let t' = (take_out key (key p).x s t).tree in
        let h = all_taken (λ r. Mem r t) d (all_mem t) in (
          all_at _ (taken_all (λ r. (r ≡ p) ⊎ Mem r t') d (inl refl) (all_map (λ _ m. inr m) t' (all_mem t'))),
          ⊎_elim (λ e. subst (λ r. Mem r t) (sym e) h.0) (all_at _ h.1),
        )

    -- law: its x is gone
    pub take_out_new : New key (key p).x (take_out key (key p).x s t).tree
    take_out_new = taken_new (taken_view p s t w m) w
