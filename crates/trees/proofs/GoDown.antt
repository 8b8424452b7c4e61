-- A pair that goes down: the tree stays well formed and has one member more. It assumes a well-formed tree, and an x that lies in the stripe and
-- is new. `Down` is the graph of `go_down`; every law is an induction over it, with no test in it.
use Prim.Native.Nat.{ℕ, ◌≤◌, ◌<◌}
use mathlib.Core.Path.{◌≡◌, refl, sym, ap, subst}
use mathlib.Core.Logic.{◌≢◌, ◌↔◌, ◌⊎◌, inl, inr, ⊎_elim}
use mathlib.Core.Bool.{Bool, true, false, cond}
use native.Mathlib.Omega.{arith}
use lib.Dec.{ltb}
use borrow.Author.Tests.{ltb-true, ltb-false, lt-ltb, le-ltb}
use Rattle.kinds.specs.declared.Pair.{Pair}
use Rattle.kinds.specs.Pairs.{Beats, beats}
use Rattle.stripes.specs.Stripe.{Stripe, In, middle, left_part, right_part}
use Rattle.trees.specs.Tree.{Tree, none, fork, All, Mem, Under, WellFork, Well}
use Rattle.trees.specs.Standing.{New}
use Rattle.trees.specs.Changes.{go_down}
use Rattle.kinds.proofs.Tests.{on}
use Rattle.kinds.proofs.Order.{beats_true, true_beats, false_beats, beats_false, beats_trans}
use Rattle.trees.proofs.Trees.{all_map, all_and, all_at, all_mem, under_new}

module _ {A : Type 0} (key : A → Pair) where
  -- of p and q, the first stays and the second goes on
  pub data Sorted (p q : A) : A → A → Type 0 where
    swap : Beats (key p) (key q) → Sorted p q p q
    keep : Beats (key q) (key p) → Sorted p q q p

  pub sorted : (p q : A) → (key p).x ≢ (key q).x → Sorted p q (cond (beats (key p) (key q)) p q) (cond (beats (key p) (key q)) q p)
  sorted p q ne = on (beats (key p) (key q)) (λ t. rw t (swap (beats_true (key p) (key q) t))) (λ t. rw t (keep (beats_false (key p) (key q) ne t)))

  -- p goes down from a tree to a tree, and slot f is taken
  pub data Down (f : ℕ) : A → Stripe → Tree A → Tree A → Type 0 where
    put : {p : A} {s : Stripe} → Down f p s none (fork f p none none)
    go_left : {p q w z : A} {s : Stripe} {i : ℕ} {l r t : Tree A} → Sorted p q w z → (key z).x < middle s
        → Down f z (left_part s) l t → Down f p s (fork i q l r) (fork i w t r)
    go_right : {p q w z : A} {s : Stripe} {i : ℕ} {l r t : Tree A} → Sorted p q w z → middle s ≤ (key z).x
        → Down f z (right_part s) r t → Down f p s (fork i q l r) (fork i w l t)

  -- what is known of the one that stays, w, and of the one that goes on, z
  pub record StepDown (s : Stripe) (w z : A) (l r : Tree A) : Type 0 where
    pub under : Under (key w) (key z)
    pub over_left : All (λ q. Under (key w) (key q)) l
    pub over_right : All (λ q. Under (key w) (key q)) r
    pub stays : In s (key w).x
    pub goes : In s (key z).x
    pub new_left : New key (key z).x l
    pub new_right : New key (key z).x r

  pub step : {s : Stripe} {p q w z : A} {l r : Tree A} {L R : Type 0} → Sorted p q w z → WellFork key s q l r L R
      → In s (key p).x → (key p).x ≢ (key q).x → New key (key p).x l → New key (key p).x r → StepDown s w z l r
  step {q = q} {l = l} {r = r} (swap b) f i e el er = record {
    under = record { beaten = b; apart = e };
    over_left = all_and (λ _ u v. record { beaten = beats_trans b u.beaten; apart = v }) l f.over_left el;
    over_right = all_and (λ _ u v. record { beaten = beats_trans b u.beaten; apart = v }) r f.over_right er;
    stays = i;
    goes = f.inside;
    new_left = under_new key (key q) l f.over_left;
    new_right = under_new key (key q) r f.over_right;
  }
  step (keep b) f i e el er = record {
    under = record { beaten = b; apart = λ d. e (sym d) };
    over_left = f.over_left;
    over_right = f.over_right;
    stays = f.inside;
    goes = i;
    new_left = el;
    new_right = er;
  }

  module _ (f : ℕ) where
    -- `go_down` has this graph
    pub down_view : (p : A) (s : Stripe) (t : Tree A) → Well key s t → In s (key p).x → New key (key p).x t → Down f p s t (go_down key f p s t)
    unfolding go_down
    down_view p s none w i e = put
    down_view p s (fork a q l r) w i e =
        go (λ z. down_view z (left_part s) l w.left) (λ z. down_view z (right_part s) r w.right) _ _ (sorted p q e.0) _ refl
      where
        go : ((z : A) → In (left_part s) (key z).x → New key (key z).x l → Down f z (left_part s) l (go_down key f z (left_part s) l))
            → ((z : A) → In (right_part s) (key z).x → New key (key z).x r → Down f z (right_part s) r (go_down key f z (right_part s) r))
            → (u z : A) → Sorted p q u z → (c : Bool) → ltb (key z).x (middle s) ≡ c
            → Down f p s (fork a q l r) (cond c (fork a u (go_down key f z (left_part s) l) r) (fork a u l (go_down key f z (right_part s) r)))
        go L R u z o true h =
            let k = step o w i e.0 e.1 e.2 in
            let m = ltb-true _ _ h in
            let g = k.goes in
            go_left o m (L z (omega arith) k.new_left)
        go L R u z o false h =
            let k = step o w i e.0 e.1 e.2 in
            let m = ltb-false _ _ h in
            let g = k.goes in
            go_right o m (R z (omega arith) k.new_right)

    -- the graph determines the value
    pub down_value : {s : Stripe} {p : A} {t t' : Tree A} → Down f p s t t' → go_down key f p s t ≡ t'
    unfolding go_down
    down_value put = refl
    down_value (go_left {p = p} {q = q} {s = s} {i = i} {r = r} (swap b) j d) =
        rw (true_beats b, lt-ltb (key q).x (middle s) j) (ap (λ t. fork i p t r) (down_value d))
    down_value (go_left {p = p} {q = q} {s = s} {i = i} {r = r} (keep b) j d) =
        rw (false_beats b, lt-ltb (key p).x (middle s) j) (ap (λ t. fork i q t r) (down_value d))
    down_value (go_right {p = p} {q = q} {s = s} {i = i} {l = l} (swap b) j d) =
        rw (true_beats b, le-ltb (key q).x (middle s) j) (ap (λ t. fork i p l t) (down_value d))
    down_value (go_right {p = p} {q = q} {s = s} {i = i} {l = l} (keep b) j d) =
        rw (false_beats b, le-ltb (key p).x (middle s) j) (ap (λ t. fork i q l t) (down_value d))

    -- what holds of all members afterwards is what holds of p and of all members before
    pub all_down : (P : A → Type 0) {p : A} {s : Stripe} {t t' : Tree A} → Down f p s t t' → P p → All P t → All P t'
    all_down P put h k = (h, tt, tt)
    all_down P (go_left (swap b) j d) h k = (h, all_down P d k.0 k.1, k.2)
    all_down P (go_left (keep b) j d) h k = (k.0, all_down P d h k.1, k.2)
    all_down P (go_right (swap b) j d) h k = (h, k.1, all_down P d k.0 k.2)
    all_down P (go_right (keep b) j d) h k = (k.0, k.1, all_down P d h k.2)

    pub down_all : (P : A → Type 0) {p : A} {s : Stripe} {t t' : Tree A} → Down f p s t t' → All P t' → P p × All P t
    down_all P put k = (k.0, tt)
    down_all P (go_left (swap b) j d) k = let h = down_all P d k.1 in (k.0, (h.0, h.1, k.2))
    down_all P (go_left (keep b) j d) k = let h = down_all P d k.1 in (h.0, (k.0, h.1, k.2))
    down_all P (go_right (swap b) j d) k = let h = down_all P d k.2 in (k.0, (h.0, k.1, h.1))
    down_all P (go_right (keep b) j d) k = let h = down_all P d k.2 in (h.0, (k.0, k.1, h.1))

    pub down_well : {p : A} {s : Stripe} {t t' : Tree A} → Down f p s t t' → Well key s t → In s (key p).x → New key (key p).x t → Well key s t'
    down_well put w i e = record { inside = i; over_left = tt; over_right = tt; left = tt; right = tt }
    down_well (go_left o j d) w i e = let k = step o w i e.0 e.1 e.2 in let g = k.goes in
        record {
          inside = k.stays;
          over_left = all_down _ d k.under k.over_left;
          over_right = k.over_right;
          left = down_well d w.left (omega arith) k.new_left;
          right = w.right;
        }
    down_well (go_right o j d) w i e = let k = step o w i e.0 e.1 e.2 in let g = k.goes in
        record {
          inside = k.stays;
          over_left = k.over_left;
          over_right = all_down _ d k.under k.over_right;
          left = w.left;
          right = down_well d w.right (omega arith) k.new_right;
        }

  module _ (f : ℕ) (p : A) (s : Stripe) (t : Tree A) (w : Well key s t) (i : In s (key p).x) (e : New key (key p).x t) where
    -- law: going down keeps a tree well formed
    pub go_down_well : Well key s (go_down key f p s t)
    go_down_well = down_well f (down_view f p s t w i e) w i e

    -- law: its members are those before, and p
    pub go_down_mem : (q : A) → Mem q (go_down key f p s t) ↔ ((q ≡ p) ⊎ Mem q t)
    go_down_mem q =
        let v = down_view f p s t w i e in
        let h = down_all f (λ r. Mem r (go_down key f p s t)) v (all_mem (go_down key f p s t)) in (
          λ m. all_at _ (all_down f (λ r. (r ≡ p) ⊎ Mem r t) v (inl refl) (all_map (λ _ m. inr m) t (all_mem t))) m,
          ⊎_elim (λ d. subst (λ r. Mem r (go_down key f p s t)) (sym d) h.0) (all_at _ h.1),
        )
