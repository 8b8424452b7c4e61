-- Taking back, slots included: what was put in is taken out, what was taken out is put in. It assumes a well-formed tree, and of what is put in
-- that its x lies in the stripe and is new.
use Prim.Native.Nat.{ℕ}
use mathlib.Core.Path.{◌≡◌}
use Rattle.kinds.specs.declared.Pair.{Pair}
use Rattle.stripes.specs.Stripe.{Stripe, In, left_part, right_part}
use Rattle.trees.specs.Tree.{Tree, fork, All, Mem, Tops, Under, Well}
use Rattle.trees.specs.Standing.{New}
use Rattle.trees.specs.Changes.{go_down, take_out}
use Rattle.kinds.proofs.Order.{beats_asym}
use Rattle.trees.proofs.Trees.{tops_of}
use Rattle.trees.proofs.GoDown.{swap, keep, Down, put, go_left, go_right, down_view, down_value}
use Rattle.trees.proofs.TakeOut.{Filled, last, from_left, from_right, Taken, hit, out_left, out_right, all_taken, taken_view, taken_value}

module _ {A : Type 0} (key : A → Pair) where
  -- q stands at the top
  pub data Topped (q : A) : Tree A → Type 0 where
    topped : {i : ℕ} {l r : Tree A} → Topped q (fork i q l r)

  -- what beats all of a tree goes to its top
  down_topped : {f : ℕ} {s : Stripe} {q : A} {t t' : Tree A} → Down key f q s t t' → All (λ v. Under (key q) (key v)) t → Topped q t'
  down_topped put u = topped
  down_topped (go_left (swap b) j d) u = topped
  down_topped (go_left (keep b) j d) u = absurd (beats_asym b u.0.beaten)
  down_topped (go_right (swap b) j d) u = topped
  down_topped (go_right (keep b) j d) u = absurd (beats_asym b u.0.beaten)

  raise_left : {i k : ℕ} {p q : A} {l r t : Tree A} → Topped q t → Tops key (key q) r → Filled key t l k → Filled key (fork i p t r) (fork i q l r) k
  raise_left topped h u = from_left h u

  raise_right : {i k : ℕ} {p q : A} {l r t : Tree A} → Topped q t → Tops key (key q) l → Filled key t r k → Filled key (fork i p l t) (fork i q l r) k
  raise_right topped h u = from_right h u

  module _ {f : ℕ} where
    down_filled : {s : Stripe} {q : A} {t t' : Tree A} → Down key f q s t t' → All (λ v. Under (key q) (key v)) t → Well key s t → Filled key t' t f
    down_filled put u w = last
    down_filled (go_left (swap b) j d) u w =
        raise_left (down_topped d w.over_left) (tops_of key _ _ w.over_right) (down_filled d w.over_left w.left)
    down_filled (go_left (keep b) j d) u w = absurd (beats_asym b u.0.beaten)
    down_filled (go_right (swap b) j d) u w =
        raise_right (down_topped d w.over_right) (tops_of key _ _ w.over_left) (down_filled d w.over_right w.right)
    down_filled (go_right (keep b) j d) u w = absurd (beats_asym b u.0.beaten)

    pub down_taken : {s : Stripe} {p : A} {t t' : Tree A} → Down key f p s t t' → Well key s t → New key (key p).x t → Taken key p s t' t f
    down_taken put w e = hit last
    down_taken (go_left (swap b) j d) w e =
        hit (raise_left (down_topped d w.over_left) (tops_of key _ _ w.over_right) (down_filled d w.over_left w.left))
    down_taken (go_left (keep b) j d) w e = out_left e.0 j (down_taken d w.left e.1)
    down_taken (go_right (swap b) j d) w e =
        hit (raise_right (down_topped d w.over_right) (tops_of key _ _ w.over_left) (down_filled d w.over_right w.right))
    down_taken (go_right (keep b) j d) w e = out_right e.0 j (down_taken d w.right e.2)

  filled_down : {s : Stripe} {i k : ℕ} {p : A} {l r t : Tree A} → Filled key (fork i p l r) t k → Well key s (fork i p l r) → Down key k p s t (fork i p l r)
  filled_down {s = s} last w = put
  filled_down {s = s} (from_left o u) w = go_left (swap w.over_left.0.beaten) w.left.inside.to (filled_down {s = left_part s} u w.left)
  filled_down {s = s} (from_right o u) w = go_right (swap w.over_right.0.beaten) w.right.inside.from (filled_down {s = right_part s} u w.right)

  pub taken_down : {p : A} {s : Stripe} {k : ℕ} {t t' : Tree A} → Taken key p s t t' k → Well key s t → Down key k p s t' t
  taken_down (hit u) w = filled_down u w
  taken_down (out_left e b d) w = go_left (keep (all_taken key _ d w.over_left).0.beaten) b (taken_down d w.left)
  taken_down (out_right e b d) w = go_right (keep (all_taken key _ d w.over_right).0.beaten) b (taken_down d w.right)

  -- law: taking out what went down gives the tree and the slot back
  pub put_back : (f : ℕ) (p : A) (s : Stripe) (t : Tree A) → Well key s t → In s (key p).x → New key (key p).x t
      → take_out key (key p).x s (go_down key f p s t) ≡ record { tree = t; slot = f }
  put_back f p s t w i e = taken_value key (down_taken (down_view key f p s t w i e) w e)

  -- law: what was taken out goes down, at the slot given up, to the tree as it was
  pub back_down : (p : A) (s : Stripe) (t : Tree A) → Well key s t → Mem p t
      → go_down key (take_out key (key p).x s t).slot p s (take_out key (key p).x s t).tree ≡ t
  back_down p s t w m = down_value key _ (taken_down (taken_view key p s t w m) w)
