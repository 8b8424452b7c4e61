-- A tree is well formed exactly where the clauses of a sound pool hold of it (that its x differ is in Members, its levels in Levels). Nothing
-- else is assumed.
use Prim.Native.Nat.{ℕ}
use Rattle.kinds.specs.declared.Pair.{Pair}
use Rattle.stripes.specs.Stripe.{Stripe, In, left_part, right_part}
use Rattle.trees.specs.Tree.{Tree, none, fork, members, Tops, InStripes, Ordered, xs, Well}
use Rattle.trees.specs.Standing.{New}
use Rattle.plain.specs.Plain.{Differs, Apart}
use Rattle.trees.proofs.Trees.{all_and, tops_of}
use Rattle.plain.proofs.Apart.{differs_split, apart_split}
use Rattle.trees.proofs.TakeOut.{tops_all}

module _ {A : Type 0} (key : A → Pair) where
  new_of : (x : ℕ) (t : Tree A) → Differs x (xs key t) → New key x t
  new_of x none h = tt
  new_of x (fork i p l r) h = let k = differs_split (λ p. (key p).x) x (members l) (members r) h.1 in (h.0, new_of x l k.0, new_of x r k.1)

  -- a slot's own tests, with its sons' trees well formed, make a well-formed tree
  pub well_fork : (s : Stripe) (i : ℕ) (p : A) (l r : Tree A) → In s (key p).x → Tops key (key p) l → Tops key (key p) r
      → New key (key p).x l → New key (key p).x r → Well key (left_part s) l → Well key (right_part s) r → Well key s (fork i p l r)
  well_fork s i p l r h tl tr nl nr f g = record {
    inside = h;
    over_left = all_and (λ q b e. record { beaten = b; apart = e }) l (tops_all key (key p) (left_part s) l tl f) nl;
    over_right = all_and (λ q b e. record { beaten = b; apart = e }) r (tops_all key (key p) (right_part s) r tr g) nr;
    left = f;
    right = g;
  }

  pub well_of : (s : Stripe) (t : Tree A) → InStripes key s t → Ordered key t → Apart (xs key t) → Well key s t
  well_of s none h o a = tt
  well_of s (fork i p l r) h o a =
      let d = differs_split (λ p. (key p).x) (key p).x (members l) (members r) a.0 in
      let e = apart_split (λ p. (key p).x) (members l) (members r) a.1 in
      well_fork s i p l r h.0 o.0.0 o.0.1 (new_of (key p).x l d.0) (new_of (key p).x r d.1)
      (well_of (left_part s) l h.1 o.1 e.0) (well_of (right_part s) r h.2 o.2 e.1)

  pub stripes_of : (s : Stripe) (t : Tree A) → Well key s t → InStripes key s t
  stripes_of s none w = tt
  stripes_of s (fork i p l r) w = (w.inside, stripes_of (left_part s) l w.left, stripes_of (right_part s) r w.right)

  pub ordered_of : (s : Stripe) (t : Tree A) → Well key s t → Ordered key t
  ordered_of s none w = tt
  ordered_of s (fork i p l r) w =
      ((tops_of key (key p) l w.over_left, tops_of key (key p) r w.over_right), ordered_of (left_part s) l w.left, ordered_of (right_part s) r w.right)
