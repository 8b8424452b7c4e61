-- Smallest y and a listing make no more visits than the tree has slots. Nothing is assumed of the tree.
use Prim.Native.Nat.{ℕ, zero, suc, ◌+◌, ◌≤◌}
use mathlib.Core.Path.{◌≡◌, refl}
use mathlib.Core.Bool.{Bool, true, false, cond}
use mathlib.Core.List.{[]}
use native.Mathlib.Omega.{arith}
use lib.Dec.{ltb, leb}
use Rattle.kinds.specs.declared.Pair.{Pair}
use Rattle.kinds.specs.declared.Limits.{Limits}
use Rattle.kinds.specs.declared.Walked.{Walked}
use Rattle.plain.specs.Plain.{in_range, matches}
use Rattle.stripes.specs.Stripe.{Stripe, middle, left_part, right_part}
use Rattle.trees.specs.Tree.{Tree, none, fork, size}
use Rattle.walks.specs.Walks.{ask, smallest_y, ListWalked, list_walked, and_then, list_own, listing}
use Rattle.kinds.proofs.Tests.{on}

-- a walk, and a listing, with so many visits at most
pub record Upto (k : ℕ) (w : Walked) : Type 0 where
  pub visits : w.visits ≤ k

record ListUpto (k : ℕ) (a : ListWalked) : Type 0 where
  visits : a.visits ≤ k

pub upto_ask : (c : Bool) (w : Walked) {k : ℕ} → (c ≡ true → Upto k w) → Upto k (ask c w)
upto_ask true w h = h refl
upto_ask false w h = record { visits = omega arith }

upto_then : (a b : ListWalked) {j k : ℕ} → ListUpto j a → ListUpto k b → ListUpto (j + k) (and_then a b)
upto_then a b h e = on a.more (λ t. rw t (record { visits = omega arith })) (λ t. rw t (record { visits = omega arith }))

upto_more : {a : ListWalked} {j k : ℕ} → j ≤ k → ListUpto j a → ListUpto k a
upto_more h e = record { visits = omega arith }

upto_asked : (c : Bool) (a : ListWalked) {k : ℕ} → ListUpto k a → ListUpto k (cond c a (list_walked [] false 0))
upto_asked true a h = h
upto_asked false a h = record { visits = omega arith }

upto_own : (c : Bool) (room : ℕ) (p : Pair) → ListUpto 1 (list_own c room p)
upto_own false room p = record { visits = omega arith }
upto_own true zero p = record { visits = omega arith }
upto_own true (suc room) p = record { visits = omega arith }

smallest_y_upto : (x0 x1 : ℕ) (s : Stripe) (t : Tree Pair) → Upto (size t) (smallest_y x0 x1 s t)
unfolding smallest_y
smallest_y_upto x0 x1 s none = record { visits = omega arith }
smallest_y_upto x0 x1 s (fork i p l r) =
    let a = upto_ask (ltb x0 (middle s)) _ (λ _. smallest_y_upto x0 x1 (left_part s) l) in
    let b = upto_ask (leb (middle s) x1) _ (λ _. smallest_y_upto x0 x1 (right_part s) r) in
    on (in_range x0 x1 p) (λ e. rw e (record { visits = omega arith })) (λ e. rw e (record { visits = omega arith }))

listing_upto : (q : Limits) (s : Stripe) (t : Tree Pair) (room : ℕ) → ListUpto (size t) (listing q s t room)
unfolding listing
listing_upto q s none room = record { visits = omega arith }
listing_upto q s (fork i p l r) room = on (ltb q.y1 p.y) (λ e. rw e (record { visits = omega arith }))
    (λ e. rw e (
    upto_more (omega arith) (upto_then _ _ (upto_own (matches q p) room p) (upto_then _ _
    (upto_asked (ltb q.x0 (middle s)) _ (listing_upto q (left_part s) l _)) (upto_asked (leb (middle s) q.x1) _ (listing_upto q (right_part s) r _))))))

module _ (q : Limits) (s : Stripe) (t : Tree Pair) where
  -- law: a listing into any room
  pub listing_size : (room : ℕ) → (listing q s t room).visits ≤ size t
  listing_size room = (listing_upto q s t room).visits

-- law: the smallest y
pub smallest_y_size : (x0 x1 : ℕ) (s : Stripe) (t : Tree Pair) → (smallest_y x0 x1 s t).visits ≤ size t
smallest_y_size x0 x1 s t = (smallest_y_upto x0 x1 s t).visits
