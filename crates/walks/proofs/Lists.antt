-- A listing lists the matches in the members' order, as far as there is room, and says whether there are more. It assumes a well-formed tree.
use Prim.Native.Nat.{ℕ, zero, suc, ◌+◌, ◌-◌, ◌≤◌, ◌<◌}
use mathlib.Core.Path.{◌≡◌, refl, sym, ap, ◌∙◌}
use mathlib.Core.Bool.{Bool, true, false, cond}
use mathlib.Core.List.{List, [], ◌∷◌, ◌++◌}
use native.Mathlib.Omega.{arith}
use lib.Dec.{ltb, leb}
use lib.ListN.{length, take, length-append}
use lib.Seq.{take-append-le, take-append-add, take_all, take-nil}
use borrow.Author.Tests.{ltb-true, ltb-false, lt-ltb, le-ltb}
use Rattle.kinds.specs.declared.Pair.{Pair}
use Rattle.kinds.specs.declared.Limits.{Limits}
use Rattle.plain.specs.Plain.{matches, those}
use Rattle.stripes.specs.Stripe.{Stripe, middle, left_part, right_part}
use Rattle.trees.specs.Tree.{Tree, none, fork, members, All, Well, itself}
use Rattle.walks.specs.Walks.{ListWalked, list_walked, and_then, list_own, listing}
use Rattle.kinds.proofs.Tests.{on}
use Rattle.plain.proofs.Those.{those_append}
use Rattle.walks.proofs.Outside.{left_none, right_none, all_none}

module _ (ok : Pair → Bool) where
  those_none : (t : Tree Pair) → All (λ p. ok p ≡ false) t → those ok (members t) ≡ []
  those_none none h = refl
  those_none (fork i p l r) h = rw (h.0, those_append ok (members l) (members r), those_none l h.1, those_none r h.2)

  those_fork : (p : Pair) (u v : List Pair) → those ok (p ∷ (u ++ v)) ≡ cond (ok p) (p ∷ []) [] ++ (those ok u ++ those ok v)
  those_fork p u v = on (ok p) (λ e. rw (e, those_append ok u v)) (λ e. rw (e, those_append ok u v))

-- a has listed the first `room` of ps, and says whether there are more
pub record Takes (room : ℕ) (ps : List Pair) (a : ListWalked) : Type 0 where
  pub pairs : a.pairs ≡ take room ps
  pub more : a.more ≡ ltb room (length ps)

takes_nothing : (room v : ℕ) → Takes room [] (list_walked [] false v)
takes_nothing room v = record { pairs = sym (take-nil room); more = sym (le-ltb room 0 (omega arith)) }

takes_then : (room : ℕ) (ps qs : List Pair) (a b : ListWalked) → Takes room ps a → Takes (room - length a.pairs) qs b → Takes room (ps ++ qs) (and_then a b)
takes_then room ps qs a b ha hb = on a.more
    (λ e. rw e (
    let h : room < length ps = ltb-true _ _ (sym ha.more ∙ e) in
    record {
      pairs = ha.pairs ∙ sym (take-append-le room ps qs (omega arith));
      more = sym (lt-ltb room (length (ps ++ qs)) (simp length-append (omega arith)));
    }))
    (λ e. rw e (
    let h : length ps ≤ room = ltb-false _ _ (sym ha.more ∙ e) in
    let d : length ps + (room - length ps) ≡ room = omega arith in
    let ea : a.pairs ≡ ps = ha.pairs ∙ take_all room ps h in
    let k : Takes (room - length ps) qs b = rw ea at hb in
    record {
      pairs = rw (ea, k.pairs) (sym (take-append-add ps qs (room - length ps)) ∙ ap (λ k. take k (ps ++ qs)) d);
      more = k.more ∙ on (ltb (room - length ps) (length qs))
          (λ t. t ∙ sym (lt-ltb room (length (ps ++ qs)) (simp length-append (omega (arith, ltb-true)))))
          (λ t. t ∙ sym (le-ltb room (length (ps ++ qs)) (simp length-append (omega (arith, ltb-false)))));
    }))

takes_own : (c : Bool) (room : ℕ) (p : Pair) → Takes room (cond c (p ∷ []) []) (list_own c room p)
takes_own false room p = takes_nothing room 1
takes_own true zero p = record { pairs = refl; more = refl }
takes_own true (suc room) p = record { pairs = rw (take-nil room); more = sym (le-ltb (suc room) 1 (omega arith)) }

-- a son that is asked or holds nothing
takes_ask : (c : Bool) (a : ListWalked) (ps : List Pair) (room : ℕ) → Takes room ps a → (c ≡ false → ps ≡ []) → Takes room ps (cond c a (list_walked [] false 0))
takes_ask true a ps room h k = h
takes_ask false a ps room h k = rw (k refl) (takes_nothing room 0)

takes : (q : Limits) (s : Stripe) (t : Tree Pair) → Well itself s t → (room : ℕ) → Takes room (those (matches q) (members t)) (listing q s t room)
unfolding listing
takes q s none w room = takes_nothing room 0
takes q s (fork i p l r) w room = on (ltb q.y1 p.y)
    (λ e. rw (e, those_none (matches q) (fork i p l r) (all_none q s i p l r w e)) (takes_nothing room 1))
    (λ e. rw (e, those_fork (matches q) p (members l) (members r)) (
    takes_then room _ _ _ _ (takes_own (matches q p) room p)
    (takes_then _ _ _ _ _
    (takes_ask (ltb q.x0 (middle s)) _ _ _ (takes q (left_part s) l w.left _) (λ c. those_none (matches q) l (left_none q s l w.left c)))
    (takes_ask (leb (middle s) q.x1) _ _ _ (takes q (right_part s) r w.right _) (λ c. those_none (matches q) r (right_none q s r w.right c))))))

-- law: the pairs listed are the first matches, as many as there is room for
pub listing_pairs : (q : Limits) (s : Stripe) (t : Tree Pair) → Well itself s t → (room : ℕ)
    → (listing q s t room).pairs ≡ take room (those (matches q) (members t))
listing_pairs q s t w room = (takes q s t w room).pairs

-- law: it says that there are more exactly where there are
pub listing_more : (q : Limits) (s : Stripe) (t : Tree Pair) → Well itself s t → (room : ℕ)
    → (listing q s t room).more ≡ ltb room (length (those (matches q) (members t)))
listing_more q s t w room = (takes q s t w room).more
