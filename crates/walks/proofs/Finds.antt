-- Each walk finds what a scan of the tree's members finds. The slot's rule gives the closest of its pair and its sons' best, whatever the sons
-- answer; each walk's induction only plugs in. It assumes a well-formed tree.
use Rattle.std.specs.Prelude.{Option, None}
use Prim.Native.Nat.{ℕ, ◌<◌}
use mathlib.Core.Path.{◌≡◌, refl, sym, ap, ◌∙◌}
use mathlib.Core.Bool.{Bool, true, false, not, ◌&&◌, ◌||◌}
use native.Mathlib.Omega.{arith}
use lib.Dec.{ltb, leb, eqb}
use borrow.Author.Tests.{le-ltb}
use Rattle.kinds.specs.declared.Pair.{Pair}
use Rattle.kinds.specs.declared.Limits.{Limits}
use Rattle.kinds.specs.declared.Walked.{Walked}
use Rattle.kinds.specs.Pairs.{beats}
use Rattle.plain.specs.Plain.{in_range, matches, own, closest, smaller, larger, smallest_x_of, largest_x_of, smallest_y_of}
use Rattle.stripes.specs.Stripe.{Stripe, In, middle, left_part, right_part}
use Rattle.trees.specs.Tree.{Tree, none, fork, members, All, Under, Well, itself}
use Rattle.walks.specs.Walks.{ask, or_else, x_rule, smallest_x, largest_x, smallest_y}
use Rattle.kinds.proofs.Tests.{on}
use Rattle.kinds.proofs.Order.{false_beats}
use Rattle.trees.proofs.Trees.{all_map, well_in}
use Rattle.plain.proofs.Closest.{Ranks, by_smaller, by_larger, by_beats, Sat, sat_none, sat_one, closest_sat, closest_first, closest_swap, closest_comm, one_way}
use Rattle.walks.proofs.Best.{best, scan_best, best_none, best_sat}
use Rattle.walks.proofs.Outside.{left_out, right_out, left_none, right_none, all_none}

-- a son that is asked or holds nothing
ask_is : (c : Bool) (w : Walked) (f : Option Pair) → w.finding ≡ f → (c ≡ false → f ≡ None) → (ask c w).finding ≡ f
ask_is true w f e g = e
ask_is false w f e g = sym (g refl)

-- what holds between every pair found in one tree and every pair found in another
across : (ok : Pair → Bool) (closer : Pair → Pair → Bool) {B : Pair → Pair → Type 0} (s u : Stripe) (l r : Tree Pair) → Well itself s l → Well itself u r
    → ((v w : Pair) → In s v.x → In u w.x → B v w) → Sat (λ v. Sat (λ w. B v w) (best ok closer r)) (best ok closer l)
across ok closer s u l r f g h =
    best_sat ok closer _ l (all_map (λ v i. best_sat ok closer _ r (all_map (λ w j. h v w i j) r (well_in itself u r g))) l (well_in itself s l f))

module _ (q : Limits) {closer : Pair → Pair → Bool} (R : Ranks closer) where
  -- nothing of the second is closer than what the first gave
  abbrev Ahead : Option Pair → Option Pair → Type 0
  Ahead f g = Sat (λ v. Sat (λ w. closer w v ≡ false) g) f

  or_else_is : (f g : Option Pair) (b : Walked) → b.finding ≡ g → Ahead f g → (or_else f b).finding ≡ closest closer f g
  or_else_is f g b e sat_none = e
  or_else_is f g b e (sat_one h) = sym (closest_first (matches q) closer h)

  apart_sat : (p : Pair) (t : Tree Pair) → All (λ v. Under p v) t → Sat (λ v. closer v p ≡ not (closer p v)) (best (matches q) closer t)
  apart_sat p t u = best_sat (matches q) closer _ t (all_map (λ v k. one_way (matches q) R p v k.apart) t u)

  -- the rule of both x walks: a is the answer of the son first asked, whose tree is t; b that of the other, whose tree is u
  by_x_is : (p : Pair) (a b : Walked) (t u : Tree Pair) → ltb q.y1 p.y ≡ false
      → a.finding ≡ best (matches q) closer t → b.finding ≡ best (matches q) closer u
      → Ahead (best (matches q) closer t) (best (matches q) closer u) → All (λ v. Under p v) t → All (λ v. Under p v) u
      → (x_rule closer q p a b).finding ≡ closest closer (own (matches q) p) (closest closer (best (matches q) closer t) (best (matches q) closer u))
  by_x_is p a b t u e ea eb h v w =
      let f = best (matches q) closer t in
      let g = best (matches q) closer u in
      rw (e, ea) (ap (λ f. closest closer f (own (matches q) p)) (or_else_is f g b eb h)
      ∙ closest_swap (matches q) closer p (closest_sat (matches q) closer _ (apart_sat p t v) (apart_sat p u w)))

  left_is : (s : Stripe) (l : Tree Pair) (a : Walked) → Well itself (left_part s) l → a.finding ≡ best (matches q) closer l
      → (ask (ltb q.x0 (middle s)) a).finding ≡ best (matches q) closer l
  left_is s l a w e = ask_is (ltb q.x0 (middle s)) a _ e (λ t. best_none (matches q) closer l (left_none q s l w t))

  right_is : (s : Stripe) (r : Tree Pair) (a : Walked) → Well itself (right_part s) r → a.finding ≡ best (matches q) closer r
      → (ask (leb (middle s) q.x1) a).finding ≡ best (matches q) closer r
  right_is s r a w e = ask_is (leb (middle s) q.x1) a _ e (λ t. best_none (matches q) closer r (right_none q s r w t))

module _ (q : Limits) where
  smallest_x_best : (s : Stripe) (t : Tree Pair) → Well itself s t → (smallest_x q s t).finding ≡ best (matches q) smaller t
  unfolding smallest_x
  smallest_x_best s none w = refl
  smallest_x_best s (fork i p l r) w =
      let R = by_smaller in
      let L = left_is q R s l (smallest_x q (left_part s) l) w.left (smallest_x_best (left_part s) l w.left) in
      let G = right_is q R s r (smallest_x q (right_part s) r) w.right (smallest_x_best (right_part s) r w.right) in
      on (ltb q.y1 p.y) (λ e. rw e (sym (best_none (matches q) smaller (fork i p l r) (all_none q s i p l r w e))))
      (λ e. by_x_is q R p _ _ l r e L G
      (across (matches q) smaller (left_part s) (right_part s) l r w.left w.right (λ v z i j. le-ltb z.x v.x (omega arith)))
      w.over_left w.over_right)

  largest_x_best : (s : Stripe) (t : Tree Pair) → Well itself s t → (largest_x q s t).finding ≡ best (matches q) larger t
  unfolding largest_x
  largest_x_best s none w = refl
  largest_x_best s (fork i p l r) w =
      let R = by_larger in
      let L = left_is q R s l (largest_x q (left_part s) l) w.left (largest_x_best (left_part s) l w.left) in
      let G = right_is q R s r (largest_x q (right_part s) r) w.right (largest_x_best (right_part s) r w.right) in
      on (ltb q.y1 p.y) (λ e. rw e (sym (best_none (matches q) larger (fork i p l r) (all_none q s i p l r w e))))
      (λ e. by_x_is q R p _ _ r l e G L
      (across (matches q) larger (right_part s) (left_part s) r l w.right w.left (λ v z i j. le-ltb v.x z.x (omega arith)))
      w.over_right w.over_left
      ∙ ap (closest larger (own (matches q) p)) (closest_comm (matches q) larger
      (across (matches q) larger (right_part s) (left_part s) r l w.right w.left (λ v z i j. one_way (matches q) R v z (omega arith)))))

-- two tests that agree on what is compared
closest_same : (c d : Pair → Pair → Bool) {f g : Option Pair} → Sat (λ v. Sat (λ w. c w v ≡ d w v) g) f → closest c f g ≡ closest d f g
closest_same c d sat_none = refl
closest_same c d (sat_one sat_none) = refl
closest_same c d (sat_one (sat_one e)) = rw e

-- from left to right, beating is a matter of y alone
by_y : (v w : Pair) → v.x < w.x → ltb w.y v.y ≡ beats w v
unfolding beats
by_y v w h = rw (le-ltb w.x v.x (omega arith)) (go (ltb w.y v.y) (eqb w.y v.y))
  where
    go : (a b : Bool) → a ≡ (a || (b && false))
    go true b = refl
    go false true = refl
    go false false = refl

module _ (x0 x1 : ℕ) where
  sons_is : (s : Stripe) (l r : Tree Pair) (a b : Walked) → Well itself (left_part s) l → Well itself (right_part s) r
      → a.finding ≡ best (in_range x0 x1) beats l → b.finding ≡ best (in_range x0 x1) beats r
      → closest (λ p q. ltb p.y q.y) (ask (ltb x0 (middle s)) a).finding (ask (leb (middle s) x1) b).finding
      ≡ closest beats (best (in_range x0 x1) beats l) (best (in_range x0 x1) beats r)
  sons_is s l r a b f g ea eb =
      let ok = in_range x0 x1 in
      let L = ask_is (ltb x0 (middle s)) a (best ok beats l) ea (λ t. best_none ok beats l (left_out x0 x1 s l f t)) in
      let R = ask_is (leb (middle s) x1) b (best ok beats r) eb (λ t. best_none ok beats r (right_out x0 x1 s r g t)) in
      rw (L, R) (closest_same (λ p q. ltb p.y q.y) beats (across ok beats (left_part s) (right_part s) l r f g (λ v w i j. by_y v w (omega arith))))

  smallest_y_best : (s : Stripe) (t : Tree Pair) → Well itself s t → (smallest_y x0 x1 s t).finding ≡ best (in_range x0 x1) beats t
  unfolding smallest_y
  smallest_y_best s none w = refl
  smallest_y_best s (fork i p l r) w =
      let ok = in_range x0 x1 in
      let E = sons_is s l r (smallest_y x0 x1 (left_part s) l) (smallest_y x0 x1 (right_part s) r) w.left w.right
      (smallest_y_best (left_part s) l w.left) (smallest_y_best (right_part s) r w.right) in
      let F = closest_sat ok beats _ (best_sat ok beats _ l (all_map (λ v u. false_beats u.beaten) l w.over_left))
      (best_sat ok beats _ r (all_map (λ v u. false_beats u.beaten) r w.over_right)) in
      on (ok p) (λ e. rw e (sym (closest_first ok beats F))) (λ e. rw e E)

-- law: the smallest x
pub smallest_x_finds : (q : Limits) (s : Stripe) (t : Tree Pair) → Well itself s t → (smallest_x q s t).finding ≡ smallest_x_of q (members t)
unfolding smallest_x_of
smallest_x_finds q s t w = smallest_x_best q s t w ∙ sym (scan_best (matches q) by_smaller t)

-- law: the largest x
pub largest_x_finds : (q : Limits) (s : Stripe) (t : Tree Pair) → Well itself s t → (largest_x q s t).finding ≡ largest_x_of q (members t)
unfolding largest_x_of
largest_x_finds q s t w = largest_x_best q s t w ∙ sym (scan_best (matches q) by_larger t)

-- law: the smallest y
pub smallest_y_finds : (x0 x1 : ℕ) (s : Stripe) (t : Tree Pair) → Well itself s t → (smallest_y x0 x1 s t).finding ≡ smallest_y_of x0 x1 (members t)
unfolding smallest_y_of
smallest_y_finds x0 x1 s t w = smallest_y_best x0 x1 s t w ∙ sym (scan_best (in_range x0 x1) by_beats t)
