-- What a walk to one side is: the rule of both x walks, with the near son first.
use Rattle.std.specs.Prelude.{ℕ, ◌≡◌, refl, Bool, true, false, cond, ltb, leb, None}
use Rattle.kinds.specs.declared.Limits.{Limits}
use Rattle.kinds.specs.declared.Pair.{Pair}
use Rattle.kinds.specs.declared.Walked.{Walked}
use Rattle.plain.specs.Plain.{smaller, larger}
use Rattle.plain.proofs.Closest.{Ranks, by_smaller, by_larger}
use Rattle.stripes.specs.Stripe.{Stripe, middle, left_part, right_part}
use Rattle.trees.specs.Tree.{Tree, none, fork}
use Rattle.walks.specs.Walks.{seen, ask, x_rule, smallest_x, largest_x}

-- nothing on an empty tree; at a slot the rule, the near son's walk first; and a closer x that ranks
pub record XWalk (W : Stripe → Tree Pair → Walked) (closer : Pair → Pair → Bool) (left_first : Bool) (q : Limits) : Type 0 where
  pub empty : (at : Stripe) → W at none ≡ seen None 0
  pub forks : (at : Stripe) (i : ℕ) (p : Pair) (l r : Tree Pair) → W at (fork i p l r)
      ≡ (let a = ask (ltb q.x0 (middle at)) (W (left_part at) l) in
      let b = ask (leb (middle at) q.x1) (W (right_part at) r) in
      x_rule closer q p (cond left_first a b) (cond left_first b a))
  pub ranks : Ranks closer

-- law: smallest x goes left first
pub leftmost_walk : (q : Limits) → XWalk (smallest_x q) smaller true q
unfolding smallest_x
leftmost_walk q = record { empty = λ at. refl; forks = λ at i p l r. refl; ranks = by_smaller }

-- law: largest x goes right first
pub rightmost_walk : (q : Limits) → XWalk (largest_x q) larger false q
unfolding largest_x
rightmost_walk q = record { empty = λ at. refl; forks = λ at i p l r. refl; ranks = by_larger }
