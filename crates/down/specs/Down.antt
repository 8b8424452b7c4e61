-- A pair that goes down from a place.
use Rattle.std.specs.Prelude.{ℕ, ◌/◌, ◌≤◌, ◌≡◌, ◌≢◌, List}
use Rattle.kinds.specs.declared.Pair.{Pair}
use Rattle.stripes.specs.Stripe.{low_levels}
use Rattle.stripes.specs.Heights.{stripe_at}
use Rattle.trees.specs.Tree.{Tree, Well, itself}
use Rattle.trees.specs.Standing.{Stands, New}
use Rattle.trees.specs.Changes.{go_down}
use Rattle.pools.specs.Cells.{per_slot, free_of, right_at}
use Rattle.pools.specs.Sound.{Sound, Slot}
use Rattle.way.specs.Way.{tree_there, Place, Replaced}

-- what an insertion may rely on: the pool is sound, x is new, and there is a free slot
pub record Enters (c : List ℕ) (p : Pair) : Type 0 where
  pub sound : Sound c
  pub new : New itself p.x sound.tree
  pub room : free_of c ≢ 0

-- what a pair may rely on that goes down from a place, with k levels below it: the tree there is well formed in the stripe that its x lies
-- in, and x is new there; the first free slot is none of the tree's, and does not have the place's cell
pub record Going (c : List ℕ) (k cell : ℕ) (p : Pair) : Type 0 where
  pub few : k ≤ low_levels
  pub place : Place c k cell
  pub well : Well itself (stripe_at k p.x) (tree_there c k cell)
  pub new : New itself p.x (tree_there c k cell)
  pub free : Slot c (free_of c)
  pub out : Stands (free_of c) (tree_there c k cell) → ⊥
  pub elsewhere : cell / per_slot ≢ free_of c

-- the place holds the tree that p went down in, and the next free slot is the first
pub record Carried (c : List ℕ) (k cell : ℕ) (p : Pair) (d : List ℕ) : Type 0 where
  pub place :
      let t : Tree Pair = go_down itself (free_of c) p (stripe_at k p.x) (tree_there c k cell) in
      Replaced c cell t t d
  pub first : free_of d ≡ right_at c (free_of c)
