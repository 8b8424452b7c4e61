-- A place of the tree, and the way down to x. A place is the cell of its link, which is cell 1 for the root and a slot's left or right cell
-- elsewhere, and the levels below it.
use Rattle.std.specs.Prelude.{ℕ, suc, ◌/◌, ◌<◌, ◌≡◌, ◌≢◌, List, ltb, length, get_or}
use Rattle.kinds.specs.declared.Pair.{Pair}
use Rattle.stripes.specs.Stripe.{In, root_stripe, middle, low_levels}
use Rattle.stripes.specs.Heights.{stripe_at}
use Rattle.trees.specs.Tree.{Tree}
use Rattle.trees.specs.Standing.{Stands, Distinct}
use Rattle.pools.specs.Cells.{per_slot, pair_at, tree_at}
use Rattle.pools.specs.Links.{link_cell}
use Rattle.pools.specs.Laid.{top}
use Rattle.pools.specs.Sound.{Leads}

-- the tree at the place whose link is in a cell, with k levels below it
abbrev pub tree_there : List ℕ → ℕ → ℕ → Tree Pair
tree_there c k cell = tree_at c (suc k) (get_or c cell 0)

-- a place: its link leads to the tree there, whose slots all differ; its cell is none of theirs, and not the first free slot's
pub record Place (c : List ℕ) (k cell : ℕ) : Type 0 where
  pub inside : cell < length c
  pub leads : Leads c (get_or c cell 0) (tree_there c k cell)
  pub distinct : Distinct (tree_there c k cell)
  pub apart : Stands (cell / per_slot) (tree_there c k cell) → ⊥
  pub other : cell ≢ 2

-- in d the place whose link is in a cell holds the tree t; every other cell is as in c, but for the first free slot's and those of the slots of `wide`
pub record Replaced (c : List ℕ) (cell : ℕ) (t wide : Tree Pair) (d : List ℕ) : Type 0 where
  pub long : length d ≡ length c
  pub link : get_or d cell 0 ≡ top t
  pub leads : Leads d (top t) t
  pub rest : (j : ℕ) → j ≢ cell → j ≢ 2 → (Stands (j / per_slot) wide → ⊥) → get_or d j 0 ≡ get_or c j 0

-- the way down to x starts at the root, in whose stripe x lies; from a slot with another x it goes on to the son on x's side of the middle
pub data OnTheWay (c : List ℕ) (x : ℕ) : ℕ → ℕ → Type 0 where
  root : In root_stripe x → OnTheWay c x low_levels 1
  on : {k cell : ℕ} → OnTheWay c x (suc k) cell → get_or c cell 0 ≢ 0 → (pair_at c (get_or c cell 0)).x ≢ x
      → OnTheWay c x k (link_cell (get_or c cell 0) (ltb x (middle (stripe_at (suc k) x))))

-- it ends at a place that is empty, or where x is met
pub record WayEnds (c : List ℕ) (x k cell : ℕ) : Type 0 where
  pub way : OnTheWay c x k cell
  pub met : get_or c cell 0 ≢ 0 → (pair_at c (get_or c cell 0)).x ≡ x
