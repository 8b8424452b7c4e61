-- The places that the links of a pool lead to, and the tree that is read from one. No promise needs these; they serve the contracts of the
-- inner functions.
use Rattle.std.specs.Prelude.{ℕ, ◌-◌, cond, List, ltb}
use Rattle.kinds.specs.declared.Pair.{Pair}
use Rattle.stripes.specs.Stripe.{root_stripe, all_levels, middle, left_part, right_part}
use Rattle.trees.specs.Tree.{Tree}
use Rattle.pools.specs.Cells.{root_of, left_at, right_at, tree_at}
use Rattle.pools.specs.Sound.{Leads}
use Rattle.places.specs.declared.Place.{Place}

-- the tree that is read from a place down
abbrev pub tree_here : List ℕ → Place → Tree Pair
tree_here c p = tree_at c p.levels p.slot

-- the link leads to that tree, and no other
abbrev pub LeadsHere : List ℕ → Place → Type 0
LeadsHere c p = Leads c p.slot (tree_here c p)

-- the root's place
abbrev pub root_place : List ℕ → Place
root_place c = record { slot = root_of c; levels = all_levels; stripe = root_stripe }

-- the places of a slot's sons
abbrev pub left_place : List ℕ → Place → Place
left_place c p = record { slot = left_at c p.slot; levels = p.levels - 1; stripe = left_part p.stripe }

abbrev pub right_place : List ℕ → Place → Place
right_place c p = record { slot = right_at c p.slot; levels = p.levels - 1; stripe = right_part p.stripe }

-- the one on x's side
unfoldable pub place_towards : List ℕ → Place → ℕ → Place
place_towards c p x = cond (ltb x (middle p.stripe)) (left_place c p) (right_place c p)
