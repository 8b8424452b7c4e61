-- The soundness of a pool as a test that is worked out: true exactly where `Sound` holds (proofs/Decided.antt).
use Rattle.std.specs.Prelude.{ℕ, zero, suc, ◌+◌, ◌*◌, ◌-◌, Bool, cond, not, ◌&&◌, ◌||◌, List, ltb, leb, eqb, length}
use Rattle.kinds.specs.declared.Pair.{Pair}
use Rattle.kinds.specs.Pairs.{beats}
use Rattle.stripes.specs.Stripe.{Stripe, root_stripe, holds, middle, left_part, right_part, low_levels}
use Rattle.trees.specs.Tree.{Tree, size, itself}
use Rattle.trees.specs.Changes.{met}
use Rattle.pools.specs.Cells.{tree_of, per_slot, most_slots, pool_mark, slots_of, mark_of, root_of, free_of, count_of, pair_at, left_at, right_at, is_free, tree_at}

-- the length is that of a pool
unfoldable pub is_pool : List ℕ → Bool
is_pool c = eqb (length c) (per_slot * (slots_of c + 1)) && leb 1 (slots_of c) && leb (slots_of c) most_slots

-- s is a slot of the pool, and its x lies in its stripe
unfoldable pub slot_fine : List ℕ → ℕ → Stripe → Bool
slot_fine c s at = leb s (slots_of c) && holds at (pair_at c s).x

-- x is not met below a slot, looked for by halving: it could stand nowhere else
unfoldable pub alone : ℕ → Stripe → Tree Pair → Tree Pair → Bool
alone x at l r =
    let left = met itself x (left_part at) l in
    let right = met itself x (right_part at) r in
    not (cond (ltb x (middle at)) left right)

-- all is fine from a link down, so many levels, where the father's pair is p: a slot is tested before anything below it
unfoldable pub fine : List ℕ → ℕ → Pair → ℕ → Stripe → Bool
fine c zero p s at = eqb s 0
fine c (suc k) p s at =
    let q : Pair = pair_at c s in
    let l : ℕ = left_at c s in
    let r : ℕ = right_at c s in
    let sons : Bool = fine c k q l (left_part at) && fine c k q r (right_part at) && alone q.x at (tree_at c k l) (tree_at c k r) in
    let here : Bool = slot_fine c s at && beats p q && sons in
    eqb s 0 || here

-- all is fine below a slot, so many levels, and its x is not met there
unfoldable pub below : List ℕ → ℕ → ℕ → Stripe → Bool
below c k s at =
    let q : Pair = pair_at c s in
    let l : ℕ = left_at c s in
    let r : ℕ = right_at c s in
    fine c k q l (left_part at) && fine c k q r (right_part at) && alone q.x at (tree_at c k l) (tree_at c k r)

-- all is fine from the root down: it has no father
unfoldable pub root_fine : List ℕ → Bool
root_fine c =
    let s : ℕ = root_of c in
    let here : Bool = slot_fine c s root_stripe && below c low_levels s root_stripe in
    eqb s 0 || here

-- a free slot of the chain
unfoldable pub free_fine : List ℕ → ℕ → Bool
free_fine c s = leb 1 s && leb s (slots_of c) && is_free c s

-- the chain has exactly so many slots, and then ends
unfoldable pub chain_fine : List ℕ → ℕ → ℕ → Bool
chain_fine c zero s = eqb s 0
chain_fine c (suc k) s =
    let rest : Bool = chain_fine c k (right_at c s) in
    free_fine c s && rest

-- the tree's slots and the free ones are all slots
unfoldable pub rest_fine : List ℕ → Bool
rest_fine c =
    eqb (size (tree_of c)) (count_of c) && leb (count_of c) (slots_of c) && chain_fine c (slots_of c - count_of c) (free_of c)

-- the test of a pool
unfoldable pub is_sound : List ℕ → Bool
is_sound c =
    is_pool c && eqb (mark_of c) pool_mark && root_fine c && rest_fine c
