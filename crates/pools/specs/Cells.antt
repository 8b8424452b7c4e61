-- The cells of a pool, by name, and the plain list of what they store.
use Rattle.std.specs.Prelude.{ℕ, zero, suc, ◌+◌, ◌*◌, ◌-◌, ◌/◌, Bool, cond, ◌&&◌, List, [], ◌∷◌, ◌++◌, eqb, length, get_or, set}
use Rattle.kinds.specs.declared.Pair.{Pair}
use Rattle.stripes.specs.Stripe.{all_levels}
use Rattle.plain.specs.Books.{Book}
use Rattle.trees.specs.Tree.{Tree, none, fork}

-- how many cells a slot has, and the header
abbrev pub per_slot : ℕ
per_slot = 4

-- the most slots that a pool has
abbrev pub most_slots : ℕ
most_slots = 4095

-- the mark of a pool
abbrev pub pool_mark : ℕ
pool_mark = 1

-- how many slots a pool of these cells has: the header's cells are none of theirs
abbrev pub slots_of : List ℕ → ℕ
slots_of c = length c / per_slot - 1

-- the cells with the header written anew: the mark, the root slot, the first free slot, the number of pairs
abbrev pub put_header : List ℕ → ℕ → ℕ → ℕ → List ℕ
put_header c root free count = set (set (set (set c 0 pool_mark) 1 root) 2 free) 3 count

-- cells 0 to 3: the mark, the root slot, the first free slot, the number of pairs
abbrev pub mark_of : List ℕ → ℕ
mark_of c = get_or c 0 0

abbrev pub root_of : List ℕ → ℕ
root_of c = get_or c 1 0

abbrev pub free_of : List ℕ → ℕ
free_of c = get_or c 2 0

abbrev pub count_of : List ℕ → ℕ
count_of c = get_or c 3 0

-- the cells of slot s: x, y, left, right
abbrev pub pair_at : List ℕ → ℕ → Pair
pair_at c s = record { x = get_or c (s * per_slot) 0; y = get_or c (s * per_slot + 1) 0 }

abbrev pub left_at : List ℕ → ℕ → ℕ
left_at c s = get_or c (s * per_slot + 2) 0

abbrev pub right_at : List ℕ → ℕ → ℕ
right_at c s = get_or c (s * per_slot + 3) 0

-- the cells with slot s written anew: its pair, its links
abbrev pub put_pair : List ℕ → ℕ → Pair → List ℕ
put_pair c s p = set (set c (s * per_slot) p.x) (s * per_slot + 1) p.y

abbrev pub put_links : List ℕ → ℕ → ℕ → ℕ → List ℕ
put_links c s l r = set (set c (s * per_slot + 2) l) (s * per_slot + 3) r

-- what a free slot has for its left link
abbrev pub free_mark : ℕ
free_mark = 4294967295

-- slot s put into the free form: 0, 0, 4294967295, next
abbrev pub put_free : List ℕ → ℕ → ℕ → List ℕ
put_free c s next = put_links (put_pair c s (record { x = 0; y = 0 })) s free_mark next

-- slot s is in the free form
unfoldable pub is_free : List ℕ → ℕ → Bool
is_free c s = eqb (pair_at c s).x 0 && eqb (pair_at c s).y 0 && eqb (left_at c s) free_mark

-- the pairs of so many slots from slot s on, but for those in the free form
unfoldable pub stored_from : List ℕ → ℕ → ℕ → List Pair
stored_from c zero s = []
stored_from c (suc k) s = let rest = stored_from c k (suc s) in cond (is_free c s) rest (pair_at c s ∷ rest)

-- the stored pairs: those of slots 1, 2, .. n
abbrev pub stored : List ℕ → List Pair
stored c = stored_from c (slots_of c) 1

-- the plain list of a pool, with room for as many pairs as it has slots
abbrev pub book_of : List ℕ → Book
book_of c = record { pairs = stored c; room = slots_of c }

-- the tree that a link leads to, read so many levels down
unfoldable pub tree_at : List ℕ → ℕ → ℕ → Tree Pair
tree_at c zero s = none
tree_at c (suc k) s =
    let t : Tree Pair = fork s (pair_at c s) (tree_at c k (left_at c s)) (tree_at c k (right_at c s)) in
    cond (eqb s 0) none t

-- the tree that a pool holds
abbrev pub tree_of : List ℕ → Tree Pair
tree_of c = tree_at c all_levels (root_of c)

-- the cells of a free slot: 0, 0, 4294967295, next
abbrev pub free_form : (next : ℕ) → List ℕ
free_form next = 0 ∷ 0 ∷ free_mark ∷ next ∷ []

-- so many free slots from slot s on: each points to the next, the last to 0
unfoldable pub free_slots : ℕ → ℕ → List ℕ
free_slots s zero = []
free_slots s (suc zero) = free_form 0
free_slots s (suc (suc k)) = free_form (suc s) ++ free_slots (suc s) (suc k)

-- a fresh pool of n slots: all are chained as free in ascending order
unfoldable pub fresh : ℕ → List ℕ
fresh n = pool_mark ∷ 0 ∷ 1 ∷ 0 ∷ free_slots 1 n
