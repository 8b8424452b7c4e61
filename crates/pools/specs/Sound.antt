-- When a pool is sound, clause by clause.
use Rattle.std.specs.Prelude.{ℕ, ◌+◌, ◌*◌, ◌≤◌, ◌≡◌, List, [], ◌∷◌, length}
use Rattle.kinds.specs.declared.Pair.{Pair}
use Rattle.stripes.specs.Stripe.{root_stripe, all_levels}
use Rattle.trees.specs.Tree.{Tree, none, fork, itself, size, xs, InStripes, Ordered, Within}
use Rattle.plain.specs.Plain.{Apart}
use Rattle.pools.specs.Cells.{per_slot, most_slots, pool_mark, slots_of, mark_of, root_of, free_of, count_of, pair_at, left_at, right_at, free_mark}

-- a pool is 4(n + 1) cells, n from 1 to 4,095
pub record Pool (c : List ℕ) : Type 0 where
  pub whole : length c ≡ per_slot * (slots_of c + 1)
  pub some : 1 ≤ slots_of c
  pub most : slots_of c ≤ most_slots

-- s is a slot of the pool, 1 to n
pub record Slot (c : List ℕ) (s : ℕ) : Type 0 where
  pub some : 1 ≤ s
  pub most : s ≤ slots_of c

-- the link s leads to the tree: s is 0 where it is empty, and else a slot, whose links lead to its sons
pub data Leads (c : List ℕ) : ℕ → Tree Pair → Type 0 where
  nowhere : Leads c 0 none
  slot : {s : ℕ} {l r : Tree Pair} → Slot c s → Leads c (left_at c s) l → Leads c (right_at c s) r → Leads c s (fork s (pair_at c s) l r)

-- slot s is in the free form
pub record Free (c : List ℕ) (s : ℕ) : Type 0 where
  pub x : (pair_at c s).x ≡ 0
  pub y : (pair_at c s).y ≡ 0
  pub left : left_at c s ≡ free_mark

-- from the link s on, the chain has exactly these slots, each in the free form, and then ends
pub data Chain (c : List ℕ) : ℕ → List ℕ → Type 0 where
  ends : Chain c 0 []
  next : {s : ℕ} {rest : List ℕ} → Slot c s → Free c s → Chain c (right_at c s) rest → Chain c s (s ∷ rest)

-- a sound pool, with a field for each clause of 01; `tree` is the tree that its links show, and `free` are the slots of its free chain
pub record Sound (c : List ℕ) : Type 0 where
  pub pool : Pool c
  pub mark : mark_of c ≡ pool_mark
  pub tree : Tree Pair
  -- links are 0 to n
  pub links : Leads c (root_of c) tree
  -- each tree slot's x lies in its stripe
  pub stripes : InStripes itself root_stripe tree
  -- each father's pair beats its sons'
  pub order : Ordered itself tree
  -- no two tree slots hold the same x
  pub apart : Apart (xs itself tree)
  -- no slot stands below level 32
  pub levels : Within all_levels tree
  -- the tree has as many slots as cell 3 says
  pub count : size tree ≡ count_of c
  -- the free chain has exactly the remaining number of slots, each in the free form, and then ends
  pub free : List ℕ
  pub chain : Chain c (free_of c) free
  pub rest : count_of c + length free ≡ slots_of c
