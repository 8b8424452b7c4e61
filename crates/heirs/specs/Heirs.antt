-- A slot's heir, the move of a pair into a slot, and a slot that is given up.
use Rattle.std.specs.Prelude.{ℕ, ◌<◌, ◌≡◌, ◌≢◌, Bool, not, Option, None, Some, List, length, get_or, set}
use Rattle.kinds.specs.Pairs.{beats}
use Rattle.pools.specs.Cells.{free_of, pair_at, left_at, right_at, put_pair, put_free}
use Rattle.pools.specs.Links.{Fits, son_at, link_cell}

-- a slot and its sons are slots of the pool
pub record Sons (c : List ℕ) (s : ℕ) : Type 0 where
  pub here : Fits c s
  pub left : left_at c s ≢ 0 → Fits c (left_at c s)
  pub right : right_at c s ≢ 0 → Fits c (right_at c s)

-- the cell of the link to a slot's heir: none where it has no sons, and else that of the son that beats the other
pub data Heirs (c : List ℕ) (s : ℕ) : Option ℕ → Type 0 where
  no_sons : left_at c s ≡ 0 → right_at c s ≡ 0 → Heirs c s None
  heir : (left : Bool) → son_at c s left ≢ 0
      → (son_at c s (not left) ≢ 0 → beats (pair_at c (left_at c s)) (pair_at c (right_at c s)) ≡ left) → Heirs c s (Some (link_cell s left))

-- what a move up may rely on: slot s, a cell, and the slot that it links to are in the pool
pub record Promotes (c : List ℕ) (s cell : ℕ) : Type 0 where
  pub to : Fits c s
  pub inside : cell < length c
  pub from : Fits c (get_or c cell 0)

-- the pair of the slot that a cell links to stands in slot s
unfoldable pub promoted : List ℕ → ℕ → ℕ → List ℕ
promoted c s cell = put_pair c s (pair_at c (get_or c cell 0))

-- what giving up slot s may rely on: it is in the pool, and so is the cell that links to it
pub record Releases (c : List ℕ) (cell s : ℕ) : Type 0 where
  pub inside : cell < length c
  pub slot : Fits c s

-- slot s is unlinked from a cell, put into the free form, and is the first free slot, pointing to the one that was
unfoldable pub released : List ℕ → ℕ → ℕ → List ℕ
released c cell s = set (put_free (set c cell 0) s (free_of c)) 2 s
