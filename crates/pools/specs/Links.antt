-- A slot's links by their side, and whether all its cells are there. No promise needs these; they serve the contracts of the inner functions.
use Rattle.std.specs.Prelude.{ℕ, ◌+◌, ◌*◌, ◌≤◌, Bool, cond, List, length}
use Rattle.pools.specs.Cells.{per_slot, left_at, right_at}

-- all cells of slot s are there
abbrev pub Fits : List ℕ → ℕ → Type 0
Fits c s = s * per_slot + per_slot ≤ length c

-- the link to the left son, or to the right one
unfoldable pub son_at : List ℕ → ℕ → Bool → ℕ
son_at c s left = cond left (left_at c s) (right_at c s)

-- the cell that holds it
unfoldable pub link_cell : ℕ → Bool → ℕ
link_cell s left = cond left (s * per_slot + 2) (s * per_slot + 3)
