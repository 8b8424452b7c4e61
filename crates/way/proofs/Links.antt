-- The cell of a link, and the four cells of a slot. That a link's cell is one of the pool's assumes that the slot's are.
use Prim.Native.Nat.{ℕ, ◌+◌, ◌*◌, ◌-◌, ◌/◌, ◌≤◌, ◌<◌}
use mathlib.Core.Path.{◌≡◌, refl, sym, ap, ◌∙◌}
use mathlib.Core.Logic.{◌≢◌}
use mathlib.Core.Bool.{Bool, true, false, not}
use mathlib.Core.List.{List}
use native.Mathlib.Omega.{arith}
use lib.ListN.{length, get_or, set}
use lib.Seq.{get_or-set_other}
use Rattle.pools.specs.Cells.{per_slot}
use Rattle.pools.specs.Links.{Fits, son_at, link_cell}
use Rattle.kinds.proofs.Order.{pair_ext}
use Rattle.pools.proofs.Agreement.{Agree, agree_cell}

-- the cell of a link, and what it holds
pub link_slot : (s : ℕ) (left : Bool) → link_cell s left / per_slot ≡ s
unfolding link_cell
link_slot s true = omega arith
link_slot s false = omega arith

pub link_low : (s : ℕ) (left : Bool) → s * per_slot + 2 ≤ link_cell s left
unfolding link_cell
link_low s true = omega arith
link_low s false = omega arith

pub link_inside : (c : List ℕ) (s : ℕ) (left : Bool) → Fits c s → link_cell s left < length c
unfolding link_cell
link_inside c s true h = omega arith
link_inside c s false h = omega arith

pub link_other : (s : ℕ) (left : Bool) → link_cell s (not left) ≢ link_cell s left
unfolding link_cell
link_other s true e = omega arith
link_other s false e = omega arith

pub link_son : (c : List ℕ) (s : ℕ) (left : Bool) → get_or c (link_cell s left) 0 ≡ son_at c s left
unfolding link_cell son_at
link_son c s true = refl
link_son c s false = refl

-- agreement on the four cells of a slot is agreement on the slot
pub agree_cells : {c d : List ℕ} (u : ℕ) → ((j : ℕ) → j / per_slot ≡ u → get_or d j 0 ≡ get_or c j 0) → Agree c d u
agree_cells u h = record {
  pair = pair_ext (h (u * per_slot) (omega arith)) (h (u * per_slot + 1) (omega arith));
  left = h (u * per_slot + 2) (omega arith);
  right = h (u * per_slot + 3) (omega arith);
}

pub agree_get : {c d : List ℕ} (j : ℕ) → Agree c d (j / per_slot) → get_or d j 0 ≡ get_or c j 0
agree_get j h = agree_cell h j (j - j / per_slot * per_slot) (omega arith) (omega arith)

-- one cell written
pub cell_agree : (c : List ℕ) (i v s : ℕ) → i / per_slot ≢ s → Agree c (set c i v) s
cell_agree c i v s n = agree_cells s (λ j e. get_or-set_other c i j v 0 (λ z. n (sym (ap (λ k. k / per_slot) z) ∙ e)))
