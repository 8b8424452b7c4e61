-- A hole that is filled, and how a deletion ends.
use Rattle.std.specs.Prelude.{ℕ, ◌≡◌, ◌≢◌, true, false, List, get_or, Result, Ok, Err}
use Rattle.kinds.specs.declared.Pair.{Pair}
use Rattle.kinds.specs.declared.Refusal.{Refusal}
use Rattle.kinds.specs.declared.Refusal.TheVariants.{Missing, Other}
use Rattle.plain.specs.Plain.{has_x, has}
use Rattle.trees.specs.Changes.{fill}
use Rattle.pools.specs.Cells.{free_of, right_at, stored}
use Rattle.pools.specs.Laid.{deleted}
use Rattle.pools.specs.Sound.{Free}
use Rattle.trees.specs.Tree.{itself}
use Rattle.way.specs.Way.{tree_there, Place, Replaced}

-- a hole: a place, with k levels below it, where there is a slot
pub record Hole (c : List ℕ) (k cell : ℕ) : Type 0 where
  pub place : Place c k cell
  pub there : get_or c cell 0 ≢ 0

-- it is filled: the place holds what is left of its tree; the slot that was given up is the first free one, in the free form, and points to
-- the one that was
pub record Freed (c : List ℕ) (k cell : ℕ) (d : List ℕ) : Type 0 where
  pub place : Replaced c cell (fill itself (tree_there c k cell)).tree (tree_there c k cell) d
  pub first : free_of d ≡ (fill itself (tree_there c k cell)).slot
  pub form : Free d (free_of d)
  pub next : right_at d (free_of d) ≡ free_of c

-- how a deletion ends, over the stored list
pub data Deletes (c : List ℕ) (p : Pair) : Result (Unit {0}) Refusal → List ℕ → Type 0 where
  not_there : has_x p.x (stored c) ≡ false → Deletes c p (Err Missing) c
  other_y : has_x p.x (stored c) ≡ true → has p (stored c) ≡ false → Deletes c p (Err Other) c
  removed : has p (stored c) ≡ true → Deletes c p (Ok tt) (deleted c p.x)
