-- What is found next: after an accepted insert, and after an accepted delete.
use Rattle.std.specs.Prelude.{ℕ, ◌≤◌, ◌≡◌, false, List, [], ◌∷◌}
use Rattle.kinds.specs.declared.Outcome.TheVariants.{Found, Nothing, Listed}
use Rattle.kinds.specs.declared.Pair.{Pair}
use Rattle.plain.specs.Plain.{limits}
use Rattle.walks.specs.Walks.{room_of, written}
use Rattle.runs.specs.Calls as calls
use Rattle.marked.specs.Wrong.{Program}

-- each question with limits that are the pair's own finds it, on the cells d and after any number of calls
pub record Finds (g : Program) (d : List ℕ) (p : Pair) : Type 0 where
  pub smallest_x : (t : ℕ) → (g t d (calls.smallest_x (limits p.x p.x p.y))).answer.outcome ≡ Found p
  pub largest_x : (t : ℕ) → (g t d (calls.largest_x (limits p.x p.x p.y))).answer.outcome ≡ Found p
  pub smallest_y : (t : ℕ) → (g t d (calls.smallest_y p.x p.x)).answer.outcome ≡ Found p
  pub listing : (t : ℕ) (out : List ℕ) → 1 ≤ room_of out → (g t d (calls.list (limits p.x p.x p.y) out)).answer.outcome ≡ Listed 1 false
  pub lists : (t : ℕ) (out : List ℕ) → 1 ≤ room_of out → (g t d (calls.list (limits p.x p.x p.y) out)).lent ≡ written (p ∷ []) out

-- each question for this x finds nothing, whatever its other limit
pub record Misses (g : Program) (d : List ℕ) (x : ℕ) : Type 0 where
  pub smallest_x : (t y1 : ℕ) → (g t d (calls.smallest_x (limits x x y1))).answer.outcome ≡ Nothing
  pub largest_x : (t y1 : ℕ) → (g t d (calls.largest_x (limits x x y1))).answer.outcome ≡ Nothing
  pub smallest_y : (t : ℕ) → (g t d (calls.smallest_y x x)).answer.outcome ≡ Nothing
  pub listing : (t y1 : ℕ) (out : List ℕ) → (g t d (calls.list (limits x x y1) out)).answer.outcome ≡ Listed 0 false
  pub lists : (t y1 : ℕ) (out : List ℕ) → (g t d (calls.list (limits x x y1) out)).lent ≡ out
