-- What a walk makes of a son's place: nothing where no son is, or where its side is not asked. It assumes a walk that gives nothing on an
-- empty tree.
use Rattle.std.specs.Prelude.{None}
use Prim.Native.Nat.{ℕ}
use mathlib.Core.Path.{◌≡◌, refl}
use mathlib.Core.Bool.{Bool, true, false}
use mathlib.Core.List.{List}
use native.Mathlib.Omega.{arith}
use Rattle.kinds.specs.declared.Pair.{Pair}
use Rattle.kinds.specs.declared.Walked.{Walked}
use Rattle.trees.specs.Tree.{Tree, none}
use Rattle.walks.specs.Walks.{seen, ask}
use Rattle.places.specs.declared.Place.{Place}
use Rattle.places.specs.Places.{tree_here}
use Rattle.places.proofs.Here.{none_here}
use Rattle.questions.specs.Walking.{Made}
use Rattle.questions.proofs.Finding.{found_none}

-- nothing at no visit
made_none : (c : List ℕ) (v s : ℕ) → s ≡ 0 → Made c v (seen None 0) s v
made_none c v s e = record { found = found_none c s e; some = λ ne. absurd (ne e); visits = omega arith }

-- W is what it gives on a tree
module _ (W : Tree Pair → Walked) (empty : W none ≡ seen None 0) (c : List ℕ) (p : Place) (v : ℕ) where
  pub none_there : (go : Bool) → p.slot ≡ 0 → Made c v (ask go (W (tree_here c p))) 0 v
  none_there true e = rw (none_here c p e, empty) (made_none c v 0 refl)
  none_there false e = made_none c v 0 refl

  pub unasked : (go : Bool) → go ≡ false → Made c v (ask go (W (tree_here c p))) 0 v
  unasked go e = rw e (made_none c v 0 refl)
