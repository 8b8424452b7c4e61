-- What the tree part of the check yields.
use Rattle.std.specs.Prelude.{ℕ, ◌+◌, ◌≡◌, Bool, true, false, cond, List, Option, Some, None}
use Rattle.kinds.specs.declared.Pair.{Pair}
use Rattle.kinds.specs.Pairs.{beats}
use Rattle.stripes.specs.Stripe.{Stripe, all_levels}
use Rattle.trees.specs.Tree.{size}
use Rattle.pools.specs.Cells.{root_of, pair_at, left_at, right_at, tree_at}
use Rattle.pools.specs.Test.{slot_fine, fine, below, root_fine}
use Rattle.tree.specs.declared.Son.{Son}
use Rattle.tree.specs.declared.Son.TheVariants.{Empty, Leaf, Fork, Bad}

-- so many slots where all is fine, or nothing
abbrev pub count_if : Bool → ℕ → Option ℕ
count_if ok n = cond ok (Some n) None

-- from a link down
unfoldable pub from_link : List ℕ → ℕ → Pair → ℕ → Stripe → Option ℕ
from_link c k p s at = count_if (fine c k p s at) (size (tree_at c k s))

-- from a slot down whose own tests have passed
unfoldable pub from_slot : List ℕ → ℕ → ℕ → Stripe → Option ℕ
from_slot c k s at = count_if (below c k s at) (size (tree_at c k (left_at c s)) + size (tree_at c k (right_at c s)) + 1)

-- from the root down
unfoldable pub from_root : List ℕ → Option ℕ
from_root c = count_if (root_fine c) (size (tree_at c all_levels (root_of c)))

-- what a son is, where k levels are left: no slot, a slot that passes its own tests, without sons or with, or a fault
pub data SonIs (c : List ℕ) (k : ℕ) (p : Pair) (s : ℕ) (at : Stripe) : Son → Type 0 where
  empty : s ≡ 0 → SonIs c k p s at Empty
  leaf : (s ≡ 0 → ⊥) → (k ≡ 0 → ⊥) → slot_fine c s at ≡ true → beats p (pair_at c s) ≡ true → left_at c s ≡ 0 → right_at c s ≡ 0 → SonIs c k p s at Leaf
  branch : (s ≡ 0 → ⊥) → (k ≡ 0 → ⊥) → slot_fine c s at ≡ true → beats p (pair_at c s) ≡ true → SonIs c k p s at Fork
  bad : fine c k p s at ≡ false → SonIs c k p s at Bad
