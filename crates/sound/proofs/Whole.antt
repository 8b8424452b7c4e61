-- The parts of the check put together: the mark, the tree, the rest. It assumes that the length is a pool's.
use Rattle.std.specs.Prelude.{Option, Some, None, Result, Err}
use Prim.Native.Nat.{ℕ}
use mathlib.Core.Path.{◌≡◌, refl, sym, ap, ◌∙◌}
use mathlib.Core.Bool.{Bool, true, false, ◌&&◌}
use mathlib.Core.List.{List}
use lib.Dec.{eqb}
use borrow.Author.Tests.{eq-eqb, ne_eqb}
use Rattle.trees.specs.Tree.{size}
use Rattle.pools.specs.Cells.{pool_mark, mark_of, tree_of}
use Rattle.pools.specs.Sound.{Pool}
use Rattle.pools.specs.Test.{root_fine, rest_fine, is_sound}
use Rattle.pools.proofs.Decided.{true_pool}
use Rattle.kinds.specs.declared.Refusal.{Refusal}
use Rattle.kinds.specs.declared.Refusal.TheVariants.{Unsound}
use Rattle.tree.specs.Checked.{from_root}
use Rattle.tree.proofs.Counting.{was_counted, was_faulty}
use Rattle.chain.specs.Judged.{verdict, rest_verdict}

-- the whole, in a pool of the right length
module _ (c : List ℕ) (p : Pool c) where
  whole : (m r s : Bool) → eqb (mark_of c) pool_mark ≡ m → root_fine c ≡ r → rest_fine c ≡ s → is_sound c ≡ (m && r && s)
  unfolding is_sound
  whole m r s em er es = rw (true_pool c p, em, er, es)

  pub other_mark : (m : ℕ) → m ≡ mark_of c → (m ≡ pool_mark → ⊥) → Err Unsound ≡ verdict (is_sound c)
  other_mark m e h = ap verdict (sym (whole false _ _ (ne_eqb (mark_of c) pool_mark (rw e at h)) refl refl))

  module _ (m : ℕ) (em : m ≡ mark_of c) (h : m ≡ pool_mark) (w : Option ℕ) (ew : w ≡ from_root c) where
    marked : eqb (mark_of c) pool_mark ≡ true
    marked = eq-eqb (mark_of c) pool_mark (sym em ∙ h)

    pub bad_tree : w ≡ None → Err Unsound ≡ verdict (is_sound c)
    unfolding from_root
    bad_tree f = ap verdict (sym (whole true false _ marked (was_faulty (root_fine c) _ (sym ew ∙ f)) refl))

    module _ (n : ℕ) (en : w ≡ Some n) (v : Result (Unit {0}) Refusal) (ev : v ≡ rest_verdict c n) where
      fine_tree : (root_fine c ≡ true) × (size (tree_of c) ≡ n)
      unfolding from_root
      fine_tree = was_counted (root_fine c) (size (tree_of c)) n (sym ew ∙ en)

      rest_is : v ≡ verdict (rest_fine c)
      unfolding rest_verdict rest_fine
      rest_is = rw fine_tree.1 ev

      -- the rest decides
      pub rest_decides : v ≡ verdict (is_sound c)
      rest_decides = rest_is ∙ ap verdict (sym (whole true true (rest_fine c) marked fine_tree.0 refl))
