-- What a slot's number stands for: 0 for nothing, any other for the slot's pair.
use Rattle.std.specs.Prelude.{Some, None}
use Prim.Native.Nat.{ℕ}
use mathlib.Core.Path.{◌≡◌, refl, sym}
use mathlib.Core.Bool.{not}
use mathlib.Core.List.{List}
use lib.Dec.{ltb, leb}
use borrow.Author.Tests.{eq-eqb, ne_eqb, le-leb, lt-leb, ltb-true, ltb-false}
use Rattle.pools.specs.Cells.{pair_at}
use Rattle.kinds.proofs.Tests.{on}
use Rattle.questions.specs.Walking.{found_at, IsLink}

-- the code asks `not (x1 < m)` where the rule asks `m ≤ x1`
pub not_lt : (a b : ℕ) → not (ltb a b) ≡ leb b a
not_lt a b = on (ltb a b) (λ t. rw t (sym (lt-leb b a (ltb-true a b t)))) (λ f. rw f (sym (le-leb b a (ltb-false a b f))))

pub no_slot : (c : List ℕ) → IsLink c 0
no_slot c ne = absurd (ne refl)

module _ (c : List ℕ) where
  pub found_none : (s : ℕ) → s ≡ 0 → found_at c s ≡ None
  unfolding found_at
  found_none s e = rw (eq-eqb s 0 e)

  pub found_some : (s : ℕ) → (s ≡ 0 → ⊥) → found_at c s ≡ Some (pair_at c s)
  unfolding found_at
  found_some s ne = rw (ne_eqb s 0 ne)
