-- The code's three tests of the length are the definition's, whatever the length.
use Prim.Native.Nat.{ℕ, ◌+◌, ◌*◌, ◌%◌, ◌≤◌, ◌<◌}
use mathlib.Core.Path.{◌≡◌, sym, ◌∙◌}
use mathlib.Core.Bool.{false}
use mathlib.Core.List.{List}
use native.Mathlib.Omega.{arith}
use lib.Dec.{leb, eqb}
use lib.ListN.{length}
use borrow.Author.Tests.{eq-eqb, ne_eqb, le-leb, lt-leb, leb-true, leb-false}
use Rattle.pools.specs.Cells.{most_slots, per_slot, slots_of}
use Rattle.pools.specs.Test.{is_pool}
use Rattle.kinds.proofs.Tests.{on, and_false}

module _ (c : List ℕ) where
  pub odd : (length c % per_slot ≡ 0 → ⊥) → false ≡ is_pool c
  unfolding is_pool
  odd h = rw (ne_eqb (length c) (per_slot * (slots_of c + 1)) (λ e. h (omega arith)))

  pub under_eight : length c < 8 → false ≡ is_pool c
  unfolding is_pool
  under_eight h = rw (and_false (eqb (length c) (per_slot * (slots_of c + 1))) (leb 1 (slots_of c)) (lt-leb 1 (slots_of c) (omega arith)))

  pub long : length c % per_slot ≡ 0 → 8 ≤ length c → leb (length c) 16384 ≡ is_pool c
  unfolding is_pool
  long h k =
      rw (eq-eqb (length c) (per_slot * (slots_of c + 1)) (omega arith), le-leb 1 (slots_of c) (omega arith))
      (on (leb (length c) 16384)
      (λ t. t ∙ sym (le-leb (slots_of c) most_slots (omega (arith, leb-true))))
      (λ f. f ∙ sym (lt-leb (slots_of c) most_slots (omega (arith, leb-false)))))
