-- The free chain's part of the check, one step at a time, as the code takes it. Nothing is assumed of the cells but what the tests have shown.
use Rattle.std.proofs.Common.{nat_eq}
use Prim.Native.Nat.{ℕ, suc, ◌-◌}
use mathlib.Core.Path.{◌≡◌, refl, sym, ◌∙◌}
use mathlib.Core.Bool.{Bool, true, false, ◌&&◌}
use mathlib.Core.List.{List}
use native.Mathlib.Omega.{arith}
use lib.Dec.{leb}
use borrow.Author.Tests.{leb-true}
use Rattle.pools.specs.Cells.{slots_of, right_at, is_free}
use Rattle.pools.specs.Links.{Fits}
use Rattle.pools.specs.Test.{free_fine, chain_fine}
use Rattle.kinds.proofs.Tests.{all_three}

module _ (c : List ℕ) (s : ℕ) where
  pub free_fits : {b : Bool} → b ≡ free_fine c s → b ≡ true → Fits c s
  unfolding free_fine
  free_fits e t =
      let a = all_three (leb 1 s) (leb s (slots_of c)) (is_free c s) (sym e ∙ t) in
      let o = leb-true 1 s a.0 in
      let m = leb-true s (slots_of c) a.1 in
      omega arith

-- a chain without slots left ends
pub chain_ends : (c : List ℕ) (n s : ℕ) → n ≡ 0 → nat_eq s 0 ≡ chain_fine c n s
unfolding chain_fine
chain_ends c n s z = rw z refl

-- of a chain with slots left the first is fine, and so are the others
module _ (c : List ℕ) (n s : ℕ) (d : n ≡ 0 → ⊥) where
  step : (k : ℕ) → n ≡ suc k → (b : Bool) → free_fine c s ≡ b → (b && chain_fine c k (right_at c s)) ≡ chain_fine c n s
  unfolding chain_fine
  step k e b h = rw (e, h)

  module _ {b : Bool} (e : b ≡ free_fine c s) where
    pub chain_goes_on : {s' : ℕ} → b ≡ true → s' ≡ right_at c s → chain_fine c (n - 1) s' ≡ chain_fine c n s
    chain_goes_on t f = rw f (step (n - 1) (omega arith) true (sym e ∙ t))

    pub breaks : b ≡ false → false ≡ chain_fine c n s
    breaks f = step (n - 1) (omega arith) false (sym e ∙ f)
