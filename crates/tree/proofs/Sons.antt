-- A son's own tests, one at a time: where one fails, what is there is not fine; where they pass, its cells are there. Nothing is assumed
-- of the cells.
use Prim.Native.Nat.{ℕ, suc, ◌-◌, ◌≤◌}
use mathlib.Core.Path.{◌≡◌, refl, sym, ◌∙◌}
use mathlib.Core.Bool.{Bool, true, false}
use mathlib.Core.List.{List}
use native.Mathlib.Omega.{arith}
use lib.Dec.{leb}
use borrow.Author.Tests.{ne_eqb, leb-true}
use Rattle.kinds.specs.declared.Pair.{Pair}
use Rattle.kinds.specs.Pairs.{beats}
use Rattle.stripes.specs.Stripe.{Stripe, holds}
use Rattle.pools.specs.Cells.{slots_of, pair_at}
use Rattle.pools.specs.Links.{Fits}
use Rattle.pools.specs.Test.{slot_fine, fine}
use Rattle.tree.specs.declared.Son.TheVariants.{Bad}
use Rattle.tree.specs.Checked.{SonIs, bad}
use Rattle.kinds.proofs.Tests.{both, and_false}
use Rattle.pools.proofs.Leads.{back}

module _ (c : List ℕ) (s : ℕ) (at : Stripe) where
  pub fine_fits : (b : Bool) → 1 ≤ s → b ≡ slot_fine c s at → b ≡ true → Fits c s
  unfolding slot_fine
  fine_fits b o e t = let h = leb-true s (slots_of c) (both (leb s (slots_of c)) (holds at (pair_at c s).x) (sym e ∙ t)).0 in omega arith

module _ (c : List ℕ) (k : ℕ) (p : Pair) (s : ℕ) (at : Stripe) (ne : s ≡ 0 → ⊥) where
  pub too_deep : k ≡ 0 → fine c k p s at ≡ false
  unfolding fine
  too_deep e = rw (e, ne_eqb s 0 ne)

  bad_slot : (j : ℕ) → k ≡ suc j → slot_fine c s at ≡ false → fine c k p s at ≡ false
  unfolding fine
  bad_slot j e h = rw (e, ne_eqb s 0 ne, h)

  bad_order : (j : ℕ) → k ≡ suc j → beats p (pair_at c s) ≡ false → fine c k p s at ≡ false
  unfolding fine
  bad_order j e h = rw (e, ne_eqb s 0 ne, h, and_false (slot_fine c s at) false refl)

  -- what is not fine, said of the son
  pub bad_deep : k ≡ 0 → SonIs c k p s at Bad
  bad_deep e = bad (too_deep e)

  pub bad_in_slot : (k ≡ 0 → ⊥) → slot_fine c s at ≡ false → SonIs c k p s at Bad
  bad_in_slot d f = bad (bad_slot (k - 1) (sym (back k d)) f)

  pub bad_in_order : (k ≡ 0 → ⊥) → beats p (pair_at c s) ≡ false → SonIs c k p s at Bad
  bad_in_order d f = bad (bad_order (k - 1) (sym (back k d)) f)
