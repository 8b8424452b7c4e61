-- What is known of the heir that the code found, and of a slot where it found none.
use Prim.Native.Nat.{ℕ}
use mathlib.Core.Path.{◌≡◌, sym}
use mathlib.Core.Logic.{◌≢◌}
use mathlib.Core.Bool.{Bool, true, false, not, cond}
use mathlib.Core.List.{List}
use Rattle.std.specs.Prelude.{Option, None, Some}
use Rattle.std.proofs.lemmas.Option.{none-some, same_Some}
use Rattle.kinds.specs.Pairs.{beats}
use Rattle.pools.specs.Cells.{pair_at, left_at, right_at}
use Rattle.pools.specs.Links.{son_at, link_cell}
use Rattle.heirs.specs.Heirs.{Heirs, no_sons, heir}

-- the son whose link's cell it is
pub record Heired (c : List ℕ) (s h : ℕ) : Type 0 where
  pub left : Bool
  pub at : h ≡ link_cell s left
  pub there : son_at c s left ≢ 0
  pub wins : son_at c s (not left) ≢ 0 → beats (pair_at c (left_at c s)) (pair_at c (right_at c s)) ≡ left

pub heired : {c : List ℕ} {s h : ℕ} {o : Option ℕ} → Heirs c s o → o ≡ Some h → Heired c s h
heired (no_sons a b) e = absurd (none-some _ e)
heired (heir left t w) e = record { left = left; at = sym (same_Some _ _ e); there = t; wins = w }

pub childless : {c : List ℕ} {s : ℕ} {o : Option ℕ} → Heirs c s o → o ≡ None → (left_at c s ≡ 0) × (right_at c s ≡ 0)
childless (no_sons a b) e = (a, b)
childless (heir left t w) e = absurd (none-some _ (sym e))

-- the same test, seen from the heir's side
pub won : (c : List ℕ) (s : ℕ) (left : Bool) → beats (pair_at c (left_at c s)) (pair_at c (right_at c s)) ≡ left
    → beats (cond left (pair_at c (son_at c s left)) (pair_at c (son_at c s (not left)))) (cond left (pair_at c (son_at c s (not left))) (pair_at c (son_at c s left))) ≡ left
unfolding son_at
won c s true e = e
won c s false e = e
