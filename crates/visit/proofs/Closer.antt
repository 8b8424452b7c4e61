-- The closer of a slot's own pair and what was found so far, one way out of the code at a time, whatever closer means. It assumes that the
-- cells of the slot are there, and those of what was found.
use Prim.Native.Nat.{ℕ, ◌≤◌}
use mathlib.Core.Path.{◌≡◌, refl}
use mathlib.Core.Bool.{Bool, true, false}
use mathlib.Core.List.{List}
use native.Mathlib.Omega.{arith}
use Rattle.kinds.specs.declared.Pair.{Pair}
use Rattle.pools.specs.Cells.{pair_at}
use Rattle.pools.specs.Links.{Fits}
use Rattle.questions.specs.Walking.{IsLink}
use Rattle.questions.proofs.Finding.{found_none, found_some}
use Rattle.visit.specs.Nearer.{Nearer}

module _ (c : List ℕ) (closer : Pair → Pair → Bool) (hit : Bool) (s best : ℕ) where
  pub no_hit : IsLink c best → hit ≡ false → Nearer c closer hit s best best
  no_hit o e = rw e (record { found = refl; some = o })

  module _ (one : 1 ≤ s) (fits : Fits c s) (e : hit ≡ true) where
    pub own_alone : best ≡ 0 → Nearer c closer hit s best s
    own_alone z = rw e (record { found = rw (found_none c best z, found_some c s (λ z. omega arith)); some = λ ne. fits })

    module _ (ne : best ≡ 0 → ⊥) (p b : Pair) (ep : p ≡ pair_at c s) (eb : b ≡ pair_at c best) where
      pub best_closer : IsLink c best → closer b p ≡ true → Nearer c closer hit s best best
      best_closer o t =
          let t' : closer (pair_at c best) (pair_at c s) ≡ true = rw (ep, eb) at t in
          rw e (record { found = rw (found_some c best ne, t'); some = o })

      pub own_stays : closer b p ≡ false → Nearer c closer hit s best s
      own_stays f =
          let f' : closer (pair_at c best) (pair_at c s) ≡ false = rw (ep, eb) at f in
          rw e (record { found = rw (found_some c best ne, f', found_some c s (λ z. omega arith)); some = λ ne. fits })
