-- The rows that hold the stops: one more, one less, none. One more assumes that each row has room for it.
use Prim.Native.Nat.{ℕ, zero, suc, ◌+◌, ◌-◌, ◌≤◌, ◌<◌}
use mathlib.Core.Path.{◌≡◌, refl, sym, ap, ◌∙◌}
use mathlib.Core.Logic.{◌≢◌}
use mathlib.Core.Bool.{Bool, true, false, cond}
use mathlib.Core.List.{List, [], ◌∷◌}
use native.Mathlib.Omega.{arith}
use native.Mathlib.Numerals.{add-one}
use lib.ListN.{length, get_or, set}
use lib.Seq.{get_or-set_same, get_or-set_other}
use Rattle.pools.proofs.Leads.{back}
use Rattle.slim.specs.declared.Slim.{Slim}
use Rattle.visit.specs.Asking.{Stop}
use Rattle.nearest.specs.Waiting.{waiting}

-- what stands in a row of stripes where there is none
abbrev pub blank : Slim
blank = record { lower = 0; half = 0 }

module _ (slots : List ℕ) (stripes : List Slim) where
  -- the stop that the rows hold at a place
  abbrev pub stop_at : ℕ → Stop
  stop_at n = record { slot = get_or slots n 0; at = get_or stripes n blank }

  pub waiting_length : (n : ℕ) → length (waiting slots stripes n) ≡ n
  unfolding waiting
  waiting_length zero = refl
  waiting_length (suc n) = ap suc (waiting_length n)

  pub waiting_none : (n : ℕ) → n ≡ 0 → waiting slots stripes n ≡ []
  unfolding waiting
  waiting_none n e = rw e

  -- law: none waits behind a hit
  pub waiting_still : (hit : Bool) (n : ℕ) → waiting slots stripes (cond hit 0 n) ≡ cond hit [] (waiting slots stripes n)
  unfolding waiting
  waiting_still true n = refl
  waiting_still false n = refl

  one_less : (n : ℕ) → waiting slots stripes (suc n) ≡ stop_at n ∷ waiting slots stripes n
  unfolding waiting
  one_less n = refl

  -- law: the last one, and the others
  pub waiting_last : (n : ℕ) → (n ≡ 0 → ⊥) → waiting slots stripes n ≡ stop_at (n - 1) ∷ waiting slots stripes (n - 1)
  waiting_last n ne = ap (λ m. waiting slots stripes m) (sym (back n ne)) ∙ one_less (n - 1)

  -- what is stored behind the stops leaves them as they are
  module _ (m : ℕ) (p : Stop) where
    kept : (n : ℕ) → n ≤ m → waiting (set slots m p.slot) (set stripes m p.at) n ≡ waiting slots stripes n
    unfolding waiting
    kept zero h = refl
    kept (suc n) h =
        let ne : n ≢ m = λ e. omega arith in
        rw (get_or-set_other slots m n p.slot 0 ne, get_or-set_other stripes m n p.at blank ne, kept n (omega arith))

  -- law: one more
  pub waiting_more : (n : ℕ) (p : Stop) → n < length slots → n < length stripes
      → waiting (set slots n p.slot) (set stripes n p.at) (n + 1) ≡ p ∷ waiting slots stripes n
  unfolding waiting
  waiting_more n p a b =
      rw (add-one n)
      (rw (get_or-set_same slots n p.slot 0 a, get_or-set_same stripes n p.at blank b, kept n p n (omega arith)))
