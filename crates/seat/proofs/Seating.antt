-- Two pairs that meet, as the code settles it, and a free slot, as the code takes it. It assumes what the code has read and written.
use Prim.Native.Nat.{ℕ, ◌+◌, ◌*◌}
use mathlib.Core.Path.{◌≡◌, sym, ◌∙◌}
use mathlib.Core.Bool.{Bool, true, false}
use mathlib.Core.List.{List}
use lib.ListN.{set}
use lib.Seq.{set-get_or}
use Rattle.kinds.specs.declared.Pair.{Pair}
use Rattle.kinds.specs.Pairs.{beats}
use Rattle.pools.specs.Cells.{per_slot, free_of, pair_at, right_at, put_pair, put_links}
use Rattle.seat.specs.Seat.{stays, goes_on, Settled, free_taken}

-- where two pairs meet, as the code settles it
module _ {c : List ℕ} {s : ℕ} {p q : Pair} {t : Bool} (eq : q ≡ pair_at c s) (et : t ≡ beats p q) where
  pub settle_swap : {d : List ℕ} → t ≡ true → d ≡ put_pair c s p → Settled c s p d q
  unfolding stays goes_on
  settle_swap h e =
      let f : beats p (pair_at c s) ≡ true = rw eq at (sym et ∙ h) in
      record { cells = rw f e; goes = rw f eq }

  pub settle_keep : t ≡ false → Settled c s p c p
  unfolding stays goes_on
  settle_keep h =
      let f : beats p (pair_at c s) ≡ false = rw eq at (sym et ∙ h) in
      record { cells = rw (f, set-get_or c (s * per_slot) 0, set-get_or c (s * per_slot + 1) 0); goes = rw f }

-- as the code takes it
pub took : (c d d' d'' : List ℕ) (cell s n : ℕ) (p : Pair) → s ≡ free_of c → n ≡ right_at c s → d ≡ put_pair c s p → d' ≡ put_links d s 0 0 → d'' ≡ set d' 2 n
    → set d'' cell s ≡ free_taken c cell p
unfolding free_taken
took c d d' d'' cell s n p es en e e' e'' = rw (e'', e', e, en, es)
