-- The sons that a slot asks, as the stops there.
use Rattle.std.specs.Prelude.{ℕ, cond, List, ltb, leb}
use Rattle.kinds.specs.declared.Limits.{Limits}
use Rattle.pools.specs.Cells.{left_at, right_at}
use Rattle.stripes.specs.Stripe.{Stripe, middle}
use Rattle.slim.specs.declared.Slim.{Slim}
use Rattle.slim.specs.Slim.{stripe_by, left_slim, right_slim}

-- a stop of a walk: a slot's number, or 0, and the stripe there
pub record Stop : Type 0 where
  pub slot : ℕ
  pub at : Slim

-- an empty stop
abbrev pub no_stop : Slim → Stop
no_stop at = record { slot = 0; at = at }

-- the left son if x0 < m, or 0
unfoldable pub left_asked : List ℕ → ℕ → Stripe → ℕ → ℕ
left_asked c s at x0 = cond (ltb x0 (middle at)) (left_at c s) 0

-- the right son if m ≤ x1, or 0
unfoldable pub right_asked : List ℕ → ℕ → Stripe → ℕ → ℕ
right_asked c s at x1 = cond (leb (middle at) x1) (right_at c s) 0

-- the stop there, in the left part of the stripe, or in the right part
abbrev pub left_son : List ℕ → Stop → Limits → Stop
left_son c here q = record { slot = left_asked c here.slot (stripe_by here.at) q.x0; at = left_slim here.at }

abbrev pub right_son : List ℕ → Stop → Limits → Stop
right_son c here q = record { slot = right_asked c here.slot (stripe_by here.at) q.x1; at = right_slim here.at }
