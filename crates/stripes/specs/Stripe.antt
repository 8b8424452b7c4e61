-- The part of the x that a slot of the tree owns.
use Rattle.std.specs.Prelude.{ℕ, suc, ◌+◌, ◌/◌, ◌≤◌, ◌<◌, Bool, ◌&&◌, ltb, leb}

-- a half-open stripe of x
pub record Stripe : Type 0 where
  pub lower : ℕ
  pub upper : ℕ

-- the root owns 0 to 4294967296 (excluded)
abbrev pub root_stripe : Stripe
root_stripe = record { lower = 0; upper = 4294967296 }

-- the levels below the root, and all levels, the root's with them
abbrev pub low_levels : ℕ
low_levels = 32

abbrev pub all_levels : ℕ
all_levels = suc low_levels

-- half of the sum of the ends, rounded down
abbrev pub middle : Stripe → ℕ
middle s = (s.lower + s.upper) / 2

-- the left son owns the part below the middle
abbrev pub left_part : Stripe → Stripe
left_part s = record { lower = s.lower; upper = middle s }

-- the right son owns the rest
abbrev pub right_part : Stripe → Stripe
right_part s = record { lower = middle s; upper = s.upper }

-- x lies in the stripe
pub record In (s : Stripe) (x : ℕ) : Type 0 where
  pub from : s.lower ≤ x
  pub to : x < s.upper

-- the same, as a test
unfoldable pub holds : Stripe → ℕ → Bool
holds s x = leb s.lower x && ltb x s.upper
