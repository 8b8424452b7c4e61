-- A stripe as the x walks have it: slim, by its lower end and half of its width.
use Rattle.std.specs.Prelude.{ℕ, zero, suc, ◌+◌, ◌/◌, ◌^◌, ◌≤◌, ◌<◌, ◌≡◌}
use Rattle.stripes.specs.Stripe.{Stripe}
use Rattle.slim.specs.declared.Slim.{Slim}

-- a width by its half: the half of a single x is 0
abbrev pub wide : ℕ → ℕ
wide zero = 1
wide (suc h) = suc h + suc h

-- the stripe that a slim one stands for
abbrev pub stripe_by : Slim → Stripe
stripe_by s = record { lower = s.lower; upper = s.lower + wide s.half }

-- the root's
abbrev pub root_slim : Slim
root_slim = record { lower = 0; half = 2147483648 }

-- the left part's
abbrev pub left_slim : Slim → Slim
left_slim s = record { lower = s.lower; half = s.half / 2 }

-- the right part's
abbrev pub right_slim : Slim → Slim
right_slim s = record { lower = s.lower + s.half; half = s.half / 2 }

-- its middle is a number of 32 bits
abbrev pub MiddleFits : Slim → Type 0
MiddleFits s = s.lower + s.half < 4294967296

-- a slim stripe with so many levels below it, which ends where the root's does or before
pub record SlimAt (k : ℕ) (s : Slim) : Type 0 where
  pub half : s.half ≡ 2 ^ k / 2
  pub low : s.lower + 2 ^ k ≤ 4294967296
