-- How the code goes down: the part on the side where x lies, and the stripe of x so many levels up. No promise needs these; they serve the
-- contracts of the inner functions.
use Rattle.std.specs.Prelude.{ℕ, ◌+◌, ◌*◌, ◌/◌, ◌^◌, cond, ltb}
use Rattle.stripes.specs.Stripe.{Stripe, middle, left_part, right_part}

-- the part on x's side of the middle
unfoldable pub part_of : Stripe → ℕ → Stripe
part_of s x = cond (ltb x (middle s)) (left_part s) (right_part s)

-- the stripe that x lies in, with so many levels below it
abbrev pub stripe_at : ℕ → ℕ → Stripe
stripe_at k x = record { lower = x / 2 ^ k * 2 ^ k; upper = x / 2 ^ k * 2 ^ k + 2 ^ k }
