-- The bit is the level's. It assumes a level from 1 to 32.
use Rattle.stripes.proofs.Heights.{bit_of}
use Rattle.stripes.proofs.Stripe.is_left.Goals as goal

pub returns : goal.returns
returns c = bit_of _ _ c.requires.0
