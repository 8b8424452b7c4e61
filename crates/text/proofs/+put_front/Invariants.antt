-- By the places that are left. Nothing is assumed.
use Rattle.text.proofs.+put_front.Given as goal

abbrev pub decreases-put_front : goal.decreases-put_front
decreases-put_front l = l.places
