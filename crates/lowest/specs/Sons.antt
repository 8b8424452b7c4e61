-- How the code asks a slot's two sons for the smallest y, and which of their answers it keeps.
use Rattle.std.specs.Prelude.{ℕ, ◌+◌, ◌-◌, ◌≤◌, ◌≡◌, Bool, false, cond, List, eqb, ltb, leb}
use Rattle.kinds.specs.declared.Pair.{Pair}
use Rattle.kinds.specs.declared.Walked.{Walked}
use Rattle.plain.specs.Plain.{closest}
use Rattle.stripes.specs.Stripe.{middle, left_part, right_part}
use Rattle.places.specs.declared.Place.{Place}
use Rattle.places.specs.Places.{tree_here, left_place, right_place}
use Rattle.walks.specs.Walks.{seen, ask, smallest_y}
use Rattle.questions.specs.Walking.{found_at, IsLink, Walkable}

-- a son is asked if it is there and lies on a side that is asked
unfoldable pub asks : ℕ → Bool → Bool
asks s go = cond (eqb s 0) false go

-- the first has the smaller y
abbrev pub lower_y : Pair → Pair → Bool
lower_y p q = ltb p.y q.y

-- of two findings the one with the smaller y, the first on equal y
pub record Lower (c : List ℕ) (l r s : ℕ) : Type 0 where
  pub found : found_at c s ≡ closest lower_y (found_at c l) (found_at c r)
  pub some : IsLink c s

-- both sons' answers: the lower finding, and the visits of both
abbrev pub lower_of : Walked → Walked → Walked
lower_of a b = seen (closest lower_y a.finding b.finding) (a.visits + b.visits)

-- what the two sons of a slot answer together, each asked if its side is
unfoldable pub sons_asked : List ℕ → Place → (x0 x1 : ℕ) → Walked
sons_asked c p x0 x1 =
    lower_of
    (ask (ltb x0 (middle p.stripe)) (smallest_y x0 x1 (left_part p.stripe) (tree_here c (left_place c p))))
    (ask (leb (middle p.stripe) x1) (smallest_y x0 x1 (right_part p.stripe) (tree_here c (right_place c p))))

-- they may be asked after v visits, of which the slot's own is one
pub record AskedSons (c : List ℕ) (p : Place) (v : ℕ) : Type 0 where
  pub visited : 1 ≤ v
  pub walkable : Walkable c p (v - 1)
