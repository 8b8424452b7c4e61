-- What the x walks have still to walk: the stop where they are, and behind it the stops that wait.
use Rattle.std.specs.Prelude.{ℕ, zero, suc, ◌+◌, ◌-◌, ◌≤◌, ◌<◌, ◌≡◌, Bool, List, [], ◌∷◌, length, get_or, Option, None}
use Rattle.kinds.specs.declared.Pair.{Pair}
use Rattle.kinds.specs.declared.Walked.{Walked}
use Rattle.pools.specs.Cells.{tree_at}
use Rattle.plain.specs.Plain.{closest}
use Rattle.pools.specs.Sound.{Leads}
use Rattle.stripes.specs.Stripe.{low_levels, all_levels, Stripe}
use Rattle.trees.specs.Tree.{Tree, Within, size}
use Rattle.walks.specs.Walks.{seen, or_else}
use Rattle.questions.specs.Walking.{found_at, IsLink}
use Rattle.slim.specs.declared.Slim.{Slim}
use Rattle.slim.specs.Slim.{stripe_by, SlimAt}
use Rattle.visit.specs.Asking.{Stop}

-- so many stops, the last one first, out of the rows that hold their slots and their stripes
unfoldable pub waiting : List ℕ → List Slim → ℕ → List Stop
waiting slots stripes zero = []
waiting slots stripes (suc n) = record { slot = get_or slots n 0; at = get_or stripes n (record { lower = 0; half = 0 }) } ∷ waiting slots stripes n

-- the tree at a stop
abbrev pub tree_below : List ℕ → Stop → Tree Pair
tree_below c p = tree_at c all_levels p.slot

-- one walk, and the other if the first gave nothing
abbrev pub or_next : Walked → Walked → Walked
or_next a b = let o = or_else a.finding b in seen o.finding (a.visits + o.visits)

-- the stops walked in turn, until one gives something
unfoldable pub stop_by_stop : (Stripe → Tree Pair → Walked) → List ℕ → List Stop → Walked
stop_by_stop W c [] = seen None 0
stop_by_stop W c (p ∷ ps) = or_next (W (stripe_by p.at) (tree_below c p)) (stop_by_stop W c ps)

-- a walk made after so many visits: what it finds, unless what was found so far is closer
abbrev pub since : (Pair → Pair → Bool) → Option Pair → ℕ → Walked → Walked
since closer f v w = seen (closest closer w.finding f) (v + w.visits)

-- how many slots the trees at the stops have
unfoldable pub slots_at : List ℕ → List Stop → ℕ
slots_at c [] = 0
slots_at c (p ∷ ps) = size (tree_below c p) + slots_at c ps

-- a stop whose link leads to the tree there, which has so many levels at most, and no more than its stripe has room for
pub record StopFits (c : List ℕ) (k : ℕ) (p : Stop) : Type 0 where
  pub leads : Leads c p.slot (tree_below c p)
  pub levels : Within k (tree_below c p)
  pub height : ℕ
  pub slim : SlimAt height p.at
  pub room : Within (suc height) (tree_below c p)

-- each stop has fewer levels by as many as there are stops behind it
unfoldable pub StopsFit : List ℕ → List Stop → Type 0
StopsFit c [] = Unit {0}
StopsFit c (p ∷ ps) = StopFits c (all_levels - length ps) p × StopsFit c ps

-- the walk goes on: what is still to be walked, after what was found so far, gives the answer
pub record GoesOn (W : Stripe → Tree Pair → Walked) (closer : Pair → Pair → Bool) (c : List ℕ) (answer : Walked) (ps : List Stop) (best v : ℕ) : Type 0 where
  pub fit : StopsFit c ps
  pub some : IsLink c best
  pub few : v + slots_at c ps < 4294967296
  pub asked : since closer (found_at c best) v (stop_by_stop W c ps) ≡ answer

-- the same, with the stops that wait in the code's rows, which have room for one a level
pub record InRows (W : Stripe → Tree Pair → Walked) (closer : Pair → Pair → Bool) (c : List ℕ) (answer : Walked) (slots : List ℕ) (stripes : List Slim) (wait : ℕ)
    (here : Stop) (best v : ℕ) : Type 0 where
  pub room : (length slots ≡ low_levels) × (length stripes ≡ low_levels)
  pub most : wait ≤ low_levels
  pub goes_on : GoesOn W closer c answer (here ∷ waiting slots stripes wait) best v
