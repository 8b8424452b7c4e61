-- A book as a plain list of pairs, gone through from top to bottom: what each question finds. Nothing of the tree stands here.
use Rattle.std.specs.Prelude.{ℕ, ◌≡◌, ◌≢◌, ◌↔◌, Bool, true, false, cond, ◌&&◌, ◌||◌, ltb, leb, eqb, Option, Some, None}
use mathlib.Core.List.{List, [], ◌∷◌, Memᴰ}
use Rattle.kinds.specs.declared.Pair.{Pair}
use Rattle.kinds.specs.declared.Limits.{Limits}
use Rattle.kinds.specs.Pairs.{beats}

-- x0 ≤ x ≤ x1
abbrev pub in_range : ℕ → ℕ → Pair → Bool
in_range x0 x1 p = leb x0 p.x && leb p.x x1

-- the limits of a question, inclusive
abbrev pub limits : (x0 x1 y1 : ℕ) → Limits
limits x0 x1 y1 = record { x0 = x0; x1 = x1; y1 = y1 }

-- x0 ≤ x ≤ x1 and y ≤ y1
abbrev pub matches : Limits → Pair → Bool
matches q p = in_range q.x0 q.x1 p && leb p.y q.y1

-- the pair, where it is one that is asked for
abbrev pub own : (Pair → Bool) → Pair → Option Pair
own ok p = cond (ok p) (Some p) None

-- of two findings the first, unless the second is closer to what is asked
abbrev pub closest : (Pair → Pair → Bool) → Option Pair → Option Pair → Option Pair
closest closer None g = g
closest closer (Some p) None = Some p
closest closer (Some p) (Some q) = cond (closer q p) (Some q) (Some p)

-- from the list's top to its bottom, the closest so far
abbrev pub scan : (Pair → Bool) → (Pair → Pair → Bool) → Option Pair → List Pair → Option Pair
scan ok closer f [] = f
scan ok closer f (p ∷ ps) = scan ok closer (closest closer f (own ok p)) ps

-- the first has the smaller x
abbrev pub smaller : Pair → Pair → Bool
smaller p q = ltb p.x q.x

-- the first has the larger x
abbrev pub larger : Pair → Pair → Bool
larger p q = ltb q.x p.x

-- of the pairs that match, the one with the smallest x
unfoldable pub smallest_x_of : Limits → List Pair → Option Pair
smallest_x_of q ps = scan (matches q) smaller None ps

-- of the pairs that match, the one with the largest x
unfoldable pub largest_x_of : Limits → List Pair → Option Pair
largest_x_of q ps = scan (matches q) larger None ps

-- of the pairs with x0 ≤ x ≤ x1, the one with the smallest y; on equal y the one with the smaller x
unfoldable pub smallest_y_of : ℕ → ℕ → List Pair → Option Pair
smallest_y_of x0 x1 ps = scan (in_range x0 x1) beats None ps

-- the pairs for which a test holds, in the list's order
abbrev pub those : (Pair → Bool) → List Pair → List Pair
those ok [] = []
those ok (p ∷ ps) = let rest = those ok ps in cond (ok p) (p ∷ rest) rest

-- some pair of the list has this x
unfoldable pub has_x : ℕ → List Pair → Bool
has_x x [] = false
has_x x (p ∷ ps) = eqb p.x x || has_x x ps

-- the pair stands in the list
unfoldable pub has : Pair → List Pair → Bool
has q [] = false
has q (p ∷ ps) = (eqb p.x q.x && eqb p.y q.y) || has q ps

-- p is a pair of the list that is asked for, and no other such pair is closer
pub record Closest (ok : Pair → Bool) (closer : Pair → Pair → Bool) (ps : List Pair) (p : Pair) : Type 0 where
  pub member : Memᴰ p ps
  pub fits : ok p ≡ true
  pub ahead : (q : Pair) → Memᴰ q ps → ok q ≡ true → closer q p ≡ false

-- no pair of the list is asked for
abbrev pub NoMatch : (Pair → Bool) → List Pair → Type 0
NoMatch ok ps = (p : Pair) → Memᴰ p ps → ok p ≡ false

-- the same members stand in both lists, in whatever order
abbrev pub Alike : {A : Type 0} → List A → List A → Type 0
Alike {A} ps qs = (p : A) → Memᴰ p ps ↔ Memᴰ p qs

-- x is none of the list's numbers
abbrev pub Differs : ℕ → List ℕ → Type 0
Differs x [] = Unit {0}
Differs x (z ∷ zs) = (x ≢ z) × Differs x zs

-- no number stands twice in the list
abbrev pub Apart : List ℕ → Type 0
Apart [] = Unit {0}
Apart (x ∷ xs) = Differs x xs × Apart xs
