-- The tree: slots, each with what it holds and its two sons. `A` is what a slot holds, and `key` gives its pair.
use Rattle.std.specs.Prelude.{ℕ, zero, suc, ◌+◌, ◌≡◌, ◌≢◌, List, [], ◌∷◌, ◌++◌, map}
use Rattle.kinds.specs.declared.Pair.{Pair}
use Rattle.kinds.specs.Pairs.{Beats}
use Rattle.stripes.specs.Stripe.{Stripe, In, left_part, right_part}

-- an empty place, or a slot: its number, what it holds, and what stands below it on either side
pub data Tree (A : Type 0) : Type 0 where
  none : Tree A
  fork : (slot : ℕ) (held : A) (left right : Tree A) → Tree A

-- a slot of a pool holds a pair and no more: it is its own key
abbrev pub itself : Pair → Pair
itself p = p

-- what the slots hold: father, left, right
abbrev pub members : {A : Type 0} → Tree A → List A
members none = []
members (fork s p l r) = p ∷ (members l ++ members r)

-- how many slots
abbrev pub size : {A : Type 0} → Tree A → ℕ
size none = 0
size (fork s p l r) = size l + size r + 1

-- the tree without its slots' numbers
unfoldable pub bare : {A : Type 0} → Tree A → Tree A
bare none = none
bare (fork s p l r) = fork 0 p (bare l) (bare r)

-- P holds of what every slot holds
abbrev pub All : {A : Type 0} → (A → Type 0) → Tree A → Type 0
All P none = Unit {0}
All P (fork s p l r) = P p × All P l × All P r

-- some slot holds q
pub data Mem {A : Type 0} (q : A) : Tree A → Type 0 where
  here : {s : ℕ} {p : A} {l r : Tree A} → q ≡ p → Mem q (fork s p l r)
  in_left : {s : ℕ} {p : A} {l r : Tree A} → Mem q l → Mem q (fork s p l r)
  in_right : {s : ℕ} {p : A} {l r : Tree A} → Mem q r → Mem q (fork s p l r)

-- each slot's x lies in its stripe
abbrev pub InStripes : {A : Type 0} → (A → Pair) → Stripe → Tree A → Type 0
InStripes key s none = Unit {0}
InStripes key s (fork i p l r) = In s (key p).x × InStripes key (left_part s) l × InStripes key (right_part s) r

-- p beats the pair at the tree's top, if there is one
pub data Tops {A : Type 0} (key : A → Pair) (p : Pair) : Tree A → Type 0 where
  free : Tops key p none
  over : {s : ℕ} {q : A} {l r : Tree A} → Beats p (key q) → Tops key p (fork s q l r)

-- each father's pair beats its sons'
abbrev pub Ordered : {A : Type 0} → (A → Pair) → Tree A → Type 0
Ordered key none = Unit {0}
Ordered key (fork i p l r) = (Tops key (key p) l × Tops key (key p) r) × Ordered key l × Ordered key r

-- the x of the slots
abbrev pub xs : {A : Type 0} → (A → Pair) → Tree A → List ℕ
xs key t = map (λ p. (key p).x) (members t)

-- the tree has so many levels at most
abbrev pub Within : {A : Type 0} → ℕ → Tree A → Type 0
Within n none = Unit {0}
Within zero (fork s p l r) = ⊥
Within (suc n) (fork s p l r) = Within n l × Within n r

-- q may stand anywhere below p
pub record Under (p q : Pair) : Type 0 where
  pub beaten : Beats p q
  pub apart : p.x ≢ q.x

-- a slot of a well-formed tree, over its sons' trees
pub record WellFork {A : Type 0} (key : A → Pair) (s : Stripe) (p : A) (l r : Tree A) (L R : Type 0) : Type 0 where
  pub inside : In s (key p).x
  pub over_left : All (λ q. Under (key p) (key q)) l
  pub over_right : All (λ q. Under (key p) (key q)) r
  pub left : L
  pub right : R

-- a well-formed tree in a stripe: each x lies in its slot's stripe, and each slot stands over all that is below it
abbrev pub Well : {A : Type 0} → (A → Pair) → Stripe → Tree A → Type 0
Well key s none = Unit {0}
Well key s (fork i p l r) = WellFork key s p l r (Well key (left_part s) l) (Well key (right_part s) r)
