-- The four walks over a tree, with the slots that each visits.
use Rattle.std.specs.Prelude.{ℕ, zero, suc, ◌+◌, ◌-◌, ◌/◌, Bool, true, false, cond, List, [], ◌∷◌, ◌++◌, ltb, leb, length, drop, Option, Some, None}
use Rattle.kinds.specs.declared.Pair.{Pair}
use Rattle.kinds.specs.declared.Limits.{Limits}
use Rattle.kinds.specs.declared.Walked.{Walked}
use Rattle.plain.specs.Plain.{in_range, matches, own, closest, smaller, larger}
use Rattle.stripes.specs.Stripe.{Stripe, middle, left_part, right_part}
use Rattle.trees.specs.Tree.{Tree, none, fork}

-- a finding, after so many visits
abbrev pub seen : Option Pair → ℕ → Walked
seen f v = record { finding = f; visits = v }

-- a son that is asked or not
abbrev pub ask : Bool → Walked → Walked
ask true w = w
ask false w = seen None 0

-- a son that is asked only if the first gave nothing
abbrev pub or_else : Option Pair → Walked → Walked
or_else None w = w
or_else (Some p) w = seen (Some p) 0

-- the rule of both x walks at a slot: nothing if its y > y1; else the first son, the second if the first gave nothing, then its own pair if that is
-- in range and closer than what was found
abbrev pub x_rule : (Pair → Pair → Bool) → Limits → Pair → Walked → Walked → Walked
x_rule closer q p first second =
    let sons = or_else first.finding second in
    cond (ltb q.y1 p.y) (seen None 1) (seen (closest closer sons.finding (own (matches q) p)) (first.visits + sons.visits + 1))

-- smallest x: left if x0 < m, then right if m ≤ x1
unfoldable pub smallest_x : Limits → Stripe → Tree Pair → Walked
smallest_x q s none = seen None 0
smallest_x q s (fork i p l r) =
    x_rule smaller q p (ask (ltb q.x0 (middle s)) (smallest_x q (left_part s) l)) (ask (leb (middle s) q.x1) (smallest_x q (right_part s) r))

-- largest x, the mirror: right if m ≤ x1, then left if x0 < m
unfoldable pub largest_x : Limits → Stripe → Tree Pair → Walked
largest_x q s none = seen None 0
largest_x q s (fork i p l r) =
    x_rule larger q p (ask (leb (middle s) q.x1) (largest_x q (right_part s) r)) (ask (ltb q.x0 (middle s)) (largest_x q (left_part s) l))

-- smallest y: the slot's own pair if its x is in range; otherwise the better of its sons' answers, left on equal y
unfoldable pub smallest_y : ℕ → ℕ → Stripe → Tree Pair → Walked
smallest_y x0 x1 s none = seen None 0
smallest_y x0 x1 s (fork i p l r) =
    let a = ask (ltb x0 (middle s)) (smallest_y x0 x1 (left_part s) l) in
    let b = ask (leb (middle s) x1) (smallest_y x0 x1 (right_part s) r) in
    cond (in_range x0 x1 p) (seen (Some p) 1) (seen (closest (λ p q. ltb p.y q.y) a.finding b.finding) (a.visits + b.visits + 1))

-- what a listing has listed, whether a match found no room, and its visits
pub record ListWalked : Type 0 where
  pub pairs : List Pair
  pub more : Bool
  pub visits : ℕ

-- a listing of these pairs, after so many visits
abbrev pub list_walked : List Pair → Bool → ℕ → ListWalked
list_walked ps more v = record { pairs = ps; more = more; visits = v }

-- one after the other, unless the first stopped the walk
abbrev pub and_then : ListWalked → ListWalked → ListWalked
and_then a b = cond a.more a (list_walked (a.pairs ++ b.pairs) b.more (a.visits + b.visits))

-- a slot's own pair, if it matches and there is room; one visit
abbrev pub list_own : Bool → ℕ → Pair → ListWalked
list_own false room p = list_walked [] false 1
list_own true zero p = list_walked [] true 1
list_own true (suc room) p = list_walked (p ∷ []) false 1

-- listing into so much room: nothing if y > y1; else own pair, then left if x0 < m, then right if m ≤ x1; the walk stops at the first match beyond the room
unfoldable pub listing : Limits → Stripe → Tree Pair → ℕ → ListWalked
listing q s none room = list_walked [] false 0
listing q s (fork i p l r) room =
    let me = list_own (matches q p) room p in
    let k = room - length me.pairs in
    let a = cond (ltb q.x0 (middle s)) (listing q (left_part s) l k) (list_walked [] false 0) in
    let b = cond (leb (middle s) q.x1) (listing q (right_part s) r (k - length a.pairs)) (list_walked [] false 0) in
    cond (ltb q.y1 p.y) (list_walked [] false 1) (and_then me (and_then a b))

-- how many pairs a lent slice has room for
abbrev pub room_of : List ℕ → ℕ
room_of out = length out / 2

-- two cells each, x and y
abbrev pub flat : List Pair → List ℕ
flat [] = []
flat (p ∷ ps) = p.x ∷ p.y ∷ flat ps

-- the pairs written from the slice's start; every other cell stands as it was
abbrev pub written : List Pair → List ℕ → List ℕ
written ps out = flat ps ++ drop (length (flat ps)) out
