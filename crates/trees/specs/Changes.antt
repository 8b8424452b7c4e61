-- How a tree changes: a pair goes down, a hole is filled, x is looked for.
use Rattle.std.specs.Prelude.{ℕ, Bool, false, cond, ◌||◌, ltb, eqb}
use Rattle.kinds.specs.declared.Pair.{Pair}
use Rattle.kinds.specs.Pairs.{beats}
use Rattle.stripes.specs.Stripe.{Stripe, middle, left_part, right_part}
use Rattle.trees.specs.Tree.{Tree, none, fork}

-- the pair goes down; where it beats the pair met, the two change places and the beaten one goes on, to the side of the middle where its x lies;
-- at an empty place the given slot is taken
unfoldable pub go_down : {A : Type 0} → (A → Pair) → ℕ → A → Stripe → Tree A → Tree A
go_down key f p s none = fork f p none none
go_down key f p s (fork i q l r) =
    let stays = cond (beats (key p) (key q)) p q in
    let goes = cond (beats (key p) (key q)) q p in
    let left = fork i stays (go_down key f goes (left_part s) l) r in
    let right = fork i stays l (go_down key f goes (right_part s) r) in
    cond (ltb (key goes).x (middle s)) left right

-- what is left of a tree, and the slot that it gave up
pub record Cut (A : Type 0) : Type 0 where
  pub tree : Tree A
  pub slot : ℕ

-- the son that beats the other, with what it holds
pub data Heir (A : Type 0) : Type 0 where
  neither : Heir A
  left_son right_son : A → Heir A

-- who moves up between two sons: the only one, or the one that beats the other
abbrev pub heir : {A : Type 0} → (A → Pair) → Tree A → Tree A → Heir A
heir key none none = neither
heir key none (fork b v t u) = right_son v
heir key (fork a q l r) none = left_son q
heir key (fork a q l r) (fork b v t u) = cond (beats (key q) (key v)) (left_son q) (right_son v)

-- the heir moves up, and its own place is filled likewise; a slot with no sons is given up
abbrev pub move_up : {A : Type 0} → ℕ → Tree A → Tree A → Cut A → Cut A → Heir A → Cut A
move_up i l r a b neither = record { tree = none; slot = i }
move_up i l r a b (left_son q) = record { tree = fork i q a.tree r; slot = a.slot }
move_up i l r a b (right_son q) = record { tree = fork i q l b.tree; slot = b.slot }

-- the hole at the tree's top is filled by the son that beats the other, that son's place likewise, until a slot has no sons
unfoldable pub fill : {A : Type 0} → (A → Pair) → Tree A → Cut A
fill key none = record { tree = none; slot = 0 }
fill key (fork i p l r) = move_up i l r (fill key l) (fill key r) (heir key l r)

-- x is found by halving the stripe, and the hole that it leaves is filled
unfoldable pub take_out : {A : Type 0} → (A → Pair) → ℕ → Stripe → Tree A → Cut A
take_out key x s none = record { tree = none; slot = 0 }
take_out {A} key x s (fork i p l r) =
    let hole = fill key (fork i p l r) in
    let a = take_out key x (left_part s) l in
    let b = take_out key x (right_part s) r in
    let left : Cut A = record { tree = fork i p a.tree r; slot = a.slot } in
    let right : Cut A = record { tree = fork i p l b.tree; slot = b.slot } in
    cond (eqb (key p).x x) hole (cond (ltb x (middle s)) left right)

-- whether x is met, looked for by halving the stripe
unfoldable pub met : {A : Type 0} → (A → Pair) → ℕ → Stripe → Tree A → Bool
met key x s none = false
met key x s (fork i p l r) =
    let left = met key x (left_part s) l in
    let right = met key x (right_part s) r in
    eqb (key p).x x || cond (ltb x (middle s)) left right
