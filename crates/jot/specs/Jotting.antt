-- How matches are written: from a place on, the count is the next place, and a match that finds no room is counted too.
use Rattle.std.specs.Prelude.{ℕ, suc, ◌+◌, ◌*◌, ◌≡◌, cond, List, [], ◌∷◌, length, set}
use Rattle.kinds.specs.declared.Pair.{Pair}
use Rattle.walks.specs.Walks.{ListWalked}

-- a pair written at place n, two cells: x, y
abbrev pub put_one : List ℕ → ℕ → Pair → List ℕ
put_one o n p = set (set o (n * 2) p.x) (n * 2 + 1) p.y

-- the pairs written one after the other from place n on
unfoldable pub put_all : List ℕ → ℕ → List Pair → List ℕ
put_all o n [] = o
put_all o n (p ∷ ps) = put_all (put_one o n p) (suc n) ps

-- what w lists was put into the cells o from place n on: o' are the cells then, and n has become n', one more where a match found no room
pub record Put (o : List ℕ) (n : ℕ) (w : ListWalked) (o' : List ℕ) (n' : ℕ) : Type 0 where
  pub count : n' ≡ n + length w.pairs + cond w.more 1 0
  pub cells : o' ≡ put_all o n w.pairs
