-- Two pairs that meet at a slot, and a free slot that is taken.
use Rattle.std.specs.Prelude.{ℕ, ◌<◌, ◌≡◌, cond, List, length, set}
use Rattle.kinds.specs.declared.Pair.{Pair}
use Rattle.kinds.specs.Pairs.{beats}
use Rattle.pools.specs.Cells.{free_of, pair_at, right_at, put_pair, put_links}
use Rattle.pools.specs.Sound.{Slot}

-- of two pairs, the one that stays where they meet, and the one that goes on
unfoldable pub stays : Pair → Pair → Pair
stays p q = cond (beats p q) p q

unfoldable pub goes_on : Pair → Pair → Pair
goes_on p q = cond (beats p q) q p

-- p met the pair of slot s: the better one stands there now, and r goes on
pub record Settled (c : List ℕ) (s : ℕ) (p : Pair) (d : List ℕ) (r : Pair) : Type 0 where
  pub cells : d ≡ put_pair c s (stays p (pair_at c s))
  pub goes : r ≡ goes_on p (pair_at c s)

-- there is a free slot, and a cell for the link to it
pub record Room (c : List ℕ) (cell : ℕ) : Type 0 where
  pub inside : cell < length c
  pub slot : Slot c (free_of c)

-- the first free slot holds p, with links 0, and is linked from the cell; the next free slot is the first
unfoldable pub free_taken : List ℕ → ℕ → Pair → List ℕ
free_taken c cell p = let s = free_of c in set (set (put_links (put_pair c s p) s 0 0) 2 (right_at c s)) cell s
