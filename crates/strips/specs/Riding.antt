-- What a rider asks for, and which strip a question is to draw.
use Rattle.std.specs.Prelude.{ℕ, ◌≤◌, ◌≡◌, false}
use mathlib.Core.List.{List, Memᴰ}
use Rattle.kinds.specs.declared.Pair.{Pair}
use Rattle.pools.specs.Cells as pool
use Rattle.kinds.specs.Pairs.{beats}
use Rattle.plain.specs.Strips.{end_of, number_of, Covers}

-- p ends before q, or with it and has a number no higher
pub record Ahead (p q : Pair) : Type 0 where
  pub end : end_of p ≤ end_of q
  pub number : end_of p ≡ end_of q → number_of p ≤ number_of q

-- q ends before p, or with it and has a number no higher
abbrev pub Behind : Pair → Pair → Type 0
Behind p q = Ahead q p

-- q does not beat p: it starts later, or with p and then ends later, or with p and has a number no lower
abbrev pub Unbeaten : Pair → Pair → Type 0
Unbeaten p q = beats q p ≡ false

-- covers u and ends no later than e
abbrev pub CoversBy : ℕ → ℕ → Pair → Type 0
CoversBy u e p = Covers u p × (end_of p ≤ e)

-- ends in u..v
abbrev pub EndsIn : ℕ → ℕ → Pair → Type 0
EndsIn u v p = (u ≤ end_of p) × (end_of p ≤ v)

-- some slot of u..v is covered
pub record CoversSome (u v : ℕ) (p : Pair) : Type 0 where
  pub slot : ℕ
  pub from : u ≤ slot
  pub to : slot ≤ v
  pub covered : Covers slot p

-- every slot of u..v is covered
abbrev pub CoversAll : ℕ → ℕ → Pair → Type 0
CoversAll u v p = (w : ℕ) → u ≤ w → w ≤ v → Covers w p

-- the strip that is drawn: it is stored, it is one of those asked for, and it stands ahead of every other of them
pub record Drawn (c : List ℕ) (Asked : Pair → Type 0) (Before : Pair → Pair → Type 0) (p : Pair) : Type 0 where
  pub stored : Memᴰ p (pool.stored c)
  pub asked : Asked p
  pub ahead : (q : Pair) → Memᴰ q (pool.stored c) → Asked q → Before p q

-- no stored strip is asked for
abbrev pub None : List ℕ → (Pair → Type 0) → Type 0
None c Asked = (q : Pair) → Memᴰ q (pool.stored c) → Asked q → ⊥
