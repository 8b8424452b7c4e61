-- Which slots and which x a tree has. No promise needs these; they serve the laws on how the cells change, and the contracts of the changes.
use Rattle.std.specs.Prelude.{ℕ, ◌≡◌, ◌≢◌, List, [], ◌∷◌, ◌++◌}
use Rattle.kinds.specs.declared.Pair.{Pair}
use Rattle.trees.specs.Tree.{Tree, none, fork, All}

-- the slots' numbers: father, left, right
abbrev pub slots : {A : Type 0} → Tree A → List ℕ
slots none = []
slots (fork s p l r) = s ∷ (slots l ++ slots r)

-- u is a slot of the tree
pub data Stands {A : Type 0} (u : ℕ) : Tree A → Type 0 where
  at_top : {s : ℕ} {p : A} {l r : Tree A} → u ≡ s → Stands u (fork s p l r)
  at_left : {s : ℕ} {p : A} {l r : Tree A} → Stands u l → Stands u (fork s p l r)
  at_right : {s : ℕ} {p : A} {l r : Tree A} → Stands u r → Stands u (fork s p l r)

-- a slot whose number stands nowhere below it, over its sons' trees, which have no slot in common
pub record DistinctFork {A : Type 0} (s : ℕ) (l r : Tree A) (L R : Type 0) : Type 0 where
  pub not_left : Stands s l → ⊥
  pub not_right : Stands s r → ⊥
  pub across : (u : ℕ) → Stands u l → Stands u r → ⊥
  pub left : L
  pub right : R

-- no slot stands twice
abbrev pub Distinct : {A : Type 0} → Tree A → Type 0
Distinct none = Unit {0}
Distinct (fork s p l r) = DistinctFork s l r (Distinct l) (Distinct r)

-- no slot holds this x
abbrev pub New : {A : Type 0} → (A → Pair) → ℕ → Tree A → Type 0
New key x t = All (λ q. x ≢ (key q).x) t
