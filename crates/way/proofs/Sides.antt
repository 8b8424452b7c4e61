-- A slot seen from one of its sons: that son's tree is near, the other's far. Every law about a fork and a side is stated here once, for both sides.
use Prim.Native.Nat.{ℕ, suc}
use mathlib.Core.Path.{◌≡◌, refl, ap, subst}
use mathlib.Core.Logic.{◌≢◌}
use mathlib.Core.Bool.{Bool, true, false, not, cond}
use mathlib.Core.List.{List}
use lib.Dec.{ltb}
use lib.ListN.{get_or}
use borrow.Author.Tests.{ne_eqb}
use Rattle.kinds.specs.declared.Pair.{Pair}
use Rattle.stripes.specs.Stripe.{Stripe, In, middle, left_part, right_part}
use Rattle.stripes.specs.Heights.{part_of, stripe_at}
use Rattle.trees.specs.Tree.{Tree, fork, All, Mem, in_left, in_right, Under, Well, itself}
use Rattle.trees.specs.Standing.{Stands, at_top, at_left, at_right, DistinctFork, Distinct, New}
use Rattle.trees.specs.Changes.{met}
use Rattle.pools.specs.Cells.{pair_at, tree_at}
use Rattle.pools.specs.Links.{son_at, link_cell}
use Rattle.pools.specs.Sound.{Slot, Leads}
use Rattle.stripes.proofs.Heights.{one_at, part_at}
use Rattle.pools.proofs.Leads.{tree_fork}
use Rattle.pools.proofs.Agreement.{slot_as, leads_reads}

-- the slot s with p, the near tree on the side given and the far tree on the other
unfoldable pub fork_on : Bool → ℕ → Pair → Tree Pair → Tree Pair → Tree Pair
fork_on left s p near far = cond left (fork s p near far) (fork s p far near)

-- the tree of a slot's son on a side, read so many levels down
abbrev pub son_tree : List ℕ → ℕ → ℕ → Bool → Tree Pair
son_tree c k s left = tree_at c k (son_at c s left)

-- law: what is read at a slot
pub tree_on : (c : List ℕ) (k s : ℕ) (left : Bool) → s ≢ 0 → tree_at c (suc k) s ≡ fork_on left s (pair_at c s) (son_tree c k s left) (son_tree c k s (not left))
unfolding fork_on son_at
tree_on c k s true n = tree_fork c k s n
tree_on c k s false n = tree_fork c k s n

module _ (c : List ℕ) (k s : ℕ) (ne : s ≢ 0) where
  -- law: its x lies in the stripe
  pub inside_slot : (at : Stripe) → Well itself at (tree_at c (suc k) s) → In at (pair_at c s).x
  inside_slot at w = (rw (tree_fork c k s ne) at w).inside

  -- law: where that is another x than the one whose stripe it is, there is a level below
  pub level_below : (x : ℕ) → Well itself (stripe_at k x) (tree_at c (suc k) s) → (pair_at c s).x ≢ x → k ≢ 0
  level_below x w nx e = nx (one_at x (pair_at c s).x (subst (λ j. In (stripe_at j x) (pair_at c s).x) e (inside_slot (stripe_at k x) w)))

-- i is none of its slots
pub record Outside (i s : ℕ) (u v : Tree Pair) : Type 0 where
  pub top : i ≢ s
  pub near : Stands i u → ⊥
  pub far : Stands i v → ⊥

-- the links of a slot in the cells lead to its trees
pub record ReadsOn (c : List ℕ) (s : ℕ) (u v : Tree Pair) (left : Bool) : Type 0 where
  pub slot : Slot c s
  pub near : Leads c (get_or c (link_cell s left) 0) u
  pub far : Leads c (get_or c (link_cell s (not left)) 0) v

-- the side of the middle on which x lies, in the stripe that it lies in with k levels below it
abbrev pub side_of : ℕ → ℕ → Bool
side_of k x = ltb x (middle (stripe_at k x))

-- law: the stripe of the son on that side
pub part_side : (k x : ℕ) (left : Bool) → side_of (suc k) x ≡ left → cond left (left_part (stripe_at (suc k) x)) (right_part (stripe_at (suc k) x)) ≡ stripe_at k x
unfolding part_of
part_side k x left e = rw e at (part_at k x)

-- a slot of a well-formed tree: its pair may stand over the near tree, which is well formed in the son's stripe
pub record WellOn (k x : ℕ) (p : Pair) (u : Tree Pair) : Type 0 where
  pub over : All (λ q. Under p q) u
  pub near : Well itself (stripe_at k x) u

module _ (s : ℕ) (p : Pair) (near far : Tree Pair) where
  -- law: its slots
  pub outside : {i : ℕ} (left : Bool) → (Stands i (fork_on left s p near far) → ⊥) → Outside i s near far
  unfolding fork_on
  outside true n = record { top = λ e. n (at_top e); near = λ m. n (at_left m); far = λ m. n (at_right m) }
  outside false n = record { top = λ e. n (at_top e); near = λ m. n (at_right m); far = λ m. n (at_left m) }

  pub distinct_on : (left : Bool) → Distinct (fork_on left s p near far) → DistinctFork s near far (Distinct near) (Distinct far)
  unfolding fork_on
  distinct_on true d = d
  distinct_on false d = record { not_left = d.not_right; not_right = d.not_left; across = λ i a b. d.across i b a; left = d.right; right = d.left }

  -- law: its links
  pub reads_on : {c : List ℕ} {i : ℕ} (left : Bool) → Leads c i (fork_on left s p near far) → ReadsOn c s near far left
  unfolding fork_on link_cell
  reads_on true h = let k = leads_reads h in record { slot = k.slot; near = k.left; far = k.right }
  reads_on false h = let k = leads_reads h in record { slot = k.slot; near = k.right; far = k.left }

  pub on_reads : {c : List ℕ} (left : Bool) → Slot c s → pair_at c s ≡ p → Leads c (get_or c (link_cell s left) 0) near
      → Leads c (get_or c (link_cell s (not left)) 0) far → Leads c s (fork_on left s p near far)
  unfolding fork_on link_cell
  on_reads true o e L R = slot_as o e refl refl L R
  on_reads false o e L R = slot_as o e refl refl R L

  -- law: its members
  pub mem_near : {q : Pair} (left : Bool) → Mem q near → Mem q (fork_on left s p near far)
  unfolding fork_on
  mem_near true m = in_left m
  mem_near false m = in_right m

  pub new_near : (left : Bool) (x : ℕ) → New itself x (fork_on left s p near far) → (x ≢ p.x) × New itself x near
  unfolding fork_on
  new_near true x n = (n.0, n.1)
  new_near false x n = (n.0, n.2)

  -- seen from the side on which x lies
  module _ (k x : ℕ) where
    -- law: its stripe
    pub well_on : (left : Bool) → side_of (suc k) x ≡ left → Well itself (stripe_at (suc k) x) (fork_on left s p near far) → WellOn k x p near
    unfolding fork_on
    well_on true e w = record { over = w.over_left; near = subst (λ at. Well itself at near) (part_side k x true e) w.left }
    well_on false e w = record { over = w.over_right; near = subst (λ at. Well itself at near) (part_side k x false e) w.right }

    -- law: x is looked for on its side
    pub met_on : (left : Bool) → side_of (suc k) x ≡ left → p.x ≢ x → met itself x (stripe_at (suc k) x) (fork_on left s p near far) ≡ met itself x (stripe_at k x) near
    unfolding fork_on met
    met_on true e n = rw (ne_eqb p.x x n, e) (ap (λ at. met itself x at near) (part_side k x true e))
    met_on false e n = rw (ne_eqb p.x x n, e) (ap (λ at. met itself x at near) (part_side k x false e))
