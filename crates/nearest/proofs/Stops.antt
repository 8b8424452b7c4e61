-- What a walk relies on at a stop holds at the sons that it asks, a level lower. It assumes that a son's link leads to the tree that is read
-- there, and a stripe with a level below it, or no son.
use Rattle.std.specs.Prelude.{None}
use Prim.Native.Nat.{ℕ, zero, suc, ◌≤◌}
use mathlib.Core.Path.{◌≡◌, refl, sym, ap, ◌∙◌}
use mathlib.Core.Bool.{Bool, true, false, cond}
use mathlib.Core.List.{List}
use native.Mathlib.Omega.{arith}
use Rattle.kinds.specs.declared.Pair.{Pair}
use Rattle.kinds.specs.declared.Walked.{Walked}
use Rattle.pools.specs.Cells.{tree_at}
use Rattle.pools.specs.Sound.{Leads, nowhere}
use Rattle.stripes.specs.Stripe.{low_levels, all_levels, Stripe, left_part, right_part}
use Rattle.trees.specs.Tree.{Tree, none, fork, size, Within}
use Rattle.pools.proofs.Leads.{tree_none, tree_deeper}
use Rattle.walks.specs.Walks.{seen, ask}
use Rattle.slim.specs.declared.Slim.{Slim}
use Rattle.slim.specs.Slim.{stripe_by, left_slim, right_slim, SlimAt}
use Rattle.slim.proofs.Slims.{left_part_lem, right_part_lem}
use Rattle.nearest.specs.Waiting.{StopFits}

module _ (c : List ℕ) where
  -- a son that is asked, or none
  asked_leads : (go : Bool) (s : ℕ) → Leads c s (tree_at c low_levels s) → Leads c (cond go s 0) (tree_at c all_levels (cond go s 0))
  asked_leads true s o = rw (tree_deeper c low_levels s o) o
  asked_leads false s o = rw (tree_none c all_levels 0 refl) nowhere

  -- law: it has no more levels than it has
  pub asked_within : (go : Bool) (s j : ℕ) → Leads c s (tree_at c low_levels s) → Within j (tree_at c low_levels s) → Within j (tree_at c all_levels (cond go s 0))
  asked_within true s j o w = rw (tree_deeper c low_levels s o) w
  asked_within false s j o w = rw (tree_none c all_levels 0 refl) tt

  -- law: a son that is asked fits a level lower
  pub asked_fits : (go : Bool) (s j e : ℕ) (at : Slim) → Leads c s (tree_at c low_levels s) → Within j (tree_at c low_levels s)
      → SlimAt e at → Within (suc e) (tree_at c low_levels s) → StopFits c j (record { slot = cond go s 0; at = at })
  asked_fits go s j e at o w h r = record {
    leads = asked_leads go s o;
    levels = asked_within go s j o w;
    height = e;
    slim = h;
    room = asked_within go s (suc e) o r;
  }

  -- law: and has no more slots than it has
  pub asked_size : (go : Bool) (s : ℕ) → Leads c s (tree_at c low_levels s) → size (tree_at c all_levels (cond go s 0)) ≤ size (tree_at c low_levels s)
  asked_size true s o = rw (tree_deeper c low_levels s o) (omega arith)
  asked_size false s o = rw (tree_none c all_levels 0 refl) (omega arith)

  module _ (W : Stripe → Tree Pair → Walked) (empty : (at : Stripe) → W at none ≡ seen None 0) where
    -- law: a walk from it is a son's walk, asked or not
    pub asked_walk : (go : Bool) (s : ℕ) (at : Stripe) → Leads c s (tree_at c low_levels s)
        → ask go (W at (tree_at c low_levels s)) ≡ W at (tree_at c all_levels (cond go s 0))
    asked_walk true s at o = rw (tree_deeper c low_levels s o)
    asked_walk false s at o = rw (tree_none c all_levels 0 refl) (sym (empty at))

-- law: a walk from a slim part is that from the part, or there is no tree to walk
module _ (W : Stripe → Tree Pair → Walked) (empty : (at : Stripe) → W at none ≡ seen None 0) where
  pub left_same : (k : ℕ) (s : Slim) → SlimAt k s → (t : Tree Pair) → Within k t → W (left_part (stripe_by s)) t ≡ W (stripe_by (left_slim s)) t
  left_same zero s h none w = empty _ ∙ sym (empty _)
  left_same zero s h (fork n p l r) w = absurd w
  left_same (suc k) s h t w = ap (λ at. W at t) (sym (left_part_lem k s h))

  pub right_same : (k : ℕ) (s : Slim) → SlimAt k s → (t : Tree Pair) → Within k t → W (right_part (stripe_by s)) t ≡ W (stripe_by (right_slim s)) t
  right_same zero s h none w = empty _ ∙ sym (empty _)
  right_same zero s h (fork n p l r) w = absurd w
  right_same (suc k) s h t w = ap (λ at. W at t) (sym (right_part_lem k s h))
