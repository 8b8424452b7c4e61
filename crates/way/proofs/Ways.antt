-- The way down to x in a sound pool, by induction over it: each of its places is one of the tree, in the stripe that x lies in; x is met
-- from there on exactly where it is stored; and what is replaced at the place is replaced at the root.
use Prim.Native.Nat.{ℕ, suc, ◌-◌, ◌≤◌}
use mathlib.Core.Path.{◌≡◌, refl, sym, ap, ◌∙◌}
use mathlib.Core.Logic.{◌≢◌}
use mathlib.Core.Bool.{Bool, true, false, not}
use mathlib.Core.List.{List}
use native.Mathlib.Omega.{arith}
use lib.Dec.{eqb}
use lib.ListN.{get_or}
use borrow.Author.Tests.{eqb-true, eqb-false}
use Rattle.kinds.specs.declared.Pair.{Pair}
use Rattle.plain.specs.Plain.{has_x}
use Rattle.stripes.specs.Stripe.{root_stripe, low_levels}
use Rattle.stripes.specs.Heights.{stripe_at}
use Rattle.trees.specs.Tree.{Tree, Mem, here, Well, itself}
use Rattle.trees.specs.Changes.{met}
use Rattle.pools.specs.Cells.{pair_at, stored}
use Rattle.pools.specs.Links.{Fits, link_cell}
use Rattle.pools.specs.Sound.{Sound}
use Rattle.kinds.proofs.Tests.{on as on_test_lem}
use Rattle.stripes.proofs.Heights.{root_at}
use Rattle.pools.proofs.Leads.{back, tree_none, tree_fork, leads_fits}
use Rattle.trees.proofs.Halving.{unmet_new}
use Rattle.pools.proofs.Decided.{sound_well, sound_tree}
use Rattle.pools.proofs.Agreement.{header_fits}
use Rattle.pools.proofs.Slots.{sound_distinct, tree_slot}
use Rattle.pools.proofs.InTree.{of_new, mem_has_x}
use Rattle.way.specs.Way.{tree_there, Place, Replaced, OnTheWay, root, on, WayEnds}
use Rattle.way.proofs.Sides.{fork_on, son_tree, side_of, level_below, well_on, met_on, mem_near}
use Rattle.way.proofs.Replacing.{paired_same, there_on, son_tree_lem, son_place, replaced_near}

-- the root's tree, where the place holds t
unfoldable pub around : {c : List ℕ} {x k cell : ℕ} → OnTheWay c x k cell → Tree Pair → Tree Pair
around (root i) t = t
around {c} {x} (on {k} {cell} w ne nx) t =
    let s = get_or c cell 0 in
    around w (fork_on (side_of (suc k) x) s (pair_at c s) t (son_tree c (suc k) s (not (side_of (suc k) x))))

-- law: it has few levels below it
pub few_levels : {c : List ℕ} {x k cell : ℕ} → OnTheWay c x k cell → k ≤ low_levels
few_levels (root i) = omega arith
few_levels (on w ne nx) = let h = few_levels w in omega arith

-- law: what t holds the whole holds
mem_around : {c : List ℕ} {x k cell : ℕ} {q : Pair} {t : Tree Pair} (w : OnTheWay c x k cell) → Mem q t → Mem q (around w t)
unfolding around
mem_around (root i) m = m
mem_around {c} {x} {t = t} (on {k} {cell} w ne nx) m = mem_around w (mem_near (get_or c cell 0) (pair_at c (get_or c cell 0)) t _ (side_of (suc k) x) m)

-- a level less
way_next : {c : List ℕ} {x k cell : ℕ} (j : ℕ) → k ≡ suc j → OnTheWay c x k cell → get_or c cell 0 ≢ 0 → (pair_at c (get_or c cell 0)).x ≢ x
    → OnTheWay c x j (link_cell (get_or c cell 0) (side_of k x))
way_next j e w ne nx = rw e (on (rw e at w) ne nx)

module _ {c : List ℕ} (s : Sound c) where
  -- law: the root's place
  pub root_place : Place c low_levels 1
  root_place =
      let f = header_fits s.pool in
      let t = sound_tree c s in
      record {
        inside = omega arith;
        leads = rw t s.links;
        distinct = rw t (sound_distinct s);
        apart = rw t (λ m. omega (arith, (tree_slot s m).some));
        other = omega arith;
      }

  module _ {x : ℕ} where
    -- law: each place on the way is one
    pub place_there : {k cell : ℕ} → OnTheWay c x k cell → Place c k cell
    place_there (root i) = root_place
    place_there (on {k} {cell} w ne nx) = son_place (place_there w) ne (side_of (suc k) x) (paired_same c (get_or c cell 0))

    -- from a slot with another x to its son's place
    module _ {k cell : ℕ} (w : OnTheWay c x (suc k) cell) (ne : get_or c cell 0 ≢ 0) where
      abbrev slot : ℕ
      slot = get_or c cell 0

      abbrev left : Bool
      left = side_of (suc k) x

      abbrev near : Tree Pair
      near = son_tree c (suc k) slot left

      abbrev far : Tree Pair
      far = son_tree c (suc k) slot (not left)

      near_there : tree_there c k (link_cell slot left) ≡ near
      near_there = son_tree_lem (place_there w) ne left (paired_same c slot)

      slot_there : tree_there c (suc k) cell ≡ fork_on left slot (pair_at c slot) near far
      slot_there = there_on (place_there w) ne left

      well_son : Well itself (stripe_at (suc k) x) (tree_there c (suc k) cell) → Well itself (stripe_at k x) (tree_there c k (link_cell slot left))
      well_son h = rw near_there (well_on slot (pair_at c slot) near far k x left refl (rw slot_there at h)).near

      met_son : (pair_at c slot).x ≢ x → met itself x (stripe_at k x) (tree_there c k (link_cell slot left)) ≡ met itself x (stripe_at (suc k) x) (tree_there c (suc k) cell)
      met_son nx = rw (near_there, slot_there) (sym (met_on slot (pair_at c slot) near far k x left refl nx))

      around_son : fork_on left slot (pair_at c slot) (tree_there c k (link_cell slot left)) far ≡ tree_there c (suc k) cell
      around_son = rw (near_there, slot_there)

    -- law: its tree is well formed in the stripe that x lies in
    pub well_there : {k cell : ℕ} → OnTheWay c x k cell → Well itself (stripe_at k x) (tree_there c k cell)
    well_there (root i) = rw (root_at x i.to, sound_tree c s) (sound_well c s)
    well_there (on w ne nx) = well_son w ne (well_there w)

    -- law: x is met from there on exactly where it is met from the root
    met_there : {k cell : ℕ} → OnTheWay c x k cell → met itself x (stripe_at k x) (tree_there c k cell) ≡ met itself x root_stripe s.tree
    met_there (root i) = rw (root_at x i.to, sound_tree c s)
    met_there (on w ne nx) = met_son w ne nx ∙ met_there w

    -- law: the root's tree holds what the place holds
    pub around_same : {k cell : ℕ} (w : OnTheWay c x k cell) → around w (tree_there c k cell) ≡ s.tree
    unfolding around
    around_same (root i) = sound_tree c s
    around_same (on w ne nx) = ap (around w) (around_son w ne) ∙ around_same w

    -- law: what is replaced at the place is replaced at the root
    pub replaced_root : {k cell : ℕ} {t : Tree Pair} {d : List ℕ} (w : OnTheWay c x k cell) → Replaced c cell t (tree_there c k cell) d → Replaced c 1 (around w t) s.tree d
    unfolding around
    replaced_root (root i) h = rw (sound_tree c s) at h
    replaced_root (on {k} {cell} w ne nx) h = replaced_root w (replaced_near (place_there w) ne (side_of (suc k) x) (paired_same c (get_or c cell 0)) h)

    -- a slot on the way
    module _ {k cell : ℕ} (w : OnTheWay c x k cell) (ne : get_or c cell 0 ≢ 0) where
      pub slot_on_way : Fits c (get_or c cell 0)
      slot_on_way = leads_fits c (place_there w).leads ne

      -- law: the tree holds its pair
      pub mem_there : Mem (pair_at c (get_or c cell 0)) s.tree
      mem_there =
          let m : Mem (pair_at c (get_or c cell 0)) (tree_there c k cell) = rw (tree_fork c k (get_or c cell 0) ne) (here refl) in
          rw (around_same w) at (mem_around w m)

      module _ {q : Pair} (eq : q ≡ pair_at c (get_or c cell 0)) (nx : q.x ≢ x) where
        other_x : (pair_at c (get_or c cell 0)).x ≢ x
        other_x = rw eq at nx

        deep : k ≢ 0
        deep = level_below c k (get_or c cell 0) ne x (well_there w) other_x

        -- law: there is a level below
        pub a_level : 1 ≤ k
        a_level = let d = deep in omega arith

        -- law: the way goes on to the son on x's side
        pub way_on : {left : Bool} {son : ℕ} → left ≡ side_of k x → son ≡ link_cell (get_or c cell 0) left → OnTheWay c x (k - 1) son
        way_on el es = rw (es, el) (way_next (k - 1) (sym (back k deep)) w ne other_x)

    -- where the way ends
    module _ {k cell : ℕ} (E : WayEnds c x k cell) where
      -- law: x is stored where a slot is met
      pub stored_there : get_or c cell 0 ≢ 0 → has_x x (stored c) ≡ true
      stored_there ne = rw (E.met ne) at (mem_has_x s (pair_at c (get_or c cell 0)) (mem_there E.way ne))

      -- law: and not where the place is empty
      pub missing_there : get_or c cell 0 ≡ 0 → has_x x (stored c) ≡ false
      unfolding met
      missing_there z = of_new s x (unmet_new itself x root_stripe s.tree (sound_well c s) (sym (met_there E.way) ∙ rw (tree_none c (suc k) (get_or c cell 0) z)))

      -- law: so it is stored exactly where the place is not empty
      pub stored_met : not (eqb (get_or c cell 0) 0) ≡ has_x x (stored c)
      stored_met = on_test_lem (eqb (get_or c cell 0) 0) (λ t. rw t (sym (missing_there (eqb-true _ _ t)))) (λ t. rw t (sym (stored_there (eqb-false _ _ t))))
