-- A place whose slot is written with a pair, and its son's place on one side: the son's place is one in the cells then, and where that was
-- replaced, the first was. It assumes a place with a slot and a level below it.
use Prim.Native.Nat.{ℕ, suc, ◌+◌, ◌*◌, ◌/◌}
use mathlib.Core.Path.{◌≡◌, refl, sym, ap, ◌∙◌, subst}
use mathlib.Core.Logic.{◌≢◌}
use mathlib.Core.Bool.{Bool, true, false, not}
use mathlib.Core.List.{List}
use native.Mathlib.Omega.{arith}
use lib.ListN.{length, get_or}
use Rattle.kinds.specs.declared.Pair.{Pair}
use Rattle.trees.specs.Tree.{Tree}
use Rattle.trees.specs.Standing.{Stands, DistinctFork, Distinct}
use Rattle.pools.specs.Cells.{per_slot, pair_at, put_pair}
use Rattle.pools.specs.Links.{Fits, son_at, link_cell}
use Rattle.pools.specs.Sound.{Leads}
use Rattle.kinds.proofs.Order.{pair_ext}
use Rattle.pools.proofs.Leads.{tree_within, leads_tree}
use Rattle.pools.proofs.Agreement.{Agree, agree_same, same_slot, slot_fits, leads_frame, leads_slot, leads_top, WroteSlot, pair_wrote, pair_read, pair_left, pair_right}
use Rattle.way.specs.Way.{tree_there, Place, Replaced}
use Rattle.way.proofs.Links.{link_slot, link_low, link_inside, link_other, agree_cells, agree_get}
use Rattle.way.proofs.Sides.{fork_on, son_tree, tree_on, Outside, outside, distinct_on, ReadsOn, reads_on, on_reads}

-- c' is c, with the pair q in slot s
pub record Paired (c : List ℕ) (s : ℕ) (q : Pair) (c' : List ℕ) : Type 0 where
  pub wrote : WroteSlot c c' s
  pub pair : pair_at c' s ≡ q
  pub link : (left : Bool) → get_or c' (link_cell s left) 0 ≡ get_or c (link_cell s left) 0

module _ (c : List ℕ) (s : ℕ) where
  put_link : (q : Pair) (left : Bool) → get_or (put_pair c s q) (link_cell s left) 0 ≡ get_or c (link_cell s left) 0
  unfolding link_cell
  put_link q true = pair_left c s q
  put_link q false = pair_right c s q

  pub paired_put : (q : Pair) → Fits c s → Paired c s q (put_pair c s q)
  paired_put q f = record { wrote = pair_wrote c s q; pair = pair_read c s q f; link = put_link q }

  pub paired_same : Paired c s (pair_at c s) c
  paired_same = record { wrote = record { long = refl; rest = λ u n. agree_same }; pair = refl; link = λ left. refl }

module _ {c : List ℕ} {k cell : ℕ} (o : Place c (suc k) cell) (ne : get_or c cell 0 ≢ 0) (left : Bool) where
  abbrev s : ℕ
  s = get_or c cell 0

  abbrev near : Tree Pair
  near = son_tree c (suc k) s left

  abbrev far : Tree Pair
  far = son_tree c (suc k) s (not left)

  -- the slot there, seen from the side
  pub there_on : tree_there c (suc k) cell ≡ fork_on left s (pair_at c s) near far
  there_on = tree_on c (suc k) s left ne

  pub son_reads : ReadsOn c s near far left
  son_reads = reads_on s (pair_at c s) near far left (rw there_on at o.leads)

  pub son_distinct : DistinctFork s near far (Distinct near) (Distinct far)
  son_distinct = distinct_on s (pair_at c s) near far left (rw there_on at o.distinct)

  pub outside_on : {i : ℕ} → (Stands i (tree_there c (suc k) cell) → ⊥) → Outside i s near far
  outside_on n = outside s (pair_at c s) near far left (rw there_on at n)

  module _ {c' : List ℕ} {q : Pair} (w : Paired c s q c') where
    son_leads : Leads c' (get_or c' (link_cell s left) 0) near
    son_leads = rw (w.link left) (leads_frame w.wrote.long son_reads.near (λ u m. w.wrote.rest u (λ e. son_distinct.not_left (rw e at m))))

    -- law: the son's place holds the near tree
    pub son_tree_lem : tree_there c' k (link_cell s left) ≡ near
    son_tree_lem = leads_tree c' (suc k) son_leads (tree_within c (suc k) (son_at c s left))

    -- law: it is a place
    pub son_place : Place c' k (link_cell s left)
    son_place = record {
      inside = rw w.wrote.long (link_inside c s left (slot_fits son_reads.slot));
      leads = rw son_tree_lem son_leads;
      distinct = rw son_tree_lem son_distinct.left;
      apart = rw (link_slot s left, son_tree_lem) son_distinct.not_left;
      other = omega (arith, link_low s left, son_reads.slot.some);
    }

    module _ {t wide : Tree Pair} {d : List ℕ} (h : Replaced c' (link_cell s left) t wide d) (not-here : Stands s wide → ⊥) (out : Stands (cell / per_slot) wide → ⊥)
        (across : (u : ℕ) → Stands u wide → Stands u far → ⊥) where
      long : length d ≡ length c
      long = h.long ∙ w.wrote.long

      -- a cell of another slot
      kept : (j : ℕ) → j / per_slot ≢ s → j ≢ 2 → (Stands (j / per_slot) wide → ⊥) → get_or d j 0 ≡ get_or c j 0
      kept j n i m = h.rest j (λ e. n (ap (λ k. k / per_slot) e ∙ link_slot s left)) i m ∙ agree_get j (w.wrote.rest (j / per_slot) n)

      -- a cell of the slot, but for the son's link
      own : (j : ℕ) → j / per_slot ≡ s → j ≢ link_cell s left → get_or d j 0 ≡ get_or c' j 0
      own j e n = let i = son_reads.slot.some in h.rest j n (omega arith) (λ m. not-here (rw e at m))

      own_pair : pair_at d s ≡ q
      own_pair =
          let a = link_low s left in
          pair_ext (own (s * per_slot) (omega arith) (omega arith)) (own (s * per_slot + 1) (omega arith) (omega arith)) ∙ w.pair

      far_agree : (u : ℕ) → Stands u far → Agree c d u
      far_agree u m =
          let i = (leads_slot far son_reads.far m).some in
          agree_cells u (λ j e. kept j (λ z. son_distinct.not_right (subst (λ v. Stands v far) (sym e ∙ z) m)) (omega arith) (λ k. across u (rw e at k) m))

      far_leads : Leads d (get_or d (link_cell s (not left)) 0) far
      far_leads = rw (own (link_cell s (not left)) (link_slot s (not left)) (link_other s left), w.link (not left)) (leads_frame long son_reads.far far_agree)

      -- law: the place holds the slot with q over what the son's place holds
      pub replaced_up : (p : Pair) → Replaced c cell (fork_on left s q t far) (fork_on left s p wide far) d
      replaced_up p =
          let L = on_reads s q t far left (same_slot long son_reads.slot) own_pair (rw h.link h.leads) far_leads in
          record {
            long = long;
            link = kept cell (outside_on o.apart).top o.other out ∙ leads_top L;
            leads = subst (λ v. Leads d v (fork_on left s q t far)) (leads_top L) L;
            rest = λ j n z m. let e = outside s p wide far left m in kept j e.top z e.near;
          }

    -- law: so where the son's place held the near tree and no other slot was written
    pub replaced_near : {t : Tree Pair} {d : List ℕ} → Replaced c' (link_cell s left) t (tree_there c' k (link_cell s left)) d
        → Replaced c cell (fork_on left s q t far) (tree_there c (suc k) cell) d
    replaced_near h =
        let D = son_distinct in
        rw there_on (replaced_up (rw son_tree_lem at h) D.not_left (outside_on o.apart).near D.across (pair_at c s))
