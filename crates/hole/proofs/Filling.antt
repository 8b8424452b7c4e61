-- The filling of a hole, a level at a time: a slot with no sons is given up; else the heir's pair moves up, the hole is at the heir's place,
-- and where that is filled, so is the first. It assumes a place with a slot (`Hole`).
use Prim.Native.Nat.{ℕ, suc, ◌-◌, ◌/◌}
use mathlib.Core.Path.{◌≡◌, refl, sym, ap, ◌∙◌}
use mathlib.Core.Logic.{◌≢◌}
use mathlib.Core.Bool.{Bool, true, false, not}
use mathlib.Core.List.{List}
use native.Mathlib.Omega.{arith}
use lib.Dec.{eqb}
use lib.ListN.{get_or, set, length-set}
use lib.Seq.{get_or-set_same, get_or-set_other}
use borrow.Author.Tests.{eqb-true, eqb-false}
use Rattle.std.specs.Prelude.{None, Some}
use Rattle.kinds.specs.declared.Pair.{Pair}
use Rattle.kinds.specs.Pairs.{beats}
use Rattle.trees.specs.Tree.{Tree, none, fork, itself}
use Rattle.trees.specs.Standing.{at_top}
use Rattle.trees.specs.Changes.{fill}
use Rattle.pools.specs.Cells.{per_slot, free_of, pair_at, left_at, right_at, put_free, tree_at}
use Rattle.pools.specs.Links.{Fits, son_at, link_cell}
use Rattle.pools.specs.Sound.{nowhere, Leads}
use Rattle.kinds.proofs.Tests.{on}
use Rattle.pools.proofs.Leads.{back, tree_none, tree_fork, leads_deep, leads_fits, leads_son}
use Rattle.pools.proofs.Agreement.{holds_agree, holds_free, leads_reads, free_wrote, free_read}
use Rattle.way.specs.Way.{tree_there}
use Rattle.way.proofs.Links.{link_inside, link_son, agree_get, cell_agree}
use Rattle.way.proofs.Sides.{son_tree}
use Rattle.way.proofs.Replacing.{Paired, paired_put, there_on, son_tree_lem, son_place, replaced_near}
use Rattle.heirs.specs.Heirs.{Sons, Heirs, Promotes, promoted, released}
use Rattle.hole.specs.Hole.{Hole, Freed}
use Rattle.hole.proofs.Cuts.{cut_on, Wins, alone, over, fill_on}
use Rattle.hole.proofs.Heired.{Heired, heired, childless, won}

module _ {c : List ℕ} {k cell : ℕ} (o : Hole c k cell) where
  abbrev s : ℕ
  s = get_or c cell 0

  hole_fits : Fits c s
  hole_fits = leads_fits c o.place.leads o.there

  pub hole_sons : Sons c s
  unfolding son_at
  hole_sons = record {
    here = hole_fits;
    left = leads_fits c (leads_son c k s true o.place.leads o.there);
    right = leads_fits c (leads_son c k s false o.place.leads o.there);
  }

  -- a slot with no sons
  module _ (e : tree_there c k cell ≡ fork s (pair_at c s) none none) where
    abbrev unlinked : List ℕ
    unlinked = set c cell 0

    abbrev freed : List ℕ
    freed = put_free unlinked s (free_of c)

    given_up : Freed c k cell (released c cell s)
    unfolding released fill
    given_up =
        let some = (leads_reads (rw e at o.place.leads)).slot.some in
        let fits = hole_fits in
        let inside = o.place.inside in
        let long = length-set c cell 0 in
        let W = free_wrote unlinked s (free_of c) in
        let wide = W.long in
        let apart : cell / per_slot ≢ s = (λ z. (rw e at o.place.apart) (at_top z)) in
        let first : free_of (set freed 2 s) ≡ s = get_or-set_same freed 2 s 0 (omega arith) in
        let H = holds_agree (free_read unlinked s (free_of c) (omega arith)) (cell_agree freed 2 s s (omega arith)) in
        record {
          place = rw e (record {
            long = length-set freed 2 s ∙ wide ∙ long;
            link = get_or-set_other freed 2 cell s 0 o.place.other ∙ agree_get cell (W.rest (cell / per_slot) apart) ∙ get_or-set_same c cell 0 0 inside;
            leads = nowhere;
            rest = λ j n t m. get_or-set_other freed 2 j s 0 t ∙ agree_get j (W.rest (j / per_slot) (λ z. m (at_top z))) ∙ get_or-set_other c cell j 0 0 n;
          });
          first = rw e first;
          form = rw first (holds_free H);
          next = rw first H.right;
        }

  -- law: the last slot
  pub last_freed : {d : List ℕ} → Heirs c s None → d ≡ released c cell s → Freed c k cell d
  last_freed H e =
      let no = childless H refl in
      rw e (given_up (rw (tree_fork c k s o.there, tree_none c k (left_at c s) no.0, tree_none c k (right_at c s) no.1) refl))

  -- a slot with a son on a side
  module _ (left : Bool) (t : son_at c s left ≢ 0) where
    near_leads : Leads c (son_at c s left) (son_tree c k s left)
    near_leads = leads_son c k s left o.place.leads o.there

    deep : k ≢ 0
    deep = leads_deep c k (son_at c s left) near_leads t

    son_promotes : Promotes c s (link_cell s left)
    son_promotes = record { to = hole_fits; inside = link_inside c s left hole_fits; from = rw (link_son c s left) (leads_fits c near_leads t) }

    promoted_paired : Paired c s (pair_at c (son_at c s left)) (promoted c s (link_cell s left))
    unfolding promoted
    promoted_paired = rw (link_son c s left) (paired_put c s (pair_at c (son_at c s left)) hole_fits)

-- the heir's pair moves up from a side
module _ {c : List ℕ} {k cell : ℕ} (o : Hole c (suc k) cell) (left : Bool) (t : son_at c (get_or c cell 0) left ≢ 0)
    (w : son_at c (get_or c cell 0) (not left) ≢ 0 → beats (pair_at c (left_at c (get_or c cell 0))) (pair_at c (right_at c (get_or c cell 0))) ≡ left) where
  abbrev slot : ℕ
  slot = get_or c cell 0

  abbrev heir : ℕ
  heir = son_at c slot left

  abbrev far : Tree Pair
  far = son_tree c (suc k) slot (not left)

  abbrev c' : List ℕ
  c' = promoted c slot (link_cell slot left)

  moved_up : Paired c slot (pair_at c heir) c'
  moved_up = promoted_paired o left t

  wins : Wins left (pair_at c heir) far
  wins =
      let i = son_at c slot (not left) in
      on (eqb i 0) (λ e. rw (tree_none c (suc k) i (eqb-true i 0 e)) alone)
      (λ e. let n = eqb-false i 0 e in rw (tree_fork c k i n) (over (won c slot left (w n))))

  filled : fill itself (tree_there c (suc k) cell) ≡ cut_on left slot (pair_at c heir) far (fill itself (tree_there c' k (link_cell slot left)))
  filled = rw (there_on o.place o.there left, son_tree_lem o.place o.there left moved_up, tree_fork c k heir t)
      (fill_on slot heir (pair_at c slot) (tree_at c k (left_at c heir)) (tree_at c k (right_at c heir)) left wins)

  son_hole : Hole c' k (link_cell slot left)
  son_hole = record { place = son_place o.place o.there left moved_up; there = rw (moved_up.link left, link_son c slot left) t }

  same_free : free_of c' ≡ free_of c
  same_free = (moved_up.wrote.rest 0 (λ e. o.there (sym e))).left

  son_freed : {d : List ℕ} → Freed c' k (link_cell slot left) d → Freed c (suc k) cell d
  son_freed h = record {
    place = rw filled (replaced_near o.place o.there left moved_up h.place);
    first = h.first ∙ sym (ap (λ cut. cut.slot) filled);
    form = h.form;
    next = h.next ∙ same_free;
  }

-- the same of the heir as the code finds it
module _ {c : List ℕ} {k cell : ℕ} (o : Hole c k cell) {h : ℕ} (H : Heirs c (get_or c cell 0) (Some h)) where
  found : Heired c (get_or c cell 0) h
  found = heired H refl

  pub promotes : Promotes c (get_or c cell 0) h
  promotes = rw found.at (son_promotes o found.left found.there)

  -- law: there is a level below
  pub deeper : k ≢ 0
  deeper = deep o found.left found.there

  same_hole : Hole c (suc (k - 1)) cell
  same_hole = rw (back k deeper) o

  module _ {c' : List ℕ} (e : c' ≡ promoted c (get_or c cell 0) h) where
    -- law: the hole is at the heir's place
    pub next_hole : Hole c' (k - 1) h
    next_hole = rw (e, found.at) (son_hole same_hole found.left found.there found.wins)

    -- law: where it is filled there, it is filled here
    pub next_freed : {d : List ℕ} → Freed c' (k - 1) h d → Freed c k cell d
    next_freed {d} f =
        let N : Freed c (suc (k - 1)) cell d = son_freed same_hole found.left found.there found.wins (rw (e, found.at) at f) in
        rw (back k deeper) at N
