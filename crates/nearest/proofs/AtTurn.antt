-- One law for each turn of the loop. Each assumes that the walk goes on at the turn's start, and what the code has read and tested since.
use Rattle.std.specs.Prelude.{Option, None}
use Prim.Native.Nat.{ℕ, zero, suc, ◌+◌, ◌*◌, ◌-◌, ◌≤◌, ◌<◌}
use mathlib.Core.Path.{◌≡◌, refl, ◌∙◌}
use mathlib.Core.Bool.{Bool, true, false, cond}
use mathlib.Core.List.{List, ◌∷◌}
use native.Mathlib.Omega.{arith}
use lib.ListN.{length, set, length-set}
use Rattle.kinds.specs.declared.Limits.{Limits}
use Rattle.kinds.specs.declared.Pair.{Pair}
use Rattle.kinds.specs.declared.Walked.{Walked}
use Rattle.pools.specs.Cells.{pair_at, root_of, tree_at}
use Rattle.pools.specs.Links.{Fits}
use Rattle.plain.specs.Plain.{in_range}
use Rattle.pools.specs.Sound.{Sound}
use Rattle.stripes.specs.Stripe.{low_levels, all_levels, Stripe, root_stripe}
use Rattle.trees.specs.Tree.{Tree, size, Within}
use Rattle.walks.specs.Walks.{seen}
use Rattle.pools.proofs.Leads.{tree_none, tree_fork, tree_within, leads_fits}
use Rattle.questions.specs.Walking.{found_at}
use Rattle.questions.proofs.Finding.{no_slot, found_none}
use Rattle.questions.proofs.Top.{root_asked}
use Rattle.slim.specs.declared.Slim.{Slim}
use Rattle.slim.specs.Slim.{stripe_by, left_slim, right_slim, root_slim, MiddleFits}
use Rattle.slim.proofs.Slims.{root_slim_lem, slim_fits}
use Rattle.visit.specs.Asking.{Stop}
use Rattle.visit.specs.Asking.{no_stop, left_asked, right_asked}
use Rattle.visit.specs.Nearer.{Nearer}
use Rattle.visit.specs.Sides.{XWalk}
use Rattle.nearest.specs.Waiting.{waiting, or_next, stop_by_stop, slots_at, StopFits, StopsFit, GoesOn, InRows}
use Rattle.nearest.proofs.Rows.{stop_at, waiting_length, waiting_none, waiting_still, waiting_last, waiting_more}
use Rattle.nearest.proofs.GoesOn.{next, first_alone, ends, nothing_here, visit, fewer}
use Rattle.nearest.proofs.Sides.{SonsAsked, sons_asked}
use Rattle.nearest.proofs.Turns.{since_start, or_end}

-- what falls with each turn: a visit takes a slot away, and puts at most one stop behind those that wait
abbrev pub to_walk : List ℕ → List ℕ → List Slim → ℕ → Stop → ℕ
to_walk c slots stripes wait here = 2 * slots_at c (here ∷ waiting slots stripes wait) + wait

module _ (c : List ℕ) (s : ℕ) (ne : s ≡ 0 → ⊥) where
  a_slot : 1 ≤ size (tree_at c all_levels s)
  a_slot = rw (tree_fork c low_levels s ne) (omega arith)

  a_level : (k : ℕ) → Within k (tree_at c all_levels s) → 1 ≤ k
  a_level zero w = absurd (rw (tree_fork c low_levels s ne) at w)
  a_level (suc k) w = omega arith

still_less : (hit : Bool) (n : ℕ) → cond hit 0 n ≤ n
still_less true n = omega arith
still_less false n = omega arith

module _ {W : Stripe → Tree Pair → Walked} {closer : Pair → Pair → Bool} {c : List ℕ} {answer : Walked} {slots : List ℕ} {stripes : List Slim} {wait : ℕ} {here : Stop} {best v : ℕ}
    (H : InRows W closer c answer slots stripes wait here best v) where
  abbrev ws : List Stop
  ws = waiting slots stripes wait

  here_fits : StopFits c (all_levels - length ws) here
  unfolding StopsFit
  here_fits = H.goes_on.fit.0

  -- law: the middle there is a number of 32 bits
  pub middle_fits : MiddleFits here.at
  middle_fits = slim_fits here_fits.height here.at here_fits.slim

  -- law: the stop that came last is in the rows
  pub in_rows : (wait ≡ 0 → ⊥) → wait - 1 < low_levels
  in_rows nz = omega (arith, H.most)

  module _ (nz : wait ≡ 0 → ⊥) where
    pub pop_less : to_walk c slots stripes (wait - 1) (stop_at slots stripes (wait - 1)) < to_walk c slots stripes wait here
    unfolding slots_at
    pop_less = rw (waiting_last slots stripes wait nz) (omega (arith, nz))

  module _ (ne : here.slot ≡ 0 → ⊥) where
    pub fits : Fits c here.slot
    fits = leads_fits c here_fits.leads ne

    -- law: one more visit fits
    pub one_more : v + 1 < 4294967296
    unfolding slots_at
    one_more = let f = H.goes_on.few in let z = a_slot c here.slot ne in omega arith

    pub high_less : to_walk c slots stripes wait (no_stop here.at) < to_walk c slots stripes wait here
    unfolding slots_at
    high_less =
        let z = a_slot c here.slot ne in
        let n : size (tree_at c all_levels 0) ≡ 0 = rw (tree_none c all_levels 0 refl) in
        omega arith

  module _ {lf : Bool} {q : Limits} (B : XWalk W closer lf q) where
    after_none : here.slot ≡ 0 → GoesOn W closer c answer ws best v
    after_none z = next W B.empty c closer answer best v here ws z H.goes_on

    -- law: the walk is at its end where no stop is left
    pub at_end : here.slot ≡ 0 → wait ≡ 0 → {f : Option Pair} → f ≡ found_at c best → seen f v ≡ answer
    at_end z e ef = rw ef (ends W B.empty c closer answer best v (rw (waiting_none slots stripes wait e) at (after_none z)))

    -- law: the stop that came last is next
    pub pop : here.slot ≡ 0 → (wait ≡ 0 → ⊥) → InRows W closer c answer slots stripes (wait - 1) (stop_at slots stripes (wait - 1)) best v
    pop z nz = let m = H.most in record { room = H.room; most = omega arith; goes_on = rw (waiting_last slots stripes wait nz) at (after_none z) }

    module _ (ne : here.slot ≡ 0 → ⊥) {p : Pair} (ep : p ≡ pair_at c here.slot) where
      -- law: a slot whose y is too high gives nothing
      pub too_high_here : q.y1 < p.y → InRows W closer c answer slots stripes wait (no_stop here.at) best (v + 1)
      too_high_here h = record {
        room = H.room;
        most = H.most;
        goes_on = nothing_here W B.empty c closer answer best v q here ws _ _ H.goes_on ne (sons_asked c _ here q here_fits ne B refl refl refl refl refl refl) p ep h;
      }

      module _ (h : p.y ≤ q.y1) {hit : Bool} (eh : hit ≡ in_range q.x0 q.x1 p) {b : ℕ} (N : Nearer c closer hit here.slot best b)
          {kept : ℕ} (ek : kept ≡ cond hit 0 wait) {l r n f : ℕ} (el : l ≡ left_asked c here.slot (stripe_by here.at) q.x0) (er : r ≡ right_asked c here.slot (stripe_by here.at) q.x1)
          (en : n ≡ cond lf l r) (ef : f ≡ cond lf r l) {lp rp np fp : Slim} (elp : lp ≡ left_slim here.at) (erp : rp ≡ right_slim here.at)
          (enp : np ≡ cond lf lp rp) (efp : fp ≡ cond lf rp lp) where
        abbrev near : Stop
        near = record { slot = n; at = np }

        abbrev far : Stop
        far = record { slot = f; at = fp }

        asked : SonsAsked W closer q c (all_levels - length ws) here near far
        asked = sons_asked c (all_levels - length ws) here q here_fits ne B el er en ef (enp ∙ (λ i. cond lf (elp i) (erp i))) (efp ∙ (λ i. cond lf (erp i) (elp i)))

        after_visit : GoesOn W closer c answer (near ∷ far ∷ waiting slots stripes kept) b (v + 1)
        after_visit = rw (ek, waiting_still slots stripes hit wait) (visit W B.empty c closer answer best v q here ws near far H.goes_on ne asked B.ranks p ep h hit eh b N)

        fewer_slots : slots_at c (near ∷ far ∷ waiting slots stripes kept) + 1 ≤ slots_at c (here ∷ ws)
        fewer_slots = rw (ek, waiting_still slots stripes hit wait) (fewer W B.empty c closer answer best v q here ws near far H.goes_on ne asked hit)

        fewer_wait : kept ≤ wait
        fewer_wait = rw ek (still_less hit wait)

        -- law: the far son is next where the near one is not asked
        pub to_far : near.slot ≡ 0 → InRows W closer c answer slots stripes kept far b (v + 1)
        to_far e = record {
          room = H.room;
          most = omega (arith, H.most, fewer_wait);
          goes_on = next W B.empty c closer answer b (v + 1) near (far ∷ waiting slots stripes kept) e after_visit;
        }

        -- law: the near son is next, and where the far one is not asked none waits behind it
        pub to_near : far.slot ≡ 0 → InRows W closer c answer slots stripes kept near b (v + 1)
        to_near e = record {
          room = H.room;
          most = omega (arith, H.most, fewer_wait);
          goes_on = first_alone W B.empty c closer answer b (v + 1) near far (waiting slots stripes kept) e after_visit;
        }

        -- law: there is room for the far son's stop
        pub room_left : (near.slot ≡ 0 → ⊥) → kept < low_levels
        unfolding StopsFit
        room_left nn =
            let k = a_level c near.slot nn (all_levels - length (far ∷ waiting slots stripes kept)) after_visit.fit.0.levels in
            let r = H.room in
            let n = waiting_length slots stripes kept in
            omega arith

        -- law: the near son is next, and the far one's stop waits
        pub push : (near.slot ≡ 0 → ⊥) → InRows W closer c answer (set slots kept f) (set stripes kept fp) (kept + 1) near b (v + 1)
        push nn =
            let n = room_left nn in
            let r = H.room in
            record {
              room = (length-set slots kept f ∙ r.0, length-set stripes kept fp ∙ r.1);
              most = omega arith;
              goes_on = rw (waiting_more slots stripes kept far (omega arith) (omega arith)) after_visit;
            }

        pub far_less : to_walk c slots stripes kept far < to_walk c slots stripes wait here
        unfolding slots_at
        far_less = let a = fewer_slots in let b = fewer_wait in omega arith

        pub near_less : to_walk c slots stripes kept near < to_walk c slots stripes wait here
        unfolding slots_at
        near_less = let a = fewer_slots in let b = fewer_wait in omega arith

        pub push_less : (near.slot ≡ 0 → ⊥) → to_walk c (set slots kept f) (set stripes kept fp) (kept + 1) near < to_walk c slots stripes wait here
        unfolding slots_at
        push_less nn =
            let n = room_left nn in
            let r = H.room in
            let a = fewer_slots in
            let b = fewer_wait in
            rw (waiting_more slots stripes kept far (omega arith) (omega arith)) (omega arith)

-- law: a walk starts at the root of a sound pool, with no stop in the rows
module _ (W : Stripe → Tree Pair → Walked) (closer : Pair → Pair → Bool) (c : List ℕ) (o : Sound c) where
  pub start : (s : ℕ) → s ≡ root_of c → (at : Slim) → at ≡ root_slim → (slots : List ℕ) → length slots ≡ low_levels → (stripes : List Slim) → length stripes ≡ low_levels
      → InRows W closer c (W root_stripe (tree_at c all_levels (root_of c))) slots stripes 0 (record { slot = s; at = at }) 0 0
  unfolding StopsFit slots_at stop_by_stop
  start s es at ea slots long stripes long' = rw (es, ea) (record {
    room = (long, long');
    most = omega arith;
    goes_on = rw (waiting_none slots stripes 0 refl) (record {
      fit = (record { leads = (root_asked c o).leads; levels = tree_within c all_levels (root_of c); height = low_levels; slim = root_slim_lem; room = tree_within c all_levels (root_of c) }, tt);
      some = no_slot c;
      few = let f = (root_asked c o).few in omega arith;
      asked = rw (found_none c 0 refl) (since_start closer (or_next (W root_stripe (tree_at c all_levels (root_of c))) (seen None 0)) ∙ or_end (W root_stripe (tree_at c all_levels (root_of c))));
    });
  })
