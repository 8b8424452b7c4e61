-- A walk goes on from stop to stop, and what is still to be walked gives what was asked. It assumes a walk that gives nothing on an empty
-- tree, and at a slot the two stops of the sons that it asks.
use Rattle.std.specs.Prelude.{None}
use Prim.Native.Nat.{ℕ, ◌+◌, ◌-◌, ◌≤◌, ◌<◌}
use mathlib.Core.Path.{◌≡◌, refl, sym, ap, ◌∙◌}
use mathlib.Core.Bool.{Bool, true, false, cond}
use mathlib.Core.List.{List, [], ◌∷◌}
use native.Mathlib.Omega.{arith}
use lib.ListN.{length}
use Rattle.kinds.specs.declared.Limits.{Limits}
use Rattle.kinds.specs.declared.Pair.{Pair}
use Rattle.kinds.specs.declared.Walked.{Walked}
use Rattle.pools.specs.Cells.{pair_at, tree_at}
use Rattle.plain.specs.Plain.{in_range}
use Rattle.stripes.specs.Stripe.{all_levels, Stripe}
use Rattle.pools.specs.Sound.{nowhere}
use Rattle.trees.specs.Tree.{Tree, none, size}
use Rattle.walks.specs.Walks.{seen}
use Rattle.plain.proofs.Closest.{Ranks}
use Rattle.pools.proofs.Leads.{tree_none, within_more}
use Rattle.questions.specs.Walking.{found_at}
use Rattle.slim.specs.Slim.{stripe_by}
use Rattle.visit.specs.Nearer.{Nearer}
use Rattle.visit.specs.Asking.{Stop}
use Rattle.visit.specs.Asking.{no_stop}
use Rattle.nearest.specs.Waiting.{tree_below, or_next, since, stop_by_stop, slots_at, StopFits, StopsFit, GoesOn}
use Rattle.nearest.proofs.Sides.{SonsAsked}
use Rattle.nearest.proofs.Turns.{or_none, since_end, too_high, visited}

-- with more levels allowed
lower : (c : List ℕ) (j k : ℕ) (p : Stop) → j ≤ k → StopFits c j p → StopFits c k p
lower c j k p h o = record { leads = o.leads; levels = within_more j k (tree_below c p) h o.levels; height = o.height; slim = o.slim; room = o.room }

module _ (W : Stripe → Tree Pair → Walked) (empty : (at : Stripe) → W at none ≡ seen None 0) (c : List ℕ) where
  -- an empty stop gives nothing, and has nothing
  skip : (p : Stop) (ps : List Stop) → p.slot ≡ 0 → stop_by_stop W c (p ∷ ps) ≡ stop_by_stop W c ps
  unfolding stop_by_stop
  skip p ps e = rw (tree_none c all_levels p.slot e, empty (stripe_by p.at)) (or_none (stop_by_stop W c ps))

  -- what waits, and none where there is a hit
  turn_still : (hit : Bool) (ws : List Stop) → stop_by_stop W c (cond hit [] ws) ≡ cond hit (seen None 0) (stop_by_stop W c ws)
  unfolding stop_by_stop
  turn_still true ws = refl
  turn_still false ws = refl

  slots_still : (hit : Bool) (ws : List Stop) → slots_at c (cond hit [] ws) ≤ slots_at c ws
  unfolding slots_at
  slots_still true ws = omega arith
  slots_still false ws = omega arith

  fit_still : (hit : Bool) (ws : List Stop) → StopsFit c ws → StopsFit c (cond hit [] ws)
  unfolding StopsFit
  fit_still true ws o = tt
  fit_still false ws o = o

  length_still : (hit : Bool) (ws : List Stop) → length {A = Stop} (cond hit [] ws) ≤ length ws
  length_still true ws = omega arith
  length_still false ws = omega arith

  module _ (closer : Pair → Pair → Bool) (answer : Walked) (best v : ℕ) where
    -- law: an empty stop is left for the next
    pub next : (p : Stop) (ps : List Stop) → p.slot ≡ 0 → GoesOn W closer c answer (p ∷ ps) best v → GoesOn W closer c answer ps best v
    unfolding StopsFit slots_at
    next p ps e G =
        let f = G.few in
        record {
          fit = G.fit.1;
          some = G.some;
          few = omega arith;
          asked = ap (λ w. since closer (found_at c best) v w) (sym (skip p ps e)) ∙ G.asked;
        }

    -- law: and needs not wait behind another
    pub first_alone : (p z : Stop) (ps : List Stop) → z.slot ≡ 0 → GoesOn W closer c answer (p ∷ z ∷ ps) best v → GoesOn W closer c answer (p ∷ ps) best v
    unfolding StopsFit slots_at stop_by_stop
    first_alone p z ps e G =
        let f = G.few in
        record {
          fit = (lower c (all_levels - length (z ∷ ps)) (all_levels - length ps) p (omega arith) G.fit.0, G.fit.1.1);
          some = G.some;
          few = omega arith;
          asked = ap (λ w. since closer (found_at c best) v (or_next (W (stripe_by p.at) (tree_below c p)) w)) (sym (skip z ps e)) ∙ G.asked;
        }

    -- law: the end
    pub ends : GoesOn W closer c answer [] best v → seen (found_at c best) v ≡ answer
    unfolding stop_by_stop
    ends G = sym (since_end closer (found_at c best) v) ∙ G.asked

    module _ (q : Limits) (here : Stop) (ws : List Stop) (near far : Stop) (G : GoesOn W closer c answer (here ∷ ws) best v) (ne : here.slot ≡ 0 → ⊥)
        (S : SonsAsked W closer q c (all_levels - length ws) here near far) where
      -- law: a slot whose y is too high gives nothing, at one visit
      pub nothing_here : (p : Pair) → p ≡ pair_at c here.slot → q.y1 < p.y → GoesOn W closer c answer (no_stop here.at ∷ ws) best (v + 1)
      unfolding StopsFit slots_at stop_by_stop
      nothing_here p ep h =
          let f = G.few in
          let z = S.slots in
          let e = tree_none c all_levels 0 refl in
          let n : size (tree_at c all_levels 0) ≡ 0 = rw e in
          record {
            fit = (record { leads = rw e nowhere; levels = rw e tt; height = G.fit.0.height; slim = G.fit.0.slim; room = rw e tt }, G.fit.1);
            some = G.some;
            few = omega arith;
            asked = ap (λ w. since closer (found_at c best) (v + 1) w) (skip (no_stop here.at) ws refl)
                ∙ (sym (too_high q closer (pair_at c here.slot) (W (stripe_by near.at) (tree_below c near)) (W (stripe_by far.at) (tree_below c far)) (stop_by_stop W c ws) (found_at c best) v (rw ep at h))
                ∙ (ap (λ w. since closer (found_at c best) v (or_next w (stop_by_stop W c ws))) (sym S.gives) ∙ G.asked));
          }

      -- law: a slot's own pair joins what was found so far, and its sons are next
      pub visit : Ranks closer → (p : Pair) → p ≡ pair_at c here.slot → p.y ≤ q.y1 → (hit : Bool) → hit ≡ in_range q.x0 q.x1 p → (b : ℕ) → Nearer c closer hit here.slot best b
          → GoesOn W closer c answer (near ∷ far ∷ cond hit [] ws) b (v + 1)
      unfolding StopsFit slots_at stop_by_stop
      visit R p ep h hit eh b N =
          let f = G.few in
          let z = S.slots in
          let n = slots_still hit ws in
          let m = length_still hit ws in
          let near_is = W (stripe_by near.at) (tree_below c near) in
          let far_is = W (stripe_by far.at) (tree_below c far) in
          record {
            fit = (
              S.near_fits (all_levels - length (far ∷ cond hit [] ws)) (omega arith),
              (S.far_fits (all_levels - length {A = Stop} (cond hit [] ws)) (omega arith), fit_still hit ws G.fit.1),
            );
            some = N.some;
            few = omega arith;
            asked = (λ i. since closer (N.found i) (v + 1) (or_next near_is (or_next far_is (turn_still hit ws i))))
                ∙ (sym (visited q closer (pair_at c here.slot) near_is far_is (stop_by_stop W c ws) (found_at c best) v R (rw ep at h) hit (rw ep at eh))
                ∙ (ap (λ w. since closer (found_at c best) v (or_next w (stop_by_stop W c ws))) (sym S.gives) ∙ G.asked));
          }

      -- law: and with fewer slots
      pub fewer : (hit : Bool) → slots_at c (near ∷ far ∷ cond hit [] ws) + 1 ≤ slots_at c (here ∷ ws)
      unfolding slots_at
      fewer hit = let z = S.slots in let n = slots_still hit ws in omega arith
