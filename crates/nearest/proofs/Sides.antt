-- A slot's sons as a walk to one side asks them, the near one first. It assumes a stop that fits, with a slot.
use Prim.Native.Nat.{ℕ, suc, ◌+◌, ◌-◌, ◌≤◌}
use mathlib.Core.Path.{◌≡◌, ap, ◌∙◌}
use mathlib.Core.Bool.{Bool, true, false, cond}
use mathlib.Core.List.{List}
use native.Mathlib.Omega.{arith}
use lib.Dec.{ltb, leb}
use Rattle.kinds.specs.declared.Limits.{Limits}
use Rattle.kinds.specs.declared.Pair.{Pair}
use Rattle.kinds.specs.declared.Walked.{Walked}
use Rattle.pools.specs.Cells.{pair_at, left_at, right_at, tree_at}
use Rattle.pools.specs.Links.{son_at}
use Rattle.pools.specs.Sound.{Leads}
use Rattle.stripes.specs.Stripe.{low_levels, Stripe, middle, left_part, right_part}
use Rattle.trees.specs.Tree.{Tree, fork, size, Within}
use Rattle.walks.specs.Walks.{ask, x_rule}
use Rattle.pools.proofs.Leads.{within_more, tree_fork, leads_son}
use Rattle.slim.specs.declared.Slim.{Slim}
use Rattle.slim.specs.Slim.{stripe_by, left_slim, right_slim}
use Rattle.slim.proofs.Slims.{left_at_lem, right_at_lem}
use Rattle.visit.specs.Asking.{Stop}
use Rattle.visit.specs.Asking.{left_asked, right_asked, left_son, right_son}
use Rattle.visit.specs.Sides.{XWalk}
use Rattle.nearest.specs.Waiting.{tree_below, StopFits}
use Rattle.nearest.proofs.Stops.{asked_walk, asked_within, asked_fits, asked_size, left_same, right_same}

-- two stops are a slot's sons as a walk asks them: the rule gives its answer by theirs, and each has a level less
pub record SonsAsked (W : Stripe → Tree Pair → Walked) (closer : Pair → Pair → Bool) (q : Limits) (c : List ℕ) (k : ℕ) (here near far : Stop) : Type 0 where
  pub gives : W (stripe_by here.at) (tree_below c here) ≡ x_rule closer q (pair_at c here.slot) (W (stripe_by near.at) (tree_below c near)) (W (stripe_by far.at) (tree_below c far))
  pub slots : size (tree_below c near) + size (tree_below c far) + 1 ≤ size (tree_below c here)
  pub near_fits : (j : ℕ) → k ≤ suc j → StopFits c j near
  pub far_fits : (j : ℕ) → k ≤ suc j → StopFits c j far

module _ (c : List ℕ) (k : ℕ) (here : Stop) (q : Limits) (o : StopFits c k here) (ne : here.slot ≡ 0 → ⊥) where
  abbrev at : Stripe
  at = stripe_by here.at

  abbrev left_link : ℕ
  left_link = left_at c here.slot

  abbrev right_link : ℕ
  right_link = right_at c here.slot

  abbrev left_tree : Tree Pair
  left_tree = tree_at c low_levels left_link

  abbrev right_tree : Tree Pair
  right_tree = tree_at c low_levels right_link

  left_leads : Leads c left_link left_tree
  unfolding son_at
  left_leads = leads_son c low_levels here.slot true o.leads ne

  right_leads : Leads c right_link right_tree
  unfolding son_at
  right_leads = leads_son c low_levels here.slot false o.leads ne

  here_is : tree_below c here ≡ fork here.slot (pair_at c here.slot) left_tree right_tree
  here_is = tree_fork c low_levels here.slot ne

  below : (j : ℕ) → k ≤ suc j → Within j left_tree × Within j right_tree
  below j h = within_more k (suc j) (fork here.slot (pair_at c here.slot) left_tree right_tree) h (rw here_is at o.levels)

  -- a level less than the stripe has room for
  lower : Within o.height left_tree × Within o.height right_tree
  lower = rw here_is at o.room

  room : (t : Tree Pair) → Within o.height t → Within (suc (o.height - 1)) t
  room t w = within_more o.height (suc (o.height - 1)) t (omega arith) w

  left_fits : (j : ℕ) → k ≤ suc j → StopFits c j (left_son c here q)
  unfolding left_asked
  left_fits j h =
      asked_fits c (ltb q.x0 (middle at)) left_link j (o.height - 1) (left_slim here.at) left_leads (below j h).0 (left_at_lem o.height here.at o.slim) (room left_tree lower.0)

  right_fits : (j : ℕ) → k ≤ suc j → StopFits c j (right_son c here q)
  unfolding right_asked
  right_fits j h =
      asked_fits c (leb (middle at) q.x1) right_link j (o.height - 1) (right_slim here.at) right_leads (below j h).1 (right_at_lem o.height here.at o.slim) (room right_tree lower.1)

  sizes : size (tree_below c (left_son c here q)) + size (tree_below c (right_son c here q)) + 1 ≤ size (tree_below c here)
  unfolding left_asked right_asked
  sizes =
      let a = asked_size c (ltb q.x0 (middle at)) left_link left_leads in
      let b = asked_size c (leb (middle at) q.x1) right_link right_leads in
      rw here_is (omega arith)

  module _ {W : Stripe → Tree Pair → Walked} {closer : Pair → Pair → Bool} where
    -- what the left son gives, and the right one
    left_walk : {lf : Bool} → XWalk W closer lf q → ask (ltb q.x0 (middle at)) (W (left_part at) left_tree) ≡ W (stripe_by (left_slim here.at)) (tree_below c (left_son c here q))
    unfolding left_asked
    left_walk B =
        asked_walk c W B.empty (ltb q.x0 (middle at)) left_link (left_part at) left_leads
        ∙ left_same W B.empty o.height here.at o.slim _ (asked_within c (ltb q.x0 (middle at)) left_link o.height left_leads lower.0)

    right_walk : {lf : Bool} → XWalk W closer lf q → ask (leb (middle at) q.x1) (W (right_part at) right_tree) ≡ W (stripe_by (right_slim here.at)) (tree_below c (right_son c here q))
    unfolding right_asked
    right_walk B =
        asked_walk c W B.empty (leb (middle at) q.x1) right_link (right_part at) right_leads
        ∙ right_same W B.empty o.height here.at o.slim _ (asked_within c (leb (middle at) q.x1) right_link o.height right_leads lower.1)

    sons : (lf : Bool) → XWalk W closer lf q → SonsAsked W closer q c k here (cond lf (left_son c here q) (right_son c here q)) (cond lf (right_son c here q) (left_son c here q))
    sons true B = record {
      gives = ap (λ t. W at t) here_is ∙ (B.forks at here.slot (pair_at c here.slot) left_tree right_tree
          ∙ (λ i. x_rule closer q (pair_at c here.slot) (left_walk B i) (right_walk B i)));
      slots = sizes;
      near_fits = left_fits;
      far_fits = right_fits;
    }
    sons false B = record {
      gives = ap (λ t. W at t) here_is ∙ (B.forks at here.slot (pair_at c here.slot) left_tree right_tree
          ∙ (λ i. x_rule closer q (pair_at c here.slot) (right_walk B i) (left_walk B i)));
      slots = omega (arith, sizes);
      near_fits = right_fits;
      far_fits = left_fits;
    }

    -- law: the near and the far one of its two sons are those that it asks
    pub sons_asked : {lf : Bool} → XWalk W closer lf q → {l r near far : ℕ} {np fp : Slim} → l ≡ left_asked c here.slot at q.x0 → r ≡ right_asked c here.slot at q.x1
        → near ≡ cond lf l r → far ≡ cond lf r l → np ≡ cond lf (left_slim here.at) (right_slim here.at) → fp ≡ cond lf (right_slim here.at) (left_slim here.at)
        → SonsAsked W closer q c k here (record { slot = near; at = np }) (record { slot = far; at = fp })
    sons_asked {lf} B el er en ef enp efp = rw (en, ef, el, er, enp, efp) (stops lf (sons lf B))
      where
        stops : (lf : Bool) → SonsAsked W closer q c k here (cond lf (left_son c here q) (right_son c here q)) (cond lf (right_son c here q) (left_son c here q))
            → SonsAsked W closer q c k here (record { slot = cond lf (left_asked c here.slot at q.x0) (right_asked c here.slot at q.x1); at = cond lf (left_slim here.at) (right_slim here.at) })
            (record { slot = cond lf (right_asked c here.slot at q.x1) (left_asked c here.slot at q.x0); at = cond lf (right_slim here.at) (left_slim here.at) })
        stops true S = S
        stops false S = S
