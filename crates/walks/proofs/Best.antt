-- Over a tree, a scan's finding is the closest of each slot's pair and its sons' best. It assumes that the closer of two pairs ranks them, and
-- nothing of the tree.
use Rattle.std.specs.Prelude.{Option, None}
use mathlib.Core.Path.{◌≡◌, refl, sym, ap, ◌∙◌}
use mathlib.Core.Bool.{Bool, false}
use Rattle.kinds.specs.declared.Pair.{Pair}
use Rattle.plain.specs.Plain.{own, closest, scan}
use Rattle.trees.specs.Tree.{Tree, none, fork, members, All}
use Rattle.plain.proofs.Closest.{Ranks, Sat, sat_none, closest_nothing, scan_append, closest_sat, own_sat, closest_assoc}

-- the closest match of a tree
abbrev pub best : (Pair → Bool) → (Pair → Pair → Bool) → Tree Pair → Option Pair
best ok closer none = None
best ok closer (fork s p l r) = closest closer (own ok p) (closest closer (best ok closer l) (best ok closer r))

module _ (ok : Pair → Bool) (closer : Pair → Pair → Bool) where
  pub best_none : (t : Tree Pair) → All (λ q. ok q ≡ false) t → best ok closer t ≡ None
  best_none none h = refl
  best_none (fork s p l r) h = rw (h.0, best_none l h.1, best_none r h.2)

  pub best_sat : (P : Pair → Type 0) (t : Tree Pair) → All P t → Sat P (best ok closer t)
  best_sat P none h = sat_none
  best_sat P (fork s p l r) h =
      closest_sat ok closer P (own_sat ok closer P p h.0) (closest_sat ok closer P (best_sat P l h.1) (best_sat P r h.2))

module _ (ok : Pair → Bool) {closer : Pair → Pair → Bool} (R : Ranks closer) where
  scan_from : (f : Option Pair) (t : Tree Pair) → scan ok closer f (members t) ≡ closest closer f (best ok closer t)
  scan_from f none = sym (closest_nothing closer f)
  scan_from f (fork s p l r) =
      let o = own ok p in
      let b = best ok closer l in
      let d = best ok closer r in
      scan_append ok closer (closest closer f o) (members l) (members r)
      ∙ (scan_from (scan ok closer (closest closer f o) (members l)) r ∙ (ap (λ g. closest closer g d) (scan_from (closest closer f o) l) ∙ (closest_assoc ok R (closest closer f o) b d ∙ closest_assoc ok R f o (closest closer b d))))

  -- law: the scan of a tree's members finds the tree's best
  pub scan_best : (t : Tree Pair) → scan ok closer None (members t) ≡ best ok closer t
  scan_best t = scan_from None t
