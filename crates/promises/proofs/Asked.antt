-- What the questions give on a sound pool: a walk finds what the scan of the stored list finds, and as many match in its order as in the list's.
use Rattle.std.specs.Prelude.{Option, Ok}
use Prim.Native.Nat.{ℕ}
use mathlib.Core.Path.{◌≡◌, refl, ap}
use mathlib.Core.List.{List, []}
use lib.ListN.{length}
use Rattle.kinds.specs.declared.Limits.{Limits}
use Rattle.kinds.specs.declared.Walked.{Walked}
use Rattle.kinds.specs.declared.Pair.{Pair}
use Rattle.kinds.specs.Answer.{walked}
use Rattle.kinds.specs.Making.{answered}
use Rattle.kinds.specs.Promise.{Gives}
use Rattle.stripes.specs.Stripe.{root_stripe}
use Rattle.kinds.proofs.Tables.{gives}
use Rattle.plain.specs.Plain.{matches, those, smallest_x_of, largest_x_of, smallest_y_of}
use Rattle.plain.proofs.Counts.{those_count}
use Rattle.trees.specs.Tree.{members}
use Rattle.walks.specs.Walks.{smallest_x, largest_x, smallest_y}
use Rattle.walks.proofs.AnyOrder.{smallest_x_any, largest_x_any, smallest_y_any}
use Rattle.pools.specs.Cells.{stored, tree_of}
use Rattle.pools.specs.Sound.{Sound}
use Rattle.pools.proofs.InTree.{tree_well, tree_stored, members_stored, members_apart}
use Rattle.pools.proofs.Stored.{stored_apart}

-- a walk's answer, whatever it finds
walk_gives : {c : List ℕ} (w : Walked) (f : Option Pair) → w.finding ≡ f
    → Gives (record { answer = answered f w.visits; cells = c; lent = [] }) (walked (Ok w)) c []
walk_gives w f e = gives (ap (λ g. answered g w.visits) e) refl refl

module _ {c : List ℕ} (s : Sound c) where
  pub smallest_x_gives : (q : Limits) {w : Walked} → w ≡ smallest_x q root_stripe (tree_of c)
      → Gives (record { answer = answered (smallest_x_of q (stored c)) (smallest_x q root_stripe (tree_of c)).visits; cells = c; lent = [] }) (walked (Ok w)) c []
  smallest_x_gives q e = rw e (walk_gives (smallest_x q root_stripe (tree_of c)) _ (smallest_x_any root_stripe (tree_of c) (tree_well s) (stored c) (tree_stored s) q))

  pub largest_x_gives : (q : Limits) {w : Walked} → w ≡ largest_x q root_stripe (tree_of c)
      → Gives (record { answer = answered (largest_x_of q (stored c)) (largest_x q root_stripe (tree_of c)).visits; cells = c; lent = [] }) (walked (Ok w)) c []
  largest_x_gives q e = rw e (walk_gives (largest_x q root_stripe (tree_of c)) _ (largest_x_any root_stripe (tree_of c) (tree_well s) (stored c) (tree_stored s) q))

  pub smallest_y_gives : (x0 x1 : ℕ) {w : Walked} → w ≡ smallest_y x0 x1 root_stripe (tree_of c)
      → Gives (record { answer = answered (smallest_y_of x0 x1 (stored c)) (smallest_y x0 x1 root_stripe (tree_of c)).visits; cells = c; lent = [] }) (walked (Ok w)) c []
  smallest_y_gives x0 x1 e = rw e (walk_gives (smallest_y x0 x1 root_stripe (tree_of c)) _ (smallest_y_any root_stripe (tree_of c) (tree_well s) (stored c) (tree_stored s) x0 x1))

  -- law: as many matches in the walk's order as in the list
  pub matches_count : (q : Limits) → length (those (matches q) (members (tree_of c))) ≡ length (those (matches q) (stored c))
  matches_count q = those_count (matches q) (members (tree_of c)) (stored c) (members_apart s) (stored_apart s) (members_stored s)
