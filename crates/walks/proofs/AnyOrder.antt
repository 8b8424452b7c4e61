-- What the walks answer is what a list in any order gives, where its members are the tree's. It assumes a well-formed tree.
use Prim.Native.Nat.{ℕ}
use mathlib.Core.Path.{◌≡◌, ◌∙◌}
use mathlib.Core.Logic.{◌↔◌}
use mathlib.Core.List.{List, Memᴰ}
use Rattle.kinds.specs.declared.Pair.{Pair}
use Rattle.kinds.specs.declared.Limits.{Limits}
use Rattle.plain.specs.Plain.{smallest_x_of, largest_x_of, smallest_y_of, Alike}
use Rattle.stripes.specs.Stripe.{Stripe}
use Rattle.trees.specs.Tree.{Tree, members, Mem, Well, itself}
use Rattle.walks.specs.Walks.{smallest_x, largest_x, smallest_y}
use Rattle.trees.proofs.Members.{members_mem, well_apart}
use Rattle.plain.proofs.Scan.{smallest_x_of_alike, largest_x_of_alike, smallest_y_of_alike}
use Rattle.walks.proofs.Finds.{smallest_x_finds, largest_x_finds, smallest_y_finds}

module _ (s : Stripe) (t : Tree Pair) (w : Well itself s t) (ps : List Pair) (h : (p : Pair) → Mem p t ↔ Memᴰ p ps) where
  alike : Alike (members t) ps
  alike p = (λ m. (h p).0 ((members_mem p t).1 m), λ m. (members_mem p t).0 ((h p).1 m))

  -- law: the smallest x
  pub smallest_x_any : (q : Limits) → (smallest_x q s t).finding ≡ smallest_x_of q ps
  smallest_x_any q = smallest_x_finds q s t w ∙ smallest_x_of_alike (members t) ps (well_apart itself s t w) alike q

  -- law: the largest x
  pub largest_x_any : (q : Limits) → (largest_x q s t).finding ≡ largest_x_of q ps
  largest_x_any q = largest_x_finds q s t w ∙ largest_x_of_alike (members t) ps (well_apart itself s t w) alike q

  -- law: the smallest y
  pub smallest_y_any : (x0 x1 : ℕ) → (smallest_y x0 x1 s t).finding ≡ smallest_y_of x0 x1 ps
  smallest_y_any x0 x1 = smallest_y_finds x0 x1 s t w ∙ smallest_y_of_alike (members t) ps (well_apart itself s t w) alike x0 x1
