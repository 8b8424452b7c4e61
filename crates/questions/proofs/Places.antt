-- What a walk relies on at a slot's sons, in whichever order they are asked. It assumes the same of the slot (`Walkable`).
use Prim.Native.Nat.{ℕ, ◌+◌, ◌≤◌, ◌<◌}
use mathlib.Core.Path.{◌≡◌, ap}
use mathlib.Core.List.{List}
use native.Mathlib.Omega.{arith}
use Rattle.pools.specs.Cells.{pair_at}
use Rattle.pools.specs.Links.{Fits}
use Rattle.trees.specs.Tree.{fork, size}
use Rattle.places.specs.declared.Place.{Place}
use Rattle.places.specs.Places.{tree_here, left_place, right_place}
use Rattle.places.proofs.Here.{fork_here, deep_here, goes_down, leads_left, leads_right}
use Rattle.questions.specs.Walking.{Walkable}

module _ (c : List ℕ) (p : Place) (v : ℕ) (one : 1 ≤ p.slot) (o : Walkable c p v) where
  pub some : p.slot ≡ 0 → ⊥
  some e = omega arith

  -- its cells and a level are there
  pub there : Fits c p.slot × (1 ≤ p.levels)
  there = goes_down c p o.leads some

  pub slot_here : tree_here c p ≡ fork p.slot (pair_at c p.slot) (tree_here c (left_place c p)) (tree_here c (right_place c p))
  slot_here = fork_here c p some (deep_here c p o.leads some)

  pub size_here : size (tree_here c p) ≡ size (tree_here c (left_place c p)) + size (tree_here c (right_place c p)) + 1
  size_here = ap size slot_here

  -- one more visit fits
  pub one_more : v + 1 < 4294967296
  one_more = let f = o.few in let z = size_here in omega arith

  pub asked_left : (l : Place) (v' : ℕ) → l ≡ left_place c p → v' ≤ v + 1 + size (tree_here c (right_place c p)) → Walkable c l v'
  asked_left l v' el h =
      let f = o.few in
      let z = size_here in
      rw el (record { leads = leads_left c p o.leads some; few = omega arith })

  pub asked_right : (r : Place) (v' : ℕ) → r ≡ right_place c p → v' ≤ v + 1 + size (tree_here c (left_place c p)) → Walkable c r v'
  asked_right r v' er h =
      let f = o.few in
      let z = size_here in
      rw er (record { leads = leads_right c p o.leads some; few = omega arith })
