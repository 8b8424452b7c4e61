-- How a deletion from a sound pool ends, by what is met where the way to x ends: nothing, x with another y, or the pair. The hole that it
-- leaves is filled at the place, so x is taken out at the root, and then the count moves.
use Prim.Native.Nat.{ℕ, ◌-◌, ◌≤◌}
use mathlib.Core.Path.{◌≡◌, sym, ap, ◌∙◌}
use mathlib.Core.Logic.{◌≢◌}
use mathlib.Core.List.{List}
use native.Mathlib.Omega.{arith}
use lib.ListN.{get_or, set}
use Rattle.kinds.specs.declared.Pair.{Pair}
use Rattle.plain.specs.Plain.{has}
use Rattle.trees.specs.Tree.{Tree, members, size, Mem, here, in_left, in_right}
use Rattle.trees.specs.Standing.{Stands}
use Rattle.pools.specs.Cells.{free_of, count_of, free_mark, pair_at, stored}
use Rattle.pools.specs.Sound.{Sound}
use Rattle.kinds.proofs.Tests.{on}
use Rattle.kinds.proofs.Order.{pair_ext}
use Rattle.trees.proofs.Members.{members_mem}
use Rattle.plain.proofs.Apart.{apart_same}
use Rattle.pools.proofs.Agreement.{SlotHolds, holds_agree, free_holds}
use Rattle.pools.proofs.Slots.{tree_slot}
use Rattle.pools.proofs.InTree.{has_mem, mem_has}
use Rattle.pools.proofs.Changed.{Relaid}
use Rattle.pools.proofs.Deleted.{cut, given_slot, deleted_one}
use Rattle.way.specs.Way.{Replaced, WayEnds}
use Rattle.way.proofs.Links.{cell_agree}
use Rattle.way.proofs.Counting.{count_written}
use Rattle.way.proofs.Ways.{place_there, mem_there, stored_there, missing_there, replaced_root}
use Rattle.std.specs.Prelude.{Ok, Err}
use Rattle.kinds.specs.declared.Refusal.TheVariants.{Missing, Other}
use Rattle.hole.specs.Hole.{Hole, Freed, Deletes, not_there, other_y, removed}
use Rattle.hole.proofs.Cuts.{cut_there}

some_size : {q : Pair} {t : Tree Pair} → Mem q t → 1 ≤ size t
some_size (here e) = omega arith
some_size (in_left m) = let h = some_size m in omega arith
some_size (in_right m) = let h = some_size m in omega arith

module _ {c : List ℕ} (s : Sound c) where
  header_out : Stands 0 s.tree → ⊥
  header_out m = omega (arith, (tree_slot s m).some)

  -- one x, one pair
  same_pair : {p q : Pair} → Mem q s.tree → Mem p s.tree → q.x ≡ p.x → q ≡ p
  same_pair {p} {q} m n e = apart_same (λ p. p.x) (members s.tree) s.apart q p ((members_mem q s.tree).0 m) ((members_mem p s.tree).0 n) e

  -- law: a slot that is met is a hole once its pair is taken out
  pub hole_there : {x k cell : ℕ} → WayEnds c x k cell → get_or c cell 0 ≢ 0 → Hole c k cell
  hole_there E ne = record { place = place_there s E.way; there = ne }

  module _ (p : Pair) {k cell : ℕ} (E : WayEnds c p.x k cell) where
    -- law: the place is empty
    pub ends_missing : get_or c cell 0 ≡ 0 → Deletes c p (Err Missing) c
    ends_missing z = not_there (missing_there s E z)

    module _ (ne : get_or c cell 0 ≢ 0) where
      module _ {q : Pair} (eq : q ≡ pair_at c (get_or c cell 0)) where
        there : Mem q s.tree
        there = rw eq (mem_there s E.way ne)

        same_x : q.x ≡ p.x
        same_x = rw eq (E.met ne)

        -- law: x is stored with another y
        pub ends_other : q.y ≢ p.y → Deletes c p (Err Other) c
        ends_other ny = other_y (stored_there s E ne) (on (has p (stored c)) (λ t. absurd (ny (ap (λ q. q.y) (same_pair there (has_mem s p t) same_x)))) (λ t. t))

        -- the pair itself
        module _ (ey : q.y ≡ p.y) where
          member : Mem p s.tree
          member = rw (pair_ext same_x ey) at there

          module _ {d : List ℕ} (F : Freed c k cell d) where
            replaced : Replaced c 1 (cut s p.x).tree s.tree d
            replaced = rw (cut_there s E ne) (replaced_root s E.way F.place)

            first : free_of d ≡ (cut s p.x).slot
            first = F.first ∙ sym (ap (λ cut. cut.slot) (cut_there s E ne))

            module _ {n : ℕ} (en : n ≡ count_of d) where
              same_count : n ≡ count_of c
              same_count = en ∙ replaced.rest 3 (omega arith) (omega arith) header_out

              -- law: the count can fall
              pub some_counted : 1 ≤ n
              some_counted = omega (arith, same_count, some_size member, s.count)

              changed : Relaid c (set d 3 (n - 1)) (cut s p.x).tree s.tree (cut s p.x).slot (count_of c - 1)
              changed = rw same_count (count_written s replaced header_out first (count_of c - 1))

              given : SlotHolds (set d 3 (n - 1)) (cut s p.x).slot (record { x = 0; y = 0 }) free_mark (free_of c)
              given =
                  let some = (given_slot s p member).some in
                  let H : SlotHolds d (cut s p.x).slot (record { x = 0; y = 0 }) free_mark (free_of c) = rw (F.next, first) at (free_holds F.form) in
                  holds_agree H (cell_agree d 3 (n - 1) (cut s p.x).slot (omega arith))

              -- law: the pair is taken out
              pub ends_done : {d' : List ℕ} → d' ≡ set d 3 (n - 1) → Deletes c p (Ok tt) d'
              ends_done h = rw (h, deleted_one s p member changed given) (removed (mem_has s p member))
