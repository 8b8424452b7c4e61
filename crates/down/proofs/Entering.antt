-- A pair that enters a sound pool: it can go down from the root, and where it has and the count has moved, it is inserted. It assumes that
-- its x is new and has 32 bits, and that a slot is free.
use Prim.Native.Nat.{ℕ, ◌+◌, ◌<◌}
use mathlib.Core.Path.{◌≡◌, sym}
use mathlib.Core.List.{List}
use native.Mathlib.Omega.{arith}
use lib.ListN.{set}
use Rattle.kinds.specs.declared.Pair.{Pair}
use Rattle.pools.specs.Cells.{count_of}
use Rattle.stripes.specs.Stripe.{low_levels}
use Rattle.pools.specs.Laid.{inserted}
use Rattle.stripes.proofs.Heights.{root_at}
use Rattle.pools.proofs.Decided.{sound_well, sound_tree}
use Rattle.pools.proofs.Agreement.{leads_slot}
use Rattle.pools.proofs.Inserted.{grown, free_first, taken_out, inserted_one}
use Rattle.way.specs.Way.{Replaced}
use Rattle.way.proofs.Counting.{count_written}
use Rattle.way.proofs.Ways.{root_place}
use Rattle.down.specs.Down.{Enters, Going, Carried}

module _ {c : List ℕ} {p : Pair} (n : Enters c p) (b : p.x < 4294967296) where
  -- law: it can go down from the root
  pub root_going : Going c low_levels 1 p
  root_going =
      let s = n.sound in
      let t = sound_tree c s in
      record {
        few = omega arith;
        place = root_place s;
        well = rw (root_at p.x b, t) (sound_well c s);
        new = rw t n.new;
        free = (free_first s n.room).slot;
        out = rw t (taken_out s n.room);
        elsewhere = λ e. n.room (sym e);
      }

  -- law: where it has, and the count has moved, the pool is the one with the pair inserted
  pub entered : {d : List ℕ} → Carried c low_levels 1 p d → set d 3 (count_of c + 1) ≡ inserted c p
  entered {d} h =
      let s = n.sound in
      let R : Replaced c 1 (grown s p) (grown s p) d = rw (root_at p.x b, sound_tree c s) at h.place in
      inserted_one s p n.new b n.room (count_written s R (λ m. omega (arith, (leads_slot (grown s p) R.leads m).some)) h.first (count_of c + 1))
