-- Taking back restores every cell: a deletion takes an insertion back, an insertion a deletion. It assumes a sound pool; for an insertion a free
-- slot and an x of 32 bits that is new, for a deletion that the pair is stored.
use Prim.Native.Nat.{ℕ, ◌<◌}
use mathlib.Core.Path.{◌≡◌, refl, ap}
use mathlib.Core.Logic.{◌≢◌, inl, ⊎_elim}
use mathlib.Core.List.{List}
use native.Mathlib.Omega.{arith}
use Rattle.kinds.specs.declared.Pair.{Pair}
use Rattle.stripes.specs.Stripe.{root_stripe}
use Rattle.trees.specs.Tree.{Mem, itself}
use Rattle.trees.specs.Standing.{New}
use Rattle.pools.specs.Cells.{free_of, count_of, right_at, free_mark}
use Rattle.pools.specs.Sound.{Sound}
use Rattle.pools.specs.Laid.{inserted, deleted}
use Rattle.trees.proofs.Trees.{all_at, well_in}
use Rattle.trees.proofs.GoDown.{go_down_mem}
use Rattle.trees.proofs.Back.{put_back, back_down}
use Rattle.pools.proofs.Decided.{sound_well}
use Rattle.trees.proofs.Standing.{down_stands}
use Rattle.pools.proofs.Agreement.{SlotHolds, agree_holds, free_holds}
use Rattle.pools.proofs.Changed.{Relaid, changed_as, changed_back}
use Rattle.pools.proofs.Inserted.{free_first, grown, grown_down, inserted_changed, inserted_sound, inserted_any}
use Rattle.pools.proofs.Deleted.{cut, cut_new, cut_size, given_slot, deleted_changed, deleted_given, deleted_sound, deleted_any}

module _ {c : List ℕ} (s : Sound c) (p : Pair) (e : New itself p.x s.tree) (b : p.x < 4294967296) (n : free_of c ≢ 0) where
  -- law: the deletion that takes an insertion back is accepted, for p is then in the tree
  pub inserted_has : (d : Sound (inserted c p)) → Mem p d.tree
  inserted_has d = rw (inserted_any s p e b n d)
      ((go_down_mem itself (free_of c) p root_stripe s.tree (sound_well c s) (record { from = omega arith; to = b }) e p).1 (inl refl))

  -- it gives the tree and the slot back
  cut_back : (d : Sound (inserted c p)) → cut d p.x ≡ record { tree = s.tree; slot = free_of c }
  cut_back d = rw (inserted_any s p e b n d) (put_back itself (free_of c) p root_stripe s.tree (sound_well c s) (record { from = omega arith; to = b }) e)

  -- law: and it restores every cell
  pub inserted_back : deleted (inserted c p) p.x ≡ c
  inserted_back =
      let I = inserted_changed s p e b n in
      let d = inserted_sound s p e b n in
      let m = inserted_has d in
      let z = cut_back d in
      let f : (cut d p.x).slot ≡ free_of c = ap (λ k. k.slot) z in
      let r = I.header.right in
      let K : Relaid (inserted c p) (deleted (inserted c p) p.x) s.tree (grown s p) (free_of c) (count_of c) =
      changed_as (deleted_changed d p m) (ap (λ k. k.tree) z) (inserted_any s p e b n d) f (omega arith) in
      let G : SlotHolds (deleted (inserted c p) p.x) (free_of c) (record { x = 0; y = 0 }) free_mark (right_at c (free_of c)) =
      rw (f, I.header.left) at (deleted_given d p m) in
      changed_back s I K (λ u w k. ⊎_elim (λ h. rw h (agree_holds (free_holds (free_first s n).form) G)) (λ h. absurd (k h))
      (down_stands itself (grown_down s p e b n) w))

module _ {c : List ℕ} (s : Sound c) (p : Pair) (m : Mem p s.tree) where
  -- law: the insertion that takes a deletion back is accepted, for p's x is then new and there is a free slot
  pub deleted_new : (d : Sound (deleted c p.x)) → New itself p.x d.tree
  deleted_new d = rw (deleted_any s p m d) (cut_new s p m)

  first_given : free_of (deleted c p.x) ≡ (cut s p.x).slot
  first_given = (deleted_changed s p m).header.left

  pub deleted_room : free_of (deleted c p.x) ≢ 0
  deleted_room = let f = first_given in let o = (given_slot s p m).some in omega arith

  pub member_low : p.x < 4294967296
  member_low = (all_at _ (well_in itself root_stripe s.tree (sound_well c s)) m).to

  -- it gives the tree back
  grown_back : (d : Sound (deleted c p.x)) → grown d p ≡ s.tree
  grown_back d = rw (first_given, deleted_any s p m d) (back_down itself p root_stripe s.tree (sound_well c s) m)

  -- law: and it restores every cell
  pub deleted_back : inserted (deleted c p.x) p ≡ c
  deleted_back =
      let D = deleted_changed s p m in
      let d = deleted_sound s p m in
      let z = grown_back d in
      let r = D.header.right in
      let k = s.count in
      let y = cut_size s p m in
      let f : right_at (deleted c p.x) (free_of (deleted c p.x)) ≡ free_of c = rw first_given (deleted_given s p m).right in
      changed_back s D (changed_as (inserted_changed d p (deleted_new d) member_low deleted_room) z z f (omega arith)) (λ u w h. absurd (h w))
