-- The cells after a deletion: a sound pool whose tree is what is left, with the slot that was given up first in the chain. It assumes a sound
-- pool whose tree has the pair.
use Prim.Native.Nat.{ℕ, ◌+◌, ◌-◌}
use mathlib.Core.Path.{◌≡◌, ◌∙◌}
use mathlib.Core.Logic.{◌≢◌, ◌↔◌, ◌⊎◌, inl, inr, ⊎_elim}
use mathlib.Core.List.{List, ◌∷◌, Memᴰ}
use native.Mathlib.Omega.{arith}
use lib.ListN.{length}
use Rattle.kinds.specs.declared.Pair.{Pair}
use Rattle.stripes.specs.Stripe.{root_stripe}
use Rattle.trees.specs.Tree.{size, Mem, Well, itself}
use Rattle.trees.specs.Standing.{New, Stands}
use Rattle.trees.specs.Changes.{Cut, take_out}
use Rattle.pools.specs.Cells.{free_of, count_of, free_mark, put_header, put_free, stored}
use Rattle.pools.specs.Sound.{Slot, Chain, next, Sound}
use Rattle.pools.specs.Laid.{top, lay, deleted}
use Rattle.trees.proofs.Trees.{all_at}
use Rattle.trees.proofs.GoDown.{Down}
use Rattle.trees.proofs.TakeOut.{taken_view, take_out_well, take_out_mem, take_out_new}
use Rattle.trees.proofs.Back.{taken_down}
use Rattle.pools.proofs.Leads.{leads_one}
use Rattle.pools.proofs.Decided.{sound_well, sound_tree}
use Rattle.trees.proofs.Standing.{down_stands, stands_new, stands_down, distinct_down, new_out, down_size}
use Rattle.pools.proofs.Agreement.{Agree, agree_then, same_slot, leads_frame, chain_frame, SlotHolds, holds_agree, agree_holds, holds_free, free_wrote, free_read, slot_fits}
use Rattle.pools.proofs.Slots.{sound_distinct, tree_slot, free_slot, not_both}
use Rattle.pools.proofs.Stored.{stored_mem}
use Rattle.pools.proofs.Changed.{Relaid, laid_changed, changed_links, changed_sound, changed_same}

-- what is left of the tree after the deletion, and the slot that is given up
abbrev pub cut : {c : List ℕ} → Sound c → ℕ → Cut Pair
cut s x = take_out itself x root_stripe s.tree

-- the tree that is left laid out, and the slot given up not yet in the free form
abbrev pub laid : {c : List ℕ} → Sound c → ℕ → List ℕ
laid {c} s x = lay (cut s x).tree (put_header c (top (cut s x).tree) (cut s x).slot (count_of c - 1))

pub deleted_is : {c : List ℕ} (s : Sound c) (x : ℕ) → deleted c x ≡ put_free (laid s x) (cut s x).slot (free_of c)
unfolding deleted
deleted_is {c} s x = rw (sound_tree c s)

module _ {c : List ℕ} (s : Sound c) (p : Pair) (m : Mem p s.tree) where
  -- the pair goes back the way it came
  pub cut_down : Down itself (cut s p.x).slot p root_stripe (cut s p.x).tree s.tree
  cut_down = taken_down itself (taken_view itself p root_stripe s.tree (sound_well c s) m) (sound_well c s)

  pub cut_well : Well itself root_stripe (cut s p.x).tree
  cut_well = take_out_well itself p root_stripe s.tree (sound_well c s) m

  -- law: the x is new to what is left
  pub cut_new : New itself p.x (cut s p.x).tree
  cut_new = take_out_new itself p root_stripe s.tree (sound_well c s) m

  pub given_stands : Stands (cut s p.x).slot s.tree
  given_stands = stands_new itself cut_down

  pub given_out : Stands (cut s p.x).slot (cut s p.x).tree → ⊥
  given_out k = new_out itself cut_down (sound_distinct s) k

  pub given_slot : Slot c (cut s p.x).slot
  given_slot = tree_slot s given_stands

  laid_tree : Relaid c (laid s p.x) (cut s p.x).tree (cut s p.x).tree (cut s p.x).slot (count_of c - 1)
  laid_tree = laid_changed s.pool (cut s p.x).tree (distinct_down itself cut_down (sound_distinct s))
      (λ u k. tree_slot s (stands_down itself cut_down k)) (cut s p.x).slot (count_of c - 1)

  freed : Relaid c (put_free (laid s p.x) (cut s p.x).slot (free_of c)) (cut s p.x).tree s.tree (cut s p.x).slot (count_of c - 1)
  freed =
      let L = laid_tree in
      let W = free_wrote (laid s p.x) (cut s p.x).slot (free_of c) in
      let o = given_slot.some in
      record {
        long = W.long ∙ L.long;
        header = holds_agree L.header (W.rest 0 (omega arith));
        leads = leads_frame W.long L.leads (λ u k. W.rest u (λ e. given_out (rw e at k)));
        rest = λ u z n. agree_then (L.rest u z (λ k. n (stands_down itself cut_down k))) (W.rest u (λ e. n (rw e given_stands)));
      }

  -- what the deletion writes
  pub deleted_changed : Relaid c (deleted c p.x) (cut s p.x).tree s.tree (cut s p.x).slot (count_of c - 1)
  deleted_changed = rw (deleted_is s p.x) freed

  -- the slot given up is in the free form, and points to the one that was first
  pub deleted_given : SlotHolds (deleted c p.x) (cut s p.x).slot (record { x = 0; y = 0 }) free_mark (free_of c)
  deleted_given =
      let o : Slot (laid s p.x) (cut s p.x).slot = same_slot laid_tree.long given_slot in
      rw (deleted_is s p.x) (free_read (laid s p.x) (cut s p.x).slot (free_of c) (slot_fits o))

  -- law: the length stays
  pub deleted_length : length (deleted c p.x) ≡ length c
  deleted_length = deleted_changed.long

  -- law: there is a pair fewer
  pub cut_size : size s.tree ≡ size (cut s p.x).tree + 1
  cut_size = down_size itself cut_down

  free_agree : (u : ℕ) → Memᴰ u s.free → Agree c (deleted c p.x) u
  free_agree u k = deleted_changed.rest u (free_slot s k) (λ a. not_both s a k)

  deleted_chain : Chain (deleted c p.x) (cut s p.x).slot ((cut s p.x).slot ∷ s.free)
  deleted_chain =
      next {rest = s.free} (same_slot deleted_length given_slot) (holds_free deleted_given)
      (rw deleted_given.right (chain_frame deleted_length s.chain free_agree))

  -- law: the pool is sound afterwards
  pub deleted_sound : Sound (deleted c p.x)
  deleted_sound =
      let r = s.rest in
      let k = s.count in
      let z = cut_size in
      changed_sound deleted_changed s.pool cut_well (omega arith) ((cut s p.x).slot ∷ s.free) deleted_chain (omega arith)

  -- law: its tree is what is left
  pub deleted_any : (d : Sound (deleted c p.x)) → d.tree ≡ (cut s p.x).tree
  deleted_any d = leads_one (deleted c p.x) d.links (changed_links deleted_changed)

  -- law: what was stored before is p and what is stored afterwards
  pub deleted_stored : (q : Pair) → Memᴰ q (stored c) ↔ ((q ≡ p) ⊎ Memᴰ q (stored (deleted c p.x)))
  deleted_stored q =
      let a = stored_mem deleted_sound q in
      let g = take_out_mem itself p root_stripe s.tree (sound_well c s) m q in
      let k = stored_mem s q in
      let z = deleted_any deleted_sound in (
        λ j. ⊎_elim (λ h. inl h) (λ i. inr (a.1 (rw z i))) (g.0 (k.0 j)),
        λ j. k.1 (g.1 (⊎_elim (λ h. inl h) (λ i. inr (rw z at (a.0 i))) j)),
      )

  -- law: its x is stored no more
  pub deleted_gone : (q : Pair) → Memᴰ q (stored (deleted c p.x)) → p.x ≢ q.x
  deleted_gone q j = all_at _ cut_new (rw (deleted_any deleted_sound) at ((stored_mem deleted_sound q).0 j))

  -- law: what the deletion writes is all that it writes
  pub deleted_one : {d : List ℕ} → Relaid c d (cut s p.x).tree s.tree (cut s p.x).slot (count_of c - 1)
      → SlotHolds d (cut s p.x).slot (record { x = 0; y = 0 }) free_mark (free_of c) → d ≡ deleted c p.x
  deleted_one h f = changed_same s.pool deleted_changed h (λ u a k. ⊎_elim (λ z. rw z (agree_holds deleted_given f)) (λ b. absurd (k b)) (down_stands itself cut_down a))
