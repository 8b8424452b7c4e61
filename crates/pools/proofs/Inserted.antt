-- The cells after an insertion: a sound pool whose tree is the one that the pair went down into. It assumes a sound pool with a free slot, and
-- an x of 32 bits that is new.
use Prim.Native.Nat.{ℕ, ◌+◌, ◌<◌}
use mathlib.Core.Path.{◌≡◌, refl, ap}
use mathlib.Core.Logic.{◌≢◌, ◌↔◌, ◌⊎◌, inl, inr, ⊎_elim}
use mathlib.Core.List.{List, ◌∷◌, Memᴰ}
use native.Mathlib.Omega.{arith}
use lib.ListN.{length}
use Rattle.kinds.specs.declared.Pair.{Pair}
use Rattle.stripes.specs.Stripe.{In, root_stripe}
use Rattle.trees.specs.Tree.{Tree, Well, itself}
use Rattle.trees.specs.Standing.{New, Stands}
use Rattle.trees.specs.Changes.{go_down}
use Rattle.pools.specs.Cells.{free_of, count_of, right_at, put_header, stored}
use Rattle.pools.specs.Sound.{Slot, Free, Chain, ends, next, Sound}
use Rattle.pools.specs.Laid.{top, lay, inserted}
use Rattle.trees.proofs.GoDown.{Down, down_view, go_down_well, go_down_mem}
use Rattle.pools.proofs.Leads.{leads_one}
use Rattle.pools.proofs.Decided.{sound_well, sound_tree}
use Rattle.trees.proofs.Standing.{down_stands, down_distinct, down_size}
use Rattle.pools.proofs.Agreement.{Agree, chain_frame}
use Rattle.plain.proofs.Apart.{not_differs}
use Rattle.pools.proofs.Slots.{sound_distinct, tree_slot, free_slot, not_both, chain_apart}
use Rattle.pools.proofs.Stored.{stored_mem}
use Rattle.pools.proofs.Changed.{Relaid, laid_changed, changed_links, changed_sound, changed_same}

-- the chain from its first slot on
pub record First (c : List ℕ) (s : ℕ) (free : List ℕ) : Type 0 where
  pub rest : List ℕ
  pub whole : free ≡ s ∷ rest
  pub slot : Slot c s
  pub form : Free c s
  pub chain : Chain c (right_at c s) rest

first : {c : List ℕ} {s : ℕ} {free : List ℕ} → Chain c s free → s ≢ 0 → First c s free
first ends n = absurd (n refl)
first (next {rest = rest} o f k) n = record { rest = rest; whole = refl; slot = o; form = f; chain = k }

-- the tree after the insertion
abbrev pub grown : {c : List ℕ} → Sound c → Pair → Tree Pair
grown {c} s p = go_down itself (free_of c) p root_stripe s.tree

pub inserted_is : {c : List ℕ} (s : Sound c) (p : Pair) → inserted c p ≡ lay (grown s p) (put_header c (top (grown s p)) (right_at c (free_of c)) (count_of c + 1))
unfolding inserted
inserted_is {c} s p = rw (sound_tree c s)

module _ {c : List ℕ} (s : Sound c) (n : free_of c ≢ 0) where
  -- the free slot that is taken
  pub free_first : First c (free_of c) s.free
  free_first = first s.chain n

  taken_listed : Memᴰ (free_of c) s.free
  taken_listed = rw free_first.whole (Memᴰ.head refl)

  pub taken_out : Stands (free_of c) s.tree → ⊥
  taken_out m = not_both s m taken_listed

  rest_listed : {u : ℕ} → Memᴰ u free_first.rest → Memᴰ u s.free
  rest_listed m = rw free_first.whole (Memᴰ.tail m)

  rest_other : {u : ℕ} → Memᴰ u free_first.rest → u ≢ free_of c
  rest_other {u} m e =
      let F = free_first in
      let a = rw F.whole at (chain_apart s.chain) in
      not_differs (rw e at m) a.0

module _ {c : List ℕ} (s : Sound c) (p : Pair) (e : New itself p.x s.tree) (b : p.x < 4294967296) (n : free_of c ≢ 0) where
  inside : In root_stripe p.x
  inside = record { from = omega arith; to = b }

  pub grown_down : Down itself (free_of c) p root_stripe s.tree (grown s p)
  grown_down = down_view itself (free_of c) p root_stripe s.tree (sound_well c s) inside e

  pub grown_well : Well itself root_stripe (grown s p)
  grown_well = go_down_well itself (free_of c) p root_stripe s.tree (sound_well c s) inside e

  grown_slot : (u : ℕ) → Stands u (grown s p) → Slot c u
  grown_slot u m = ⊎_elim (λ z. rw z (free_first s n).slot) (λ k. tree_slot s k) (down_stands itself grown_down m)

  -- what the insertion writes
  pub inserted_changed : Relaid c (inserted c p) (grown s p) (grown s p) (right_at c (free_of c)) (count_of c + 1)
  inserted_changed = rw (inserted_is s p)
      (laid_changed s.pool (grown s p) (down_distinct itself grown_down (sound_distinct s) (taken_out s n)) grown_slot (right_at c (free_of c)) (count_of c + 1))

  -- law: the length stays
  pub inserted_length : length (inserted c p) ≡ length c
  inserted_length = inserted_changed.long

  rest_agree : (u : ℕ) → Memᴰ u (free_first s n).rest → Agree c (inserted c p) u
  rest_agree u m =
      let k = rest_listed s n m in
      inserted_changed.rest u (free_slot s k)
      (λ a. ⊎_elim (λ z. rest_other s n m z) (λ j. not_both s j k) (down_stands itself grown_down a))

  -- law: the pool is sound afterwards
  pub inserted_sound : Sound (inserted c p)
  inserted_sound =
      let F = free_first s n in
      let r = s.rest in
      let w = ap length F.whole in
      let k = s.count in
      let z = down_size itself grown_down in
      changed_sound inserted_changed s.pool grown_well (omega arith) F.rest (chain_frame inserted_length F.chain rest_agree) (omega arith)

  -- law: its tree is the one that the pair went down into
  pub inserted_any : (d : Sound (inserted c p)) → d.tree ≡ grown s p
  inserted_any d = leads_one (inserted c p) d.links (changed_links inserted_changed)

  -- law: what is stored afterwards is p and what was stored before
  pub inserted_stored : (q : Pair) → Memᴰ q (stored (inserted c p)) ↔ ((q ≡ p) ⊎ Memᴰ q (stored c))
  inserted_stored q =
      let a = stored_mem inserted_sound q in
      let g = go_down_mem itself (free_of c) p root_stripe s.tree (sound_well c s) inside e q in
      let k = stored_mem s q in
      let z = inserted_any inserted_sound in (
        λ m. ⊎_elim (λ h. inl h) (λ j. inr (k.1 j)) (g.0 (rw z at (a.0 m))),
        λ m. a.1 (rw z (g.1 (⊎_elim (λ h. inl h) (λ j. inr (k.0 j)) m))),
      )

  -- law: what the insertion writes is all that it writes
  pub inserted_one : {d : List ℕ} → Relaid c d (grown s p) (grown s p) (right_at c (free_of c)) (count_of c + 1) → d ≡ inserted c p
  inserted_one h = changed_same s.pool inserted_changed h (λ u m k. absurd (k m))
