-- A tree laid out in its slots is what its top then leads to, and nothing else changes. It assumes slots that differ and are the pool's.
use Prim.Native.Nat.{ℕ}
use mathlib.Core.Path.{◌≡◌, refl, ◌∙◌}
use mathlib.Core.List.{List}
use lib.ListN.{length}
use Rattle.kinds.specs.declared.Pair.{Pair}
use Rattle.trees.specs.Tree.{Tree, none, fork}
use Rattle.trees.specs.Standing.{Stands, at_top, at_left, at_right, Distinct}
use Rattle.pools.specs.Sound.{Slot, Leads, nowhere, slot}
use Rattle.pools.specs.Laid.{top, lay}
use Rattle.pools.proofs.Agreement.{Agree, agree_same, agree_then, same_slot, slot_as, leads_top, leads_frame, slot_wrote, slot_read, slot_same, slot_fits}

-- law: the length stays
pub lay_length : (t : Tree Pair) (c : List ℕ) → length (lay t c) ≡ length c
unfolding lay
lay_length none c = refl
lay_length (fork s p l r) c = (slot_wrote (lay r (lay l c)) s p (top l) (top r)).long ∙ lay_length r (lay l c) ∙ lay_length l c

-- law: every slot outside the tree stays, and the header
pub lay_rest : (t : Tree Pair) (c : List ℕ) (u : ℕ) → (Stands u t → ⊥) → Agree c (lay t c) u
unfolding lay
lay_rest none c u n = agree_same
lay_rest (fork s p l r) c u n =
    agree_then (lay_rest l c u (λ m. n (at_left m)))
    (agree_then (lay_rest r (lay l c) u (λ m. n (at_right m))) ((slot_wrote (lay r (lay l c)) s p (top l) (top r)).rest u (λ e. n (at_top e))))

-- law: the top leads to the tree
pub lay_leads : (t : Tree Pair) (c : List ℕ) → Distinct t → ((u : ℕ) → Stands u t → Slot c u) → Leads (lay t c) (top t) t
unfolding lay
lay_leads none c d h = nowhere
lay_leads (fork s p l r) c d h =
    let a = lay l c in
    let b = lay r a in
    let ea : length a ≡ length c = lay_length l c in
    let eb : length b ≡ length a = lay_length r a in
    let W = slot_wrote b s p (top l) (top r) in
    let o : Slot b s = same_slot (eb ∙ ea) (h s (at_top refl)) in
    let R = slot_read b s p (top l) (top r) (slot_fits o) in
    let L₁ : Leads a (top l) l = lay_leads l c d.left (λ u m. h u (at_left m)) in
    let L₂ : Leads b (top l) l = leads_frame eb L₁ (λ u m. lay_rest r a u (λ k. d.across u m k)) in
    let R₂ : Leads b (top r) r = lay_leads r a d.right (λ u m. same_slot ea (h u (at_right m))) in
    slot_as (same_slot W.long o) R.pair R.left R.right
    (leads_frame W.long L₂ (λ u m. W.rest u (λ e. d.not_left (rw e at m))))
    (leads_frame W.long R₂ (λ u m. W.rest u (λ e. d.not_right (rw e at m))))

-- law: a tree that is there already, laid out again, changes nothing
pub lay_same : {c : List ℕ} {s : ℕ} {t : Tree Pair} → Leads c s t → lay t c ≡ c
unfolding lay
lay_same nowhere = refl
lay_same {c} (slot {s = s} o L R) = rw (lay_same L, lay_same R, ← leads_top L, ← leads_top R) (slot_same c s)
