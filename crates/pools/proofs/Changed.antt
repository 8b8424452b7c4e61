-- A change writes the header and the slots of one tree: when the pool is sound afterwards, and when a second change takes the first back. It
-- assumes slots that differ and are the pool's; and, for a sound pool, a well-formed tree and a chain of all the other slots.
use Prim.Native.Nat.{ℕ, ◌+◌}
use mathlib.Core.Path.{◌≡◌, refl, sym, ap, ◌∙◌}
use mathlib.Core.Logic.{⊎_elim}
use mathlib.Core.List.{List}
use native.Mathlib.Omega.{arith}
use lib.ListN.{length}
use Rattle.kinds.specs.declared.Pair.{Pair}
use Rattle.stripes.specs.Stripe.{root_stripe}
use Rattle.trees.specs.Tree.{Tree, size, Well, itself}
use Rattle.trees.specs.Standing.{Stands, Distinct}
use Rattle.pools.specs.Cells.{slots_of, root_of, free_of, count_of, put_header}
use Rattle.pools.specs.Sound.{Pool, Slot, Leads, Chain, Sound}
use Rattle.pools.specs.Laid.{top, lay}
use Rattle.kinds.proofs.Order.{pair_ext}
use Rattle.trees.proofs.Clauses.{stripes_of, ordered_of}
use Rattle.trees.proofs.Members.{well_apart}
use Rattle.trees.proofs.Levels.{root_levels}
use Rattle.trees.proofs.Standing.{stands}
use Rattle.pools.proofs.Agreement.{Agree, agree_back, agree_then, SlotHolds, holds_agree, agree_holds, same_pool, same_slot, leads_top, agree_outside, header_wrote, header_read, header_fits}
use Rattle.pools.proofs.Laying.{lay_length, lay_rest, lay_leads}

-- a change from c to d: the header names the tree t, the first free slot and the number of pairs, and all slots outside `wide` stay
pub record Relaid (c d : List ℕ) (t wide : Tree Pair) (free count : ℕ) : Type 0 where
  pub long : length d ≡ length c
  pub header : SlotHolds d 0 (record { x = 1; y = top t }) free count
  pub leads : Leads d (top t) t
  pub rest : (u : ℕ) → Slot c u → (Stands u wide → ⊥) → Agree c d u

-- a tree laid out under a new header
module _ {c : List ℕ} (o : Pool c) (t : Tree Pair) (d : Distinct t) (h : (u : ℕ) → Stands u t → Slot c u) (g n : ℕ) where
  zero_out : Stands 0 t → ⊥
  zero_out m = omega (arith, (h 0 m).some)

  pub laid_changed : Relaid c (lay t (put_header c (top t) g n)) t t g n
  laid_changed =
      let b = put_header c (top t) g n in
      let W = header_wrote c (top t) g n in
      record {
        long = lay_length t b ∙ W.long;
        header = holds_agree (header_read c (top t) g n (header_fits o)) (lay_rest t b 0 zero_out);
        leads = lay_leads t b d (λ u m. same_slot W.long (h u m));
        rest = λ u o m. agree_then (W.rest u (omega (arith, o.some))) (lay_rest t b u m);
      }

-- the header of a sound pool
pub sound_header : {c : List ℕ} (s : Sound c) → SlotHolds c 0 (record { x = 1; y = top s.tree }) (free_of c) (count_of c)
sound_header s = record { pair = pair_ext s.mark (leads_top s.links); left = refl; right = refl }

module _ {c d : List ℕ} {t wide : Tree Pair} {g n : ℕ} (h : Relaid c d t wide g n) where
  pub changed_root : root_of d ≡ top t
  changed_root = ap (λ q. q.y) h.header.pair

  pub changed_links : Leads d (root_of d) t
  changed_links = rw changed_root h.leads

  -- law: what makes the pool sound afterwards
  pub changed_sound : Pool c → Well itself root_stripe t → size t ≡ n → (free : List ℕ) → Chain d g free → n + length free ≡ slots_of c → Sound d
  changed_sound p w e free k r =
      let l = h.long in
      let m : count_of d ≡ n = h.header.right in
      record {
        pool = same_pool l p;
        mark = ap (λ q. q.x) h.header.pair;
        tree = t;
        links = changed_links;
        stripes = stripes_of itself root_stripe t w;
        order = ordered_of itself root_stripe t w;
        apart = well_apart itself root_stripe t w;
        levels = root_levels itself t w;
        count = e ∙ sym m;
        free = free;
        chain = rw h.header.left k;
        rest = omega arith;
      }

pub changed_as : {c d : List ℕ} {t t' w w' : Tree Pair} {g g' n n' : ℕ} → Relaid c d t w g n → t ≡ t' → w ≡ w' → g ≡ g' → n ≡ n' → Relaid c d t' w' g' n'
changed_as h et ew eg en = rw (et, ew, eg, en) at h

-- law: two changes from c to the same, that agree on the slots that the tree has given up, are equal
pub changed_same : {c d e : List ℕ} {t wide : Tree Pair} {g n : ℕ} → Pool c → Relaid c d t wide g n → Relaid c e t wide g n
    → ((u : ℕ) → Stands u wide → (Stands u t → ⊥) → Agree d e u) → e ≡ d
changed_same {t = t} {wide = wide} p h k other =
    let l = h.long in
    agree_outside t (same_pool l p) (k.long ∙ sym l) h.leads k.leads (agree_holds h.header k.header) (λ u o n.
    let o' = same_slot (sym l) o in
    ⊎_elim (λ m. other u m n) (λ m. agree_then (agree_back (h.rest u o' m)) (k.rest u o' m)) (stands u wide))

-- the way back from d to the sound pool c
undone : {c d : List ℕ} {t wide : Tree Pair} {g n : ℕ} (s : Sound c) → Relaid c d t wide g n → Relaid d c s.tree wide (free_of c) (count_of c)
undone s h = record {
  long = sym h.long;
  header = sound_header s;
  leads = rw (leads_top s.links) at s.links;
  rest = λ u o m. agree_back (h.rest u (same_slot (sym h.long) o) m);
}

-- law: a second change of the same slots that leads to the first tree, with the first header, takes the first back
pub changed_back : {c d e : List ℕ} {t wide : Tree Pair} {g n : ℕ} (s : Sound c) → Relaid c d t wide g n
    → Relaid d e s.tree wide (free_of c) (count_of c) → ((u : ℕ) → Stands u wide → (Stands u s.tree → ⊥) → Agree c e u) → e ≡ c
changed_back s h k other = changed_same (same_pool h.long s.pool) (undone s h) k other
