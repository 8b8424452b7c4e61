-- Pools that agree on every slot, the header being slot 0, are equal, and a link leads to the same tree where they agree on its slots. It
-- assumes pools of one length; what is written and then read assumes that the slot's cells are there.
use Prim.Native.Nat.{ℕ, zero, suc, ◌+◌, ◌*◌, ◌-◌, ◌/◌, ◌≤◌, ◌<◌}
use mathlib.Core.Path.{◌≡◌, refl, sym, ap, ◌∙◌, subst}
use mathlib.Core.Logic.{◌≢◌, ⊎_elim}
use mathlib.Core.List.{List, Memᴰ}
use native.Mathlib.Omega.{arith}
use lib.ListN.{length, get_or, set, length-set}
use lib.Seq.{get_or-set_same, get_or-set_other, set-get_or, ext_get_or}
use Rattle.kinds.specs.declared.Pair.{Pair}
use Rattle.trees.specs.Tree.{Tree, none, fork}
use Rattle.trees.specs.Standing.{Stands, at_top, at_left, at_right}
use Rattle.pools.specs.Cells.{per_slot, slots_of, pair_at, left_at, right_at, put_header, put_pair, put_links, put_free, free_mark}
use Rattle.pools.specs.Links.{Fits}
use Rattle.pools.specs.Sound.{Pool, Slot, Leads, nowhere, slot, Free, Chain, ends, next}
use Rattle.pools.specs.Laid.{top}
use Rattle.kinds.proofs.Order.{pair_ext}
use Rattle.trees.proofs.Standing.{stands}

-- two pools agree on slot s; on slot 0: the mark, the root slot, the first free slot and the number of pairs
pub record Agree (c d : List ℕ) (s : ℕ) : Type 0 where
  pub pair : pair_at d s ≡ pair_at c s
  pub left : left_at d s ≡ left_at c s
  pub right : right_at d s ≡ right_at c s

pub agree_same : {c : List ℕ} {s : ℕ} → Agree c c s
agree_same = record { pair = refl; left = refl; right = refl }

pub agree_back : {c d : List ℕ} {s : ℕ} → Agree c d s → Agree d c s
agree_back h = record { pair = sym h.pair; left = sym h.left; right = sym h.right }

pub agree_then : {c d e : List ℕ} {s : ℕ} → Agree c d s → Agree d e s → Agree c e s
agree_then h k = record { pair = k.pair ∙ h.pair; left = k.left ∙ h.left; right = k.right ∙ h.right }

-- agreement on a slot is agreement on its four cells
pub agree_cell : {c d : List ℕ} {s : ℕ} → Agree c d s → (i j : ℕ) → j < per_slot → i ≡ s * per_slot + j → get_or d i 0 ≡ get_or c i 0
agree_cell {s = s} h i zero b e = let z : i ≡ s * per_slot = omega arith in rw z (ap (λ q. q.x) h.pair)
agree_cell h i (suc zero) b e = rw e (ap (λ q. q.y) h.pair)
agree_cell h i (suc (suc zero)) b e = rw e h.left
agree_cell h i (suc (suc (suc zero))) b e = rw e h.right
agree_cell h i (suc (suc (suc (suc j)))) b e = absurd (omega arith)

-- the slot that a cell is in: the header, or one of the slots
agree_at : {c d : List ℕ} → Agree c d 0 → ((s : ℕ) → Slot c s → Agree c d s) → (s : ℕ) → s ≤ slots_of c → Agree c d s
agree_at h k zero b = h
agree_at h k (suc s) b = k (suc s) (record { some = omega arith; most = b })

-- law: pools that agree on the header and on every slot are equal
pub agree_all : {c d : List ℕ} → Pool c → length d ≡ length c → Agree c d 0 → ((s : ℕ) → Slot c s → Agree c d s) → d ≡ c
agree_all {c} {d} p e h k = ext_get_or 0 d c e (λ i b.
    let w = p.whole in
    agree_cell (agree_at h k (i / per_slot) (omega arith)) i (i - i / per_slot * per_slot) (omega arith) (omega arith))

-- a pool of the same length
module _ {c d : List ℕ} (e : length d ≡ length c) where
  pub same_pool : Pool c → Pool d
  same_pool p = let w = p.whole in let s = p.some in let m = p.most in record { whole = omega arith; some = omega arith; most = omega arith }

  pub same_slot : {s : ℕ} → Slot c s → Slot d s
  same_slot o = let s = o.some in let m = o.most in record { some = omega arith; most = omega arith }

-- a slot by what is read there
pub slot_as : {c : List ℕ} {s a b : ℕ} {p : Pair} {l r : Tree Pair} → Slot c s → pair_at c s ≡ p → left_at c s ≡ a → right_at c s ≡ b
    → Leads c a l → Leads c b r → Leads c s (fork s p l r)
slot_as {c} {s} {l = l} {r = r} o e f g L R = subst (λ q. Leads c s (fork s q l r)) e (slot {s = s} {l = l} {r = r} o (rw f L) (rw g R))

-- and what is read at a slot
pub record ReadsSlot (c : List ℕ) (s i : ℕ) (p : Pair) (l r : Tree Pair) : Type 0 where
  pub here : s ≡ i
  pub slot : Slot c i
  pub pair : pair_at c i ≡ p
  pub left : Leads c (left_at c i) l
  pub right : Leads c (right_at c i) r

reads_of : {c : List ℕ} {s i : ℕ} {p : Pair} {t l r : Tree Pair} → Leads c s t → t ≡ fork i p l r → ReadsSlot c s i p l r
reads_of nowhere e = let z : ◌≡◌ {A = ℕ} 0 1 = cc in absurd (omega arith)
reads_of {c} {i = i} {p = p} {l = l} {r = r} (slot {s = s} {l = a} {r = b} o L R) e =
    let es : s ≡ i = cc in
    let ep : pair_at c s ≡ p = cc in
    let el : a ≡ l = cc in
    let er : b ≡ r = cc in
    record { here = es; slot = rw es at o; pair = rw es at ep; left = rw (es, el) at L; right = rw (es, er) at R }

pub leads_reads : {c : List ℕ} {s i : ℕ} {p : Pair} {l r : Tree Pair} → Leads c s (fork i p l r) → ReadsSlot c s i p l r
leads_reads h = reads_of h refl

pub leads_top : {c : List ℕ} {s : ℕ} {t : Tree Pair} → Leads c s t → s ≡ top t
leads_top nowhere = refl
leads_top (slot o L R) = refl

pub leads_slot : {c : List ℕ} {s u : ℕ} (t : Tree Pair) → Leads c s t → Stands u t → Slot c u
leads_slot none h m = elim m [ ]
leads_slot {c} (fork i p l r) h (at_top e) = subst (Slot c) (sym e) (leads_reads h).slot
leads_slot {c = c} (fork i p l r) h (at_left m) = leads_slot {s = left_at c i} l (leads_reads h).left m
leads_slot {c = c} (fork i p l r) h (at_right m) = leads_slot {s = right_at c i} r (leads_reads h).right m

-- the frame
module _ {c d : List ℕ} (e : length d ≡ length c) where
  -- law: a link leads to the same tree in a pool that agrees on its slots
  pub leads_frame : {s : ℕ} {t : Tree Pair} → Leads c s t → ((u : ℕ) → Stands u t → Agree c d u) → Leads d s t
  leads_frame nowhere h = nowhere
  leads_frame (slot {s = s} o L R) h =
      let a = h s (at_top refl) in
      slot_as (same_slot e o) a.pair a.left a.right
      (leads_frame L (λ u m. h u (at_left m))) (leads_frame R (λ u m. h u (at_right m)))

  -- law: so does a free chain
  pub chain_frame : {s : ℕ} {free : List ℕ} → Chain c s free → ((u : ℕ) → Memᴰ u free → Agree c d u) → Chain d s free
  chain_frame ends h = ends
  chain_frame (next {s = s} {rest = rest} o f k) h =
      let a = h s (Memᴰ.head refl) in
      next {s = s} {rest = rest} (same_slot e o) (record { x = ap (λ q. q.x) a.pair ∙ f.x; y = ap (λ q. q.y) a.pair ∙ f.y; left = a.left ∙ f.left })
      (rw a.right (chain_frame k (λ u m. h u (Memᴰ.tail m))))

-- law: two pools in which links lead to one tree agree on its slots
pub leads_agree : {c d : List ℕ} {s v u : ℕ} (t : Tree Pair) → Leads c s t → Leads d v t → Stands u t → Agree c d u
leads_agree none h k m = elim m [ ]
leads_agree {c} {d} (fork i p l r) h k (at_top e) =
    let a = leads_reads h in
    let b = leads_reads k in
    subst (Agree c d) (sym e) (record {
      pair = b.pair ∙ sym a.pair;
      left = leads_top b.left ∙ sym (leads_top a.left);
      right = leads_top b.right ∙ sym (leads_top a.right);
    })
leads_agree {c = c} {d = d} (fork i p l r) h k (at_left m) = leads_agree {s = left_at c i} {v = left_at d i} l (leads_reads h).left (leads_reads k).left m
leads_agree {c = c} {d = d} (fork i p l r) h k (at_right m) = leads_agree {s = right_at c i} {v = right_at d i} r (leads_reads h).right (leads_reads k).right m

-- law: pools that agree on the header and on every slot outside a tree, and in which links lead to that tree, are equal
pub agree_outside : {c d : List ℕ} {s v : ℕ} (t : Tree Pair) → Pool c → length d ≡ length c → Leads c s t → Leads d v t
    → Agree c d 0 → ((u : ℕ) → Slot c u → (Stands u t → ⊥) → Agree c d u) → d ≡ c
agree_outside t p e h k top out = agree_all p e top (λ u o. ⊎_elim (λ m. leads_agree t h k m) (λ n. out u o n) (stands u t))

-- d differs from c at slot s alone
pub record WroteSlot (c d : List ℕ) (s : ℕ) : Type 0 where
  pub long : length d ≡ length c
  pub rest : (u : ℕ) → u ≢ s → Agree c d u

pub wrote_then : {c d e : List ℕ} {s : ℕ} → WroteSlot c d s → WroteSlot d e s → WroteSlot c e s
wrote_then h k = record { long = k.long ∙ h.long; rest = λ u n. agree_then (h.rest u n) (k.rest u n) }

module _ (c : List ℕ) (s : ℕ) where
  wrote_cell : (i v : ℕ) → s * per_slot ≤ i → i < s * per_slot + per_slot → WroteSlot c (set c i v) s
  wrote_cell i v a b = record {
    long = length-set c i v;
    rest = λ u n. record {
      pair = pair_ext (get_or-set_other c i (u * per_slot) v 0 (omega arith)) (get_or-set_other c i (u * per_slot + 1) v 0 (omega arith));
      left = get_or-set_other c i (u * per_slot + 2) v 0 (omega arith);
      right = get_or-set_other c i (u * per_slot + 3) v 0 (omega arith);
    };
  }

-- law: a pair written at a slot is read there, and nothing else changes
module _ (c : List ℕ) (s : ℕ) (p : Pair) where
  pub pair_wrote : WroteSlot c (put_pair c s p) s
  pair_wrote =
      wrote_then (wrote_cell c s (s * per_slot) p.x (omega arith) (omega arith))
      (wrote_cell (set c (s * per_slot) p.x) s (s * per_slot + 1) p.y (omega arith) (omega arith))

  pub pair_read : Fits c s → pair_at (put_pair c s p) s ≡ p
  pair_read h =
      let a = set c (s * per_slot) p.x in
      let e = length-set c (s * per_slot) p.x in
      pair_ext (get_or-set_other a (s * per_slot + 1) (s * per_slot) p.y 0 (omega arith) ∙ get_or-set_same c (s * per_slot) p.x 0 (omega arith))
      (get_or-set_same a (s * per_slot + 1) p.y 0 (omega arith))

  pub pair_left : left_at (put_pair c s p) s ≡ left_at c s
  pair_left =
      get_or-set_other (set c (s * per_slot) p.x) (s * per_slot + 1) (s * per_slot + 2) p.y 0 (omega arith)
      ∙ get_or-set_other c (s * per_slot) (s * per_slot + 2) p.x 0 (omega arith)

  pub pair_right : right_at (put_pair c s p) s ≡ right_at c s
  pair_right =
      get_or-set_other (set c (s * per_slot) p.x) (s * per_slot + 1) (s * per_slot + 3) p.y 0 (omega arith)
      ∙ get_or-set_other c (s * per_slot) (s * per_slot + 3) p.x 0 (omega arith)

-- law: so are links
module _ (c : List ℕ) (s l r : ℕ) where
  pub links_wrote : WroteSlot c (put_links c s l r) s
  links_wrote =
      wrote_then (wrote_cell c s (s * per_slot + 2) l (omega arith) (omega arith))
      (wrote_cell (set c (s * per_slot + 2) l) s (s * per_slot + 3) r (omega arith) (omega arith))

  pub links_pair : pair_at (put_links c s l r) s ≡ pair_at c s
  links_pair =
      let a = set c (s * per_slot + 2) l in
      pair_ext (get_or-set_other a (s * per_slot + 3) (s * per_slot) r 0 (omega arith) ∙ get_or-set_other c (s * per_slot + 2) (s * per_slot) l 0 (omega arith))
      (get_or-set_other a (s * per_slot + 3) (s * per_slot + 1) r 0 (omega arith) ∙ get_or-set_other c (s * per_slot + 2) (s * per_slot + 1) l 0 (omega arith))

  pub links_left : Fits c s → left_at (put_links c s l r) s ≡ l
  links_left h =
      get_or-set_other (set c (s * per_slot + 2) l) (s * per_slot + 3) (s * per_slot + 2) r 0 (omega arith)
      ∙ get_or-set_same c (s * per_slot + 2) l 0 (omega arith)

  pub links_right : Fits c s → right_at (put_links c s l r) s ≡ r
  links_right h = let e = length-set c (s * per_slot + 2) l in get_or-set_same (set c (s * per_slot + 2) l) (s * per_slot + 3) r 0 (omega arith)

-- slot s holds this; slot 0: the mark and the root slot, the first free slot, the number of pairs
pub record SlotHolds (c : List ℕ) (s : ℕ) (p : Pair) (l r : ℕ) : Type 0 where
  pub pair : pair_at c s ≡ p
  pub left : left_at c s ≡ l
  pub right : right_at c s ≡ r

pub holds_agree : {c d : List ℕ} {s : ℕ} {p : Pair} {l r : ℕ} → SlotHolds c s p l r → Agree c d s → SlotHolds d s p l r
holds_agree h a = record { pair = a.pair ∙ h.pair; left = a.left ∙ h.left; right = a.right ∙ h.right }

pub agree_holds : {c d : List ℕ} {s : ℕ} {p : Pair} {l r : ℕ} → SlotHolds c s p l r → SlotHolds d s p l r → Agree c d s
agree_holds h k = record { pair = k.pair ∙ sym h.pair; left = k.left ∙ sym h.left; right = k.right ∙ sym h.right }

-- a slot written whole, as `put_free`, `put_header` (slot 0) and `lay` write it
abbrev pub put_slot : List ℕ → ℕ → Pair → ℕ → ℕ → List ℕ
put_slot c s p l r = put_links (put_pair c s p) s l r

-- law: so is a whole slot
module _ (c : List ℕ) (s : ℕ) (p : Pair) (l r : ℕ) where
  pub slot_wrote : WroteSlot c (put_slot c s p l r) s
  slot_wrote = wrote_then (pair_wrote c s p) (links_wrote (put_pair c s p) s l r)

  pub slot_read : Fits c s → SlotHolds (put_slot c s p l r) s p l r
  slot_read h =
      let e = (pair_wrote c s p).long in
      let f : Fits (put_pair c s p) s = omega arith in
      record {
        pair = links_pair (put_pair c s p) s l r ∙ pair_read c s p h;
        left = links_left (put_pair c s p) s l r f;
        right = links_right (put_pair c s p) s l r f;
      }

-- law: the free form
pub free_wrote : (c : List ℕ) (s v : ℕ) → WroteSlot c (put_free c s v) s
free_wrote c s v = slot_wrote c s (record { x = 0; y = 0 }) free_mark v

pub free_read : (c : List ℕ) (s v : ℕ) → Fits c s → SlotHolds (put_free c s v) s (record { x = 0; y = 0 }) free_mark v
free_read c s v h = slot_read c s (record { x = 0; y = 0 }) free_mark v h

pub holds_free : {c : List ℕ} {s v : ℕ} → SlotHolds c s (record { x = 0; y = 0 }) free_mark v → Free c s
holds_free h = record { x = ap (λ q. q.x) h.pair; y = ap (λ q. q.y) h.pair; left = h.left }

pub free_holds : {c : List ℕ} {s : ℕ} → Free c s → SlotHolds c s (record { x = 0; y = 0 }) free_mark (right_at c s)
free_holds f = record { pair = pair_ext f.x f.y; left = f.left; right = refl }

-- law: the header
pub header_wrote : (c : List ℕ) (root free count : ℕ) → WroteSlot c (put_header c root free count) 0
header_wrote c root free count = slot_wrote c 0 (record { x = 1; y = root }) free count

pub header_read : (c : List ℕ) (root free count : ℕ) → Fits c 0 → SlotHolds (put_header c root free count) 0 (record { x = 1; y = root }) free count
header_read c root free count h = slot_read c 0 (record { x = 1; y = root }) free count h

-- law: what stands at a slot already, written again, changes nothing
pub slot_same : (c : List ℕ) (s : ℕ) → put_slot c s (pair_at c s) (left_at c s) (right_at c s) ≡ c
slot_same c s = rw (set-get_or c (s * per_slot) 0, set-get_or c (s * per_slot + 1) 0, set-get_or c (s * per_slot + 2) 0, set-get_or c (s * per_slot + 3) 0)

-- a slot of a pool has its four cells
pub slot_fits : {c : List ℕ} {s : ℕ} → Slot c s → Fits c s
slot_fits o = let a = o.some in let b = o.most in omega arith

pub header_fits : {c : List ℕ} → Pool c → Fits c 0
header_fits p = let w = p.whole in let s = p.some in omega arith
