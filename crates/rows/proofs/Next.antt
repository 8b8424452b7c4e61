-- The loop over the stored pairs, a turn at a time: what the walk finds is the first of those still to be written. It assumes a sound pool whose
-- cells are of 32 bits.
use Rattle.std.specs.Prelude.{Option, Some, None}
use Prim.Native.Nat.{ℕ, zero, suc, ◌+◌, ◌*◌, ◌≤◌, ◌<◌}
use mathlib.Core.Path.{◌≡◌, refl, sym, ap, ◌∙◌}
use mathlib.Core.Logic.{⊎_elim}
use mathlib.Core.Bool.{true}
use mathlib.Core.List.Memᴰ
use mathlib.Core.List.{List, [], ◌∷◌, Memᴰ}
use native.Mathlib.Omega.{arith}
use mir.Syntax.{w32}
use mir.Val.{Fits}
use lib.Dec.{leb}
use lib.ListN.{length, get_or}
use borrow.Author.Tests.{ltb-false, le-leb, lt-leb, leb-true, leb-false}
use Rattle.kinds.specs.declared.Pair.{Pair}
use Rattle.kinds.specs.declared.Walked.{Walked}
use Rattle.pools.specs.Cells.{per_slot, is_free, root_of, stored_from, stored, tree_at}
use Rattle.kinds.specs.Placed.{placed}
use Rattle.plain.specs.Plain.{limits, matches, smaller, smallest_x_of, Closest}
use Rattle.pools.specs.Sound.{Sound}
use Rattle.stripes.specs.Stripe.{all_levels, root_stripe}
use Rattle.walks.specs.Walks.{smallest_x}
use Rattle.walks.proofs.AnyOrder.{smallest_x_any}
use Rattle.pools.proofs.Decided.{sound_well, sound_tree}
use Rattle.kinds.proofs.Placing.{length_placed}
use Rattle.plain.proofs.Scan.{smallest_x_of_found, smallest_x_of_nothing}
use Rattle.pools.proofs.Stored.{stored_mem, stored_apart}
use Rattle.kinds.proofs.Tests.{on, clash, both, and_true}
use Rattle.pages.specs.Book.{by_x, version_one, body, bytes_for}
use Rattle.pages.specs.Writing.{head_bytes}
use Rattle.pages.proofs.Ascending.{at_least, by_x_first, by_x_all, length_by_x}
use Rattle.pages.proofs.Bytes.{row_first}

-- the stored pairs with x0 ≤ x, by ascending x
unfoldable pub to_write : List ℕ → ℕ → List Pair
to_write c x0 = by_x (at_least x0 (stored c))

-- the largest number of 32 bits
abbrev pub last_x : ℕ
last_x = 4294967295

-- every cell is a number of 32 bits
abbrev pub Words : List ℕ → Type 0
Words c = (i : ℕ) → Fits w32 (get_or c i 0)

none_left : (x0 : ℕ) (ps : List Pair) → ((q : Pair) → Memᴰ q ps → q.x < x0) → at_least x0 ps ≡ []
none_left x0 [] h = refl
none_left x0 (p ∷ ps) h = rw (lt-leb x0 p.x (h p (Memᴰ.head refl))) (none_left x0 ps (λ q m. h q (Memᴰ.tail m)))

module _ (c : List ℕ) (S : Sound c) (x0 : ℕ) where
  -- law: the walk finds what a scan of the stored pairs finds
  pub walk_finds : {w : Walked} → w ≡ smallest_x (limits x0 last_x last_x) root_stripe (tree_at c all_levels (root_of c))
      → w.finding ≡ smallest_x_of (limits x0 last_x last_x) (stored c)
  walk_finds ew = ap (λ w. w.finding) ew ∙ rw (sound_tree c S)
      (smallest_x_any root_stripe S.tree (sound_well c S) (stored c) (λ p. ((stored_mem S p).1, (stored_mem S p).0)) (limits x0 last_x last_x))

module _ (c : List ℕ) (W : Words c) where
  from_words : (k s : ℕ) (q : Pair) → Memᴰ q (stored_from c k s) → (q.x ≤ last_x) × (q.y ≤ last_x)
  unfolding stored_from
  from_words zero s q m = elim m [ ]
  from_words (suc k) s q m =
      let R = from_words k (suc s) q in
      on (is_free c s) (λ t. R (rw t at m))
      (λ t. ⊎_elim (λ e. (rw e (omega (arith, W (s * per_slot))), rw e (omega (arith, W (s * per_slot + 1))))) R (Memᴰ.cases_cons (rw t at m)))

  none_above : (x0 : ℕ) → ((q : Pair) → Memᴰ q (stored c) → q.x < x0) → to_write c x0 ≡ []
  unfolding to_write by_x
  none_above x0 h = ap by_x (none_left x0 (stored c) h)

  module _ (S : Sound c) (x0 : ℕ) where
    matching : (q : Pair) → Memᴰ q (stored c) → x0 ≤ q.x → matches (limits x0 last_x last_x) q ≡ true
    matching q m h =
        let b = from_words _ 1 q m in
        and_true (and_true (le-leb x0 q.x h) (le-leb q.x last_x b.0)) (le-leb q.y last_x b.1)

    module _ {f : Option Pair} (ef : f ≡ smallest_x_of (limits x0 last_x last_x) (stored c)) where
      -- law: where it finds nothing, nothing is left to write
      pub nothing_left : f ≡ None → to_write c x0 ≡ []
      nothing_left e =
          let N = (smallest_x_of_nothing (stored c) (limits x0 last_x last_x)).0 (sym ef ∙ e) in
          none_above x0 (λ q m. on (leb x0 q.x) (λ t. absurd (clash (matching q m (leb-true x0 q.x t)) (N q m))) (λ t. leb-false x0 q.x t))

      module _ (p : Pair) (e : f ≡ Some p) where
        closest : Closest (matches (limits x0 last_x last_x)) smaller (stored c) p
        closest = (smallest_x_of_found (stored c) (stored_apart S) p (limits x0 last_x last_x)).0 (sym ef ∙ e)

        -- law: what it finds is the next to write
        pub next_pair : to_write c x0 ≡ p ∷ to_write c (p.x + 1)
        unfolding to_write
        next_pair =
            let C = closest in
            let f = both _ _ (both _ _ C.fits).0 in
            by_x_first (stored c) (stored_apart S) x0 p C.member (leb-true x0 p.x f.0) (λ q m h. ltb-false q.x p.x (C.ahead q m (matching q m h)))

        -- law: so one less is left
        pub one_less : length (to_write c (p.x + 1)) < length (to_write c x0)
        one_less = let l = ap length next_pair in omega arith

        -- law: it is the last where its x is
        pub next_last : p.x ≡ last_x → to_write c x0 ≡ p ∷ []
        next_last h = next_pair ∙ ap (λ l. p ∷ l) (none_above (p.x + 1) (λ q m. let b = from_words _ 1 q m in omega (arith, b.0)))

-- what stays so at each turn: there is room for what is still to be written, and it gives what was to be written
pub record Turn (c o0 o : List ℕ) (at x0 : ℕ) : Type 0 where
  pub long : length o ≡ length o0
  pub room : at + version_one.per_row * length (to_write c x0) ≤ length o
  pub same : placed o at (body version_one (to_write c x0)) ≡ placed o0 head_bytes (body version_one (by_x (stored c)))

module _ (c o : List ℕ) where
  -- law: before the first turn
  pub first_turn : bytes_for version_one (length (stored c)) ≤ length o → Turn c o o head_bytes 0
  unfolding to_write
  first_turn h =
      let e = by_x_all (stored c) in
      let k = length_by_x (stored c) in
      record { long = refl; room = rw e (omega arith); same = rw e }

module _ (c o0 o : List ℕ) (at x0 : ℕ) (T : Turn c o0 o at x0) where
  -- law: with nothing left, all is written
  pub all_written : to_write c x0 ≡ [] → o ≡ placed o0 head_bytes (body version_one (by_x (stored c)))
  unfolding placed
  all_written e = let s = T.same in rw e at s

  module _ (p : Pair) (ps : List Pair) (e : to_write c x0 ≡ p ∷ ps) where
    pub room_here : at + version_one.per_row ≤ length o
    room_here = let r = T.room in let l = ap length e in omega arith

    module _ (o1 : List ℕ) (e1 : o1 ≡ placed o at (version_one.row p)) where
      then_same : placed o1 (at + version_one.per_row) (body version_one ps) ≡ placed o0 head_bytes (body version_one (by_x (stored c)))
      then_same = row_first o o1 at p ps e1 ∙ (let s = T.same in rw e at s)

      -- law: after a pair the rest is left
      pub next_turn : (x1 : ℕ) → to_write c x1 ≡ ps → Turn c o0 o1 (at + version_one.per_row) x1
      next_turn x1 f =
          let r = T.room in
          let l = ap length e in
          let k = ap length f in
          let n : length o1 ≡ length o = rw e1 (length_placed o at (version_one.row p)) in
          record { long = n ∙ T.long; room = omega arith; same = rw f then_same }

      -- law: after the last pair all is written
      pub last_written : ps ≡ [] → o1 ≡ placed o0 head_bytes (body version_one (by_x (stored c)))
      unfolding placed
      last_written f = let s = then_same in rw f at s
