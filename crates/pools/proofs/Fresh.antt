-- A fresh pool is sound and stores nothing. Each law goes along the slots, with the cells before a slot split off. That it is sound assumes 1 to
-- 4,095 slots.
use Prim.Native.Nat.{ℕ, zero, suc, ◌+◌, ◌*◌, ◌≤◌}
use mathlib.Core.Path.{◌≡◌, refl, sym, ap, ◌∙◌}
use mathlib.Core.List.{List, [], ◌∷◌, ◌++◌, append_assoc}
use native.Mathlib.Omega.{arith}
use lib.ListN.{length, get_or, set, length-append}
use lib.Seq.{get_or-append-add}
use Rattle.trees.specs.Tree.{none}
use Rattle.pools.specs.Cells.{most_slots, per_slot, slots_of, right_at, free_mark, stored_from, stored, free_slots, fresh, put_free, put_header}
use Rattle.pools.specs.Sound.{nowhere, Free, Chain, ends, next, Sound}
use Rattle.pools.proofs.Decided.{true_free}

-- reading and writing past a front
get_d_past : (a b : List ℕ) (n j : ℕ) → length a ≡ n → get_or (a ++ b) (n + j) 0 ≡ get_or b j 0
get_d_past a b n j e = rw (← e) (get_or-append-add a b j 0)

get_or_seam : (a b : List ℕ) (n : ℕ) → length a ≡ n → get_or (a ++ b) n 0 ≡ get_or b 0 0
get_or_seam a b n e = let z : n ≡ n + 0 = omega arith in rw z (get_d_past a b n 0 e)

set_append_add : (a b : List ℕ) (j v : ℕ) → set (a ++ b) (length a + j) v ≡ a ++ set b j v
set_append_add [] b j v = let z : 0 + j ≡ j = omega arith in rw z
set_append_add (x ∷ a) b j v = let z : suc (length a) + j ≡ suc (length a + j) = omega arith in rw z (ap (λ l. x ∷ l) (set_append_add a b j v))

set_past : (a b : List ℕ) (n j v : ℕ) → length a ≡ n → set (a ++ b) (n + j) v ≡ a ++ set b j v
set_past a b n j v e = rw (← e) (set_append_add a b j v)

set_seam : (a b : List ℕ) (n v : ℕ) → length a ≡ n → set (a ++ b) n v ≡ a ++ set b 0 v
set_seam a b n v e = let z : n ≡ n + 0 = omega arith in rw z (set_past a b n 0 v e)

-- a slot in the free form, behind a front
abbrev pub four : ℕ → List ℕ
four v = 0 ∷ 0 ∷ free_mark ∷ v ∷ []

module _ (c a b : List ℕ) (s v : ℕ) (e : c ≡ a ++ (0 ∷ 0 ∷ free_mark ∷ v ∷ b)) (n : length a ≡ s * per_slot) where
  free_here : Free c s
  free_here = rw e (record {
    x = get_or_seam a (0 ∷ 0 ∷ free_mark ∷ v ∷ b) (s * per_slot) n;
    y = get_d_past a (0 ∷ 0 ∷ free_mark ∷ v ∷ b) (s * per_slot) 1 n;
    left = get_d_past a (0 ∷ 0 ∷ free_mark ∷ v ∷ b) (s * per_slot) 2 n;
  })

  next_here : right_at c s ≡ v
  next_here = rw e (get_d_past a (0 ∷ 0 ∷ free_mark ∷ v ∷ b) (s * per_slot) 3 n)

  front : c ≡ (a ++ four v) ++ b
  front = e ∙ sym (append_assoc a (four v) b)

  front_length : length (a ++ four v) ≡ suc s * per_slot
  front_length = simp length-append (omega arith)

  skip : (k : ℕ) → stored_from c (suc k) s ≡ stored_from c k (suc s)
  unfolding stored_from
  skip k = rw (true_free c s free_here)

-- so many numbers from s on
abbrev pub up_from : ℕ → ℕ → List ℕ
up_from s zero = []
up_from s (suc k) = s ∷ up_from (suc s) k

length_up_from : (s k : ℕ) → length (up_from s k) ≡ k
length_up_from s zero = refl
length_up_from s (suc k) = ap suc (length_up_from (suc s) k)

module _ (c : List ℕ) where
  chain_free : (k s : ℕ) (a : List ℕ) → c ≡ a ++ free_slots s (suc k) → length a ≡ s * per_slot → 1 ≤ s → s + k ≤ slots_of c → Chain c s (up_from s (suc k))
  unfolding free_slots
  chain_free zero s a e n o m =
      next {rest = []} (record { some = o; most = omega arith }) (free_here c a [] s 0 e n) (rw (next_here c a [] s 0 e n) ends)
  chain_free (suc k) s a e n o m =
      let b = free_slots (suc s) (suc k) in
      next {rest = up_from (suc s) (suc k)} (record { some = o; most = omega arith }) (free_here c a b s (suc s) e n)
      (rw (next_here c a b s (suc s) e n) (chain_free k (suc s) (a ++ four (suc s)) (front c a b s (suc s) e n) (front_length c a b s (suc s) e n) (omega arith) (omega arith)))

  none_stored : (k s : ℕ) (a : List ℕ) → c ≡ a ++ free_slots s k → length a ≡ s * per_slot → stored_from c k s ≡ []
  unfolding free_slots stored_from
  none_stored zero s a e n = refl
  none_stored (suc zero) s a e n = skip c a [] s 0 e n zero
  none_stored (suc (suc k)) s a e n =
      let b = free_slots (suc s) (suc k) in
      skip c a b s (suc s) e n (suc k) ∙ none_stored (suc k) (suc s) (a ++ four (suc s)) (front c a b s (suc s) e n) (front_length c a b s (suc s) e n)

length_free : (s k : ℕ) → length (free_slots s k) ≡ k * per_slot
unfolding free_slots
length_free s zero = refl
length_free s (suc zero) = refl
length_free s (suc (suc k)) = let h = length_free (suc s) (suc k) in omega arith

abbrev pub head : List ℕ
head = 1 ∷ 0 ∷ 1 ∷ 0 ∷ []

pub fresh_length : (n : ℕ) → length (fresh n) ≡ per_slot * (n + 1)
unfolding fresh
fresh_length n = let h = length_free 1 n in omega arith

pub fresh_slots : (n : ℕ) → slots_of (fresh n) ≡ n
fresh_slots n = let h = fresh_length n in omega arith

-- law: set up leaves a sound pool
pub fresh_sound : (n : ℕ) → 1 ≤ n → n ≤ most_slots → Sound (fresh n)
unfolding fresh
fresh_sound zero o m = absurd (omega arith)
fresh_sound (suc k) o m =
    let c = fresh (suc k) in
    let z = fresh_slots (suc k) in
    let w = fresh_length (suc k) in
    let u = length_up_from 1 (suc k) in
    record {
      pool = record { whole = omega arith; some = omega arith; most = omega arith };
      mark = refl;
      tree = none;
      links = nowhere;
      stripes = tt;
      order = tt;
      apart = tt;
      levels = tt;
      count = refl;
      free = up_from 1 (suc k);
      chain = chain_free c k 1 head refl refl (omega arith) (omega arith);
      rest = omega arith;
    }

-- law: with nothing stored
pub fresh_stored : (n : ℕ) → stored (fresh n) ≡ []
unfolding fresh
fresh_stored n = rw (fresh_slots n) (none_stored (fresh n) n 1 head refl refl)

-- so many slots from s on put into the free form one after another, each pointing to the next, the last to 0
unfoldable pub chained : List ℕ → ℕ → ℕ → List ℕ
chained c s zero = c
chained c s (suc zero) = put_free c s 0
chained c s (suc (suc k)) = chained (put_free c s (suc s)) (suc s) (suc k)

-- a slot's cells behind a front, put into the free form
put_past : (a b : List ℕ) (s v : ℕ) → length a ≡ s * per_slot → per_slot ≤ length b
    → put_free (a ++ b) s v ≡ a ++ set (set (set (set b 0 0) 1 0) 2 free_mark) 3 v
put_past a b s v n h =
    rw (
      set_seam a b (s * per_slot) 0 n,
      set_past a (set b 0 0) (s * per_slot) 1 0 n,
      set_past a (set (set b 0 0) 1 0) (s * per_slot) 2 free_mark n,
      set_past a (set (set (set b 0 0) 1 0) 2 free_mark) (s * per_slot) 3 v n,
    )

put_four : (a b : List ℕ) (s v b0 b1 b2 b3 : ℕ) → length a ≡ s * per_slot → put_free (a ++ (b0 ∷ b1 ∷ b2 ∷ b3 ∷ b)) s v ≡ (a ++ four v) ++ b
put_four a b s v b0 b1 b2 b3 n = put_past a (b0 ∷ b1 ∷ b2 ∷ b3 ∷ b) s v n (omega arith) ∙ sym (append_assoc a (four v) b)

chained_front : (k s : ℕ) (a b : List ℕ) → length a ≡ s * per_slot → length b ≡ k * per_slot → chained (a ++ b) s k ≡ a ++ free_slots s k
unfolding chained free_slots
chained_front zero s a [] n m = refl
chained_front zero s a (b0 ∷ b) n m = absurd (omega arith)
chained_front (suc k) s a [] n m = absurd (omega arith)
chained_front (suc k) s a (b0 ∷ []) n m = absurd (omega arith)
chained_front (suc k) s a (b0 ∷ b1 ∷ []) n m = absurd (omega arith)
chained_front (suc k) s a (b0 ∷ b1 ∷ b2 ∷ []) n m = absurd (omega arith)
chained_front (suc zero) s a (b0 ∷ b1 ∷ b2 ∷ b3 ∷ []) n m = put_past a (b0 ∷ b1 ∷ b2 ∷ b3 ∷ []) s 0 n (omega arith)
chained_front (suc zero) s a (b0 ∷ b1 ∷ b2 ∷ b3 ∷ b4 ∷ b) n m = absurd (omega arith)
chained_front (suc (suc k)) s a (b0 ∷ b1 ∷ b2 ∷ b3 ∷ b) n m =
    let e : length (a ++ four (suc s)) ≡ suc s * per_slot = simp length-append (omega arith) in
    rw (put_four a b s (suc s) b0 b1 b2 b3 n) (chained_front (suc k) (suc s) (a ++ four (suc s)) b e (omega arith)
    ∙ append_assoc a (four (suc s)) (free_slots (suc s) (suc k)))

-- law: a header and a chain through all slots are a fresh pool
pub chained_fresh : (c : List ℕ) (n : ℕ) → length c ≡ per_slot * (n + 1) → chained (put_header c 0 1 0) 1 n ≡ fresh n
unfolding fresh
chained_fresh [] n m = absurd (omega arith)
chained_fresh (c0 ∷ []) n m = absurd (omega arith)
chained_fresh (c0 ∷ c1 ∷ []) n m = absurd (omega arith)
chained_fresh (c0 ∷ c1 ∷ c2 ∷ []) n m = absurd (omega arith)
chained_fresh (c0 ∷ c1 ∷ c2 ∷ c3 ∷ b) n m = chained_front n 1 head b refl (omega arith)
