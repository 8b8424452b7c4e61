-- What a listing makes of its room, what it leaves for the next, and the cells that it writes. What is written assumes a count within the room.
use Prim.Native.Nat.{ℕ, zero, suc, ◌+◌, ◌*◌, ◌-◌, ◌≤◌, ◌<◌}
use mathlib.Core.Path.{◌≡◌, refl, sym, ap, ◌∙◌}
use mathlib.Core.Bool.{Bool, true, false, cond}
use mathlib.Core.List.{List, [], ◌∷◌, ◌++◌}
use native.Mathlib.Omega.{arith}
use lib.Dec.{ltb, leb}
use lib.ListN.{length, drop, length-append, length-set}
use lib.Seq.{sets, sets-eq}
use Rattle.kinds.specs.declared.Limits.{Limits}
use Rattle.kinds.specs.declared.Pair.{Pair}
use Rattle.plain.specs.Plain.{matches}
use Rattle.stripes.specs.Stripe.{Stripe, middle, left_part, right_part}
use Rattle.trees.specs.Tree.{Tree, none, fork}
use Rattle.walks.specs.Walks.{ListWalked, list_walked, and_then, list_own, listing, room_of, flat, written}
use Rattle.kinds.proofs.Tests.{on, clash}
use Rattle.jot.specs.Jotting.{put_one, put_all, Put}
use Rattle.listing.specs.Listing.{Lists}

-- a listing into so much room: it lists no more than that, all of it where a match found none, and each pair took a visit
pub record Fills (room : ℕ) (w : ListWalked) : Type 0 where
  pub few : length w.pairs ≤ room
  pub full : w.more ≡ true → length w.pairs ≡ room
  pub each : length w.pairs ≤ w.visits

fills_nothing : (room v : ℕ) → Fills room (list_walked [] false v)
fills_nothing room v = record { few = omega arith; full = λ e. absurd (clash e refl); each = omega arith }

pub fills_own : (b : Bool) (room : ℕ) (p : Pair) → Fills room (list_own b room p)
fills_own false room p = fills_nothing room 1
fills_own true zero p = record { few = omega arith; full = λ e. refl; each = omega arith }
fills_own true (suc room) p = record { few = omega arith; full = λ e. absurd (clash e refl); each = omega arith }

pub own_visits : (b : Bool) (room : ℕ) (p : Pair) → (list_own b room p).visits ≡ 1
own_visits false room p = refl
own_visits true zero p = refl
own_visits true (suc room) p = refl

fills_then : (room : ℕ) (a b : ListWalked) → Fills room a → Fills (room - length a.pairs) b → Fills room (and_then a b)
fills_then room a b ha hb = on a.more
    (λ t. rw t (record { few = ha.few; full = λ e. ha.full t; each = ha.each }))
    (λ f. rw f (record {
      few = simp length-append (omega (arith, ha.few, hb.few));
      full = λ e. simp length-append (omega (arith, ha.few, hb.full e));
      each = simp length-append (omega (arith, ha.each, hb.each));
    }))

pub fills_ask : (go : Bool) (room : ℕ) (a : ListWalked) → Fills room a → Fills room (cond go a (list_walked [] false 0))
fills_ask true room a h = h
fills_ask false room a h = fills_nothing room 0

pub fills : (q : Limits) (s : Stripe) (t : Tree Pair) (room : ℕ) → Fills room (listing q s t room)
unfolding listing
fills q s none room = fills_nothing room 0
fills q s (fork i p l r) room = on (ltb q.y1 p.y)
    (λ e. rw e (fills_nothing room 1))
    (λ e. rw e (fills_then room _ _ (fills_own (matches q p) room p) (fills_then _ _ _
    (fills_ask (ltb q.x0 (middle s)) _ _ (fills q (left_part s) l _)) (fills_ask (leb (middle s) q.x1) _ _ (fills q (right_part s) r _)))))

-- writing changes no length
pub length_put : (o : List ℕ) (n : ℕ) (ps : List Pair) → length (put_all o n ps) ≡ length o
unfolding put_all
length_put o n [] = refl
length_put o n (p ∷ ps) = length_put (put_one o n p) (suc n) ps ∙ simp length-set

pub put_append : (o : List ℕ) (n : ℕ) (ps qs : List Pair) → put_all o n (ps ++ qs) ≡ put_all (put_all o n ps) (n + length ps) qs
unfolding put_all
put_append o n [] qs = ap (λ k. put_all o k qs) (omega arith)
put_append o n (p ∷ ps) qs =
    let e : suc n + length ps ≡ n + suc (length ps) = omega arith in
    put_append (put_one o n p) (suc n) ps qs ∙ ap (λ k. put_all (put_all (put_one o n p) (suc n) ps) k qs) e

length_flat : (ps : List Pair) → length (flat ps) ≡ 2 * length ps
length_flat [] = refl
length_flat (p ∷ ps) = let h = length_flat ps in omega arith

put_sets : (o : List ℕ) (n : ℕ) (ps : List Pair) → put_all o n ps ≡ sets o (n * 2) (flat ps)
unfolding put_all
put_sets o n [] = refl
put_sets o n (p ∷ ps) =
    let e : n * 2 + 1 ≡ suc (n * 2) = omega arith in
    let d : suc n * 2 ≡ suc (suc (n * 2)) = omega arith in
    put_sets (put_one o n p) (suc n) ps ∙ rw (d, e)

-- from the start, where there is room, this is what the rule calls written
pub put_written : (o : List ℕ) (ps : List Pair) → length ps ≤ room_of o → put_all o 0 ps ≡ written ps o
put_written o ps h =
    let z = length_flat ps in
    let e : 0 + length (flat ps) ≡ length (flat ps) = omega arith in
    put_sets o 0 ps ∙ sets-eq (flat ps) o 0 (omega arith) ∙ ap (λ k. flat ps ++ drop k o) e

-- the room stays
module _ (o : List ℕ) (n : ℕ) (w : ListWalked) (o' : List ℕ) (n' : ℕ) (P : Put o n w o' n') where
  pub same_room : room_of o' ≡ room_of o
  same_room = rw P.cells (let z = length_put o n w.pairs in omega arith)

  pub still_fits : (room : ℕ) → room ≡ room_of o → n' ≤ room → n' ≤ room_of o'
  still_fits room e b = let z = same_room in omega arith

-- after a listing into the room from place n on
module _ (o : List ℕ) (n : ℕ) (w : ListWalked) (o' : List ℕ) (n' : ℕ) (h : n ≤ room_of o) (f : Fills (room_of o - n) w) (P : Put o n w o' n') where
  pub stopped : room_of o < n' → w.more ≡ true
  stopped b = on w.more (λ t. t) (λ e.
      let z : n' ≡ n + length w.pairs + 0 = rw e at P.count in
      absurd (omega (arith, f.few)))

  module _ (b : n' ≤ room_of o) where
    pub goes_on : w.more ≡ false
    goes_on = on w.more
        (λ t.
        let z : n' ≡ n + length w.pairs + 1 = rw t at P.count in
        absurd (omega (arith, f.full t)))
        (λ e. e)

    pub next_place : n' ≡ n + length w.pairs
    next_place = let z : n' ≡ n + length w.pairs + 0 = rw goes_on at P.count in omega arith

    pub left_over : room_of o' - n' ≡ room_of o - n - length w.pairs
    left_over = let z = next_place in let r = same_room o n w o' n' P in omega arith

-- one after the other
module _ (o : List ℕ) (n v : ℕ) (a b : ListWalked) (o' : List ℕ) (n' v' : ℕ) (A : Lists o n v a o' n' v') where
  pub lists_stopped : a.more ≡ true → Lists o n v (and_then a b) o' n' v'
  lists_stopped t = rw t (record {
    put = record { count = let z : n' ≡ n + length a.pairs + 1 = rw t at A.put.count in z; cells = A.put.cells };
    visits = A.visits;
  })

  pub lists_then : a.more ≡ false → (o'' : List ℕ) (n'' v'' : ℕ) → Lists o' n' v' b o'' n'' v'' → Lists o n v (and_then a b) o'' n'' v''
  lists_then e o'' n'' v'' B =
      let z : n' ≡ n + length a.pairs + 0 = rw e at A.put.count in
      let y : n' ≡ n + length a.pairs = omega arith in
      rw e (record {
        put = record {
          count = B.put.count ∙ simp length-append (omega arith);
          cells = B.put.cells ∙ rw (A.put.cells, y) (sym (put_append o n a.pairs b.pairs));
        };
        visits = let s = A.visits in let t = B.visits in omega arith;
      })

-- nothing listed, at k visits
pub lists_nothing : (o : List ℕ) (n v k : ℕ) → Lists o n v (list_walked [] false k) o n (v + k)
unfolding put_all
lists_nothing o n v k = record { put = record { count = omega arith; cells = refl }; visits = refl }
