-- The tests on a plain list, and membership: each test is true exactly where a member is what it looks for. Nothing is assumed of the list.
use Prim.Native.Nat.{ℕ}
use mathlib.Core.Path.{◌≡◌, refl, sym, ap, ◌∙◌}
use mathlib.Core.Logic.{⊎_elim}
use mathlib.Core.Bool.{Bool, true, false, ◌&&◌, ◌||◌}
use mathlib.Core.List.{List, [], ◌∷◌, Memᴰ}
use lib.Dec.{eqb}
use borrow.Author.Tests.{eq-eqb, eqb-true}
use Rattle.kinds.specs.declared.Pair.{Pair}
use Rattle.plain.specs.Plain.{has_x, has}
use Rattle.kinds.proofs.Tests.{both, either, clash}
use Rattle.kinds.proofs.Order.{pair_ext}

or_true : (a b : Bool) → b ≡ true → (a || b) ≡ true
or_true true b e = refl
or_true false b e = e

-- a pair of the list with this x
pub record Holder (x : ℕ) (ps : List Pair) : Type 0 where
  pub pair : Pair
  pub member : Memᴰ pair ps
  pub same : pair.x ≡ x

pub has_x_true : (x : ℕ) (ps : List Pair) → has_x x ps ≡ true → Holder x ps
unfolding has_x
has_x_true x [] h = absurd (clash h refl)
has_x_true x (p ∷ ps) h =
    ⊎_elim (λ e. record { pair = p; member = Memᴰ.head refl; same = eqb-true p.x x e })
    (λ e. let r = has_x_true x ps e in record { pair = r.pair; member = Memᴰ.tail r.member; same = r.same })
    (either (eqb p.x x) (has_x x ps) h)

pub true_has_x : (q : Pair) (x : ℕ) (ps : List Pair) → Memᴰ q ps → q.x ≡ x → has_x x ps ≡ true
unfolding has_x
true_has_x q x [] m e = elim m [ ]
true_has_x q x (p ∷ ps) (Memᴰ.head h) e = rw (eq-eqb p.x x (ap (λ q. q.x) (sym h) ∙ e))
true_has_x q x (p ∷ ps) (Memᴰ.tail m) e = or_true (eqb p.x x) (has_x x ps) (true_has_x q x ps m e)

pub has_true : (q : Pair) (ps : List Pair) → has q ps ≡ true → Memᴰ q ps
unfolding has
has_true q [] h = absurd (clash h refl)
has_true q (p ∷ ps) h =
    ⊎_elim (λ e. let b = both (eqb p.x q.x) (eqb p.y q.y) e in
    Memᴰ.head (pair_ext (sym (eqb-true p.x q.x b.0)) (sym (eqb-true p.y q.y b.1))))
    (λ e. Memᴰ.tail (has_true q ps e)) (either (eqb p.x q.x && eqb p.y q.y) (has q ps) h)

pub true_has : (q : Pair) (ps : List Pair) → Memᴰ q ps → has q ps ≡ true
unfolding has
true_has q [] m = elim m [ ]
true_has q (p ∷ ps) (Memᴰ.head h) = rw (eq-eqb p.x q.x (ap (λ q. q.x) (sym h)), eq-eqb p.y q.y (ap (λ q. q.y) (sym h)))
true_has q (p ∷ ps) (Memᴰ.tail m) = or_true (eqb p.x q.x && eqb p.y q.y) (has q ps) (true_has q ps m)
