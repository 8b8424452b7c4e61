-- Walks made one after the other: the second counts only where the first gave nothing, and a slot's own pair only against what is below it.
-- What a slot's own pair makes of it assumes that the closer of two pairs ranks them.
use Rattle.std.specs.Prelude.{Option, Some, None}
use Prim.Native.Nat.{ℕ, ◌+◌, ◌≤◌, ◌<◌}
use mathlib.Core.Path.{◌≡◌, refl, sym, ap, ◌∙◌}
use mathlib.Core.Bool.{Bool, true, false, cond}
use native.Mathlib.Omega.{arith}
use borrow.Author.Tests.{lt-ltb, le-ltb, le-leb}
use Rattle.kinds.specs.declared.Limits.{Limits}
use Rattle.kinds.specs.declared.Pair.{Pair}
use Rattle.kinds.specs.declared.Walked.{Walked}
use Rattle.plain.specs.Plain.{in_range, matches, own, closest}
use Rattle.walks.specs.Walks.{seen, x_rule}
use Rattle.plain.proofs.Closest.{Ranks, closest_nothing, closest_assoc}
use Rattle.kinds.proofs.Tests.{on}
use Rattle.nearest.specs.Waiting.{or_next, since}

same : {f g : Option Pair} {v w : ℕ} → f ≡ g → v ≡ w → seen f v ≡ seen g w
same e z = λ i. record { finding = e i; visits = z i }

-- law: no walk at all before one
pub or_none : (b : Walked) → or_next (seen None 0) b ≡ b
or_none b = same refl (omega arith)

-- law: no walk at all behind one
pub or_end : (a : Walked) → or_next a (seen None 0) ≡ a
or_end a = end a.finding a.visits
  where
    end : (f : Option Pair) (v : ℕ) → or_next (seen f v) (seen None 0) ≡ seen f v
    end None v = same refl (omega arith)
    end (Some p) v = same refl (omega arith)

-- law: of three in turn, the first two may be taken together
pub or_assoc : (a b d : Walked) → or_next (or_next a b) d ≡ or_next a (or_next b d)
or_assoc a b d = go a.finding b.finding a.visits b.visits
  where
    go : (f g : Option Pair) (v w : ℕ) → or_next (or_next (seen f v) (seen g w)) d ≡ or_next (seen f v) (or_next (seen g w) d)
    go None g v w = same refl (omega arith)
    go (Some p) g v w = same refl (omega arith)

-- law: at its end a walk is what was found so far
pub since_end : (closer : Pair → Pair → Bool) (f : Option Pair) (v : ℕ) → since closer f v (seen None 0) ≡ seen f v
since_end closer f v = same refl (omega arith)

-- law: at its start it is all that is asked
pub since_start : (closer : Pair → Pair → Bool) (w : Walked) → since closer None 0 w ≡ w
since_start closer w = same (closest_nothing closer w.finding) (omega arith)

module _ (q : Limits) (closer : Pair → Pair → Bool) (p : Pair) (a b rest : Walked) (f : Option Pair) (v : ℕ) where
  -- law: a slot whose y is too high gives nothing, at one visit
  pub too_high : q.y1 < p.y → since closer f v (or_next (x_rule closer q p a b) rest) ≡ since closer f (v + 1) rest
  too_high h = rw (lt-ltb q.y1 p.y h) (same refl (omega arith))

  module _ (R : Ranks closer) (h : p.y ≤ q.y1) where
    gives : (o : Option Pair) → own (matches q) p ≡ o → x_rule closer q p a b ≡ seen (closest closer (or_next a b).finding o) ((or_next a b).visits + 1)
    gives o e = rw (le-ltb q.y1 p.y h, e)

    -- a slot that is no hit: what its sons give in turn, at one visit more
    missed : own (matches q) p ≡ None → since closer f v (or_next (x_rule closer q p a b) rest) ≡ since closer f (v + 1) (or_next a (or_next b rest))
    missed e =
        ap (λ w. since closer f v (or_next w rest)) (gives None e)
        ∙ (go (or_next a b).finding (or_next a b).visits ∙ ap (λ w. since closer f (v + 1) w) (or_assoc a b rest))
      where
        go : (g : Option Pair) (n : ℕ)
            → since closer f v (or_next (seen (closest closer g None) (n + 1)) rest) ≡ since closer f (v + 1) (or_next (seen g n) rest)
        go None n = same refl (omega arith)
        go (Some r) n = same refl (omega arith)

    -- behind a hit nothing is walked
    ends_there : (g : Option Pair) (n : ℕ) → or_next (seen (closest closer g (Some p)) n) rest ≡ seen (closest closer g (Some p)) n
    ends_there None n = same refl (omega arith)
    ends_there (Some r) n = on (closer p r) (λ t. rw t (same refl (omega arith))) (λ t. rw t (same refl (omega arith)))

    taken : own (matches q) p ≡ Some p
        → since closer f v (or_next (x_rule closer q p a b) rest) ≡ since closer (closest closer (Some p) f) (v + 1) (or_next a b)
    taken e =
        ap (λ w. since closer f v (or_next w rest)) (gives (Some p) e)
        ∙ (ap (λ w. since closer f v w) (ends_there (or_next a b).finding ((or_next a b).visits + 1))
        ∙ same (closest_assoc (matches q) R (or_next a b).finding (Some p) f) (omega arith))

    -- law: a slot's own pair joins what was found so far, and its sons are next; behind a hit nothing waits any more
    pub visited : (hit : Bool) → hit ≡ in_range q.x0 q.x1 p → since closer f v (or_next (x_rule closer q p a b) rest)
        ≡ since closer (closest closer (cond hit (Some p) None) f) (v + 1) (or_next a (or_next b (cond hit (seen None 0) rest)))
    visited true e = taken (rw (← e, le-leb p.y q.y1 h)) ∙ ap (λ w. since closer (closest closer (Some p) f) (v + 1) (or_next a w)) (sym (or_end b))
    visited false e = missed (rw (← e))
