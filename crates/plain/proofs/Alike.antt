-- Lists with the same pairs pass the same tests, and are of one length where no x stands twice. Nothing else is assumed.
use Prim.Native.Nat.{ℕ}
use mathlib.Core.Path.{◌≡◌, sym, ◌∙◌}
use mathlib.Core.Bool.{true, false}
use mathlib.Core.List.{List, [], ◌∷◌, map}
use lib.Dec.{eqb}
use lib.ListN.{length}
use borrow.Author.Tests.{eqb-false}
use Rattle.kinds.specs.declared.Pair.{Pair}
use Rattle.kinds.proofs.Tests.{on, clash}
use Rattle.plain.specs.Plain.{has_x, has, Alike, Differs, Apart}
use Rattle.plain.proofs.Counts.{those_count}
use Rattle.plain.proofs.Having.{has_x_true, true_has_x, has_true, true_has}
use Rattle.plain.proofs.Those.{those_all}

-- the tests over two lists with the same pairs
pub has_x_alike : (x : ℕ) (ps qs : List Pair) → Alike ps qs → has_x x ps ≡ has_x x qs
has_x_alike x ps qs h = on (has_x x ps)
    (λ e. let w = has_x_true x ps e in e ∙ sym (true_has_x w.pair x qs ((h w.pair).0 w.member) w.same))
    (λ e. on (has_x x qs)
    (λ f. let w = has_x_true x qs f in absurd (clash (true_has_x w.pair x ps ((h w.pair).1 w.member) w.same) e))
    (λ f. e ∙ sym f))

pub has_alike : (p : Pair) (ps qs : List Pair) → Alike ps qs → has p ps ≡ has p qs
has_alike p ps qs h = on (has p ps)
    (λ e. e ∙ sym (true_has p qs ((h p).0 (has_true p ps e))))
    (λ e. on (has p qs) (λ f. absurd (clash (true_has p ps ((h p).1 (has_true p qs f))) e)) (λ f. e ∙ sym f))

pub length_alike : (ps qs : List Pair) → Apart (map (λ p. p.x) ps) → Apart (map (λ p. p.x) qs) → Alike ps qs → length ps ≡ length qs
length_alike ps qs a b h = rw (those_all ps, those_all qs) at (those_count (λ q. true) ps qs a b h)

-- a list with one pair more
pub differs_of : (x : ℕ) (ps : List Pair) → has_x x ps ≡ false → Differs x (map (λ p. p.x) ps)
unfolding has_x
differs_of x [] h = tt
differs_of x (p ∷ ps) h = on (eqb p.x x)
    (λ e. absurd (clash (rw e) h))
    (λ e. let g : has_x x ps ≡ false = rw e at h in (λ d. eqb-false p.x x e (sym d), differs_of x ps g))
