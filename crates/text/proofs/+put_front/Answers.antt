-- By the places that are left: the digits of n / 10 first, then the last. It assumes room for as many digits as there are places.
use native.Mathlib.Omega.{arith}
use Rattle.text.proofs.Printing.{no_place, no_digits, place_left, last_digit}
use borrow.Author.Rules.{rules}
use Rattle.text.proofs.+put_front.Goals as goal

pub returns-then-places-eq0 : goal.returns-then-places-eq0
returns-then-places-eq0 t c = no_place _ _ _ _ c.if-places-eq0.true

pub returns-then-n-eq0 : goal.returns-then-n-eq0
returns-then-n-eq0 t c = no_digits _ _ _ _ c.if-n-eq0.true

pub bounds-text-last : goal.bounds-text-last
bounds-text-last t c =
    place_left _ _ _ _ _ _ c.put_front-last.ensures (omega (arith, c.requires, c.if-places-eq0.false))

pub overflow_add-result : goal.overflow_add-result
overflow_add-result t c =
    let h = place_left _ _ _ _ _ _ c.put_front-last.ensures (omega (arith, c.requires, c.if-places-eq0.false)) in search rules

pub returns : goal.returns
returns t c =
    last_digit _ _ _ _ _ _ _ c.if-places-eq0.false c.if-n-eq0.false c.put_front-last.ensures c.glyph.ensures
