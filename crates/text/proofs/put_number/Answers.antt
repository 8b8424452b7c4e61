-- The digits in front, the last digit, the byte behind. It assumes room for 11 bytes.
use native.Mathlib.Omega.{arith}
use lib.ListN.{length-set}
use Rattle.text.proofs.Printing.{two_left, number_put}
use borrow.Author.Rules.{rules}
use Rattle.text.proofs.put_number.Goals as goal

pub bounds-text-last : goal.bounds-text-last
bounds-text-last c =
    let h = two_left _ _ _ _ _ _ c.put_front-last.ensures (omega (arith, c.requires)) in omega (arith, h)

pub overflow_add-text : goal.overflow_add-text
overflow_add-text c =
    let h = two_left _ _ _ _ _ _ c.put_front-last.ensures (omega (arith, c.requires)) in search rules

pub bounds-text-last-2 : goal.bounds-text-last-2
bounds-text-last-2 c =
    let h = two_left _ _ _ _ _ _ c.put_front-last.ensures (omega (arith, c.requires)) in simp length-set (omega (arith, h))

pub overflow_add-result : goal.overflow_add-result
overflow_add-result c =
    let h = two_left _ _ _ _ _ _ c.put_front-last.ensures (omega (arith, c.requires)) in search rules

pub returns : goal.returns
returns c =
    number_put _ _ _ _ _ _ _ c.put_front-last.ensures c.glyph.ensures
