-- Word by word: the numbers so far and those that are left are those of the text. Nothing is assumed.
use Rattle.line.proofs.Words.{too_few_words, all_words, too_many_words, not_a_number, one_more}
use mathlib.Core.Path.{◌∙◌}
use Rattle.line.proofs.numbers_in.Goals as goal

pub returns-in_err-rest : goal.returns-in_err-rest
returns-in_err-rest g c = c.from_residual.ensures ∙ too_few_words _ _ _ _ _ c.loop-number.invariant c.in_err-rest.was c.loop-number-test.true

pub returns-in_err-number : goal.returns-in_err-number
returns-in_err-number g c =
    c.from_residual-in_err-number.ensures ∙ not_a_number _ _ _ _ _ c.loop-number.invariant _ c.in_ok-rest.was _ _ c.first_word.ensures c.in_err-number.ensures

pub loop-number-preserved : goal.loop-number-preserved
loop-number-preserved g c = one_more _ _ _ _ _ c.loop-number.invariant _ c.in_ok-rest.was _ _ c.first_word.ensures _ c.in_ok-number.ensures c.loop-number-test.true

pub returns-in-Some : goal.returns-in-Some
returns-in-Some g c = too_many_words _ _ _ _ _ c.loop-number.invariant _ c.in-Some.is c.loop-number-test.false

pub returns-in-None : goal.returns-in-None
returns-in-None g c = all_words _ _ _ _ _ c.loop-number.invariant c.in-None.is c.loop-number-test.false
