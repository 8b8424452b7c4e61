-- The two tests come before the digits. Nothing is assumed.
use mathlib.Core.Path.{◌∙◌}
use Rattle.decimal.proofs.Digits.{empty_word, zero_led, not_zero_led}
use Rattle.decimal.proofs.number_in.Goals.{then-is_empty-via-then-is_empty, then-is_empty-via-else-is_empty+then-leading_zero}
use Rattle.decimal.proofs.number_in.Goals as goal

pub returns-then-is_empty : goal.returns-then-is_empty
returns-then-is_empty c = elim c.then-is_empty.branch [
  | then-is_empty-via-then-is_empty w ↦ empty_word _ w.if-is_empty.ensures
  | then-is_empty-via-else-is_empty+then-leading_zero w ↦ zero_led _ w.if-leading_zero.ensures
]

pub returns : goal.returns
returns c = c.digits_in.ensures ∙ not_zero_led _ c.if-is_empty.ensures c.if-leading_zero.ensures
