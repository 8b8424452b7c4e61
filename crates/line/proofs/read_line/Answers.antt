-- The first two bytes decide what the first word is. Nothing is assumed.
use mathlib.Core.Path.{◌∙◌}
use native.Mathlib.Omega.{arith}
use Rattle.line.proofs.Words.{the_rest}
use Rattle.line.proofs.Lines.{too_long, too_few, no_space, letter_first}
use Rattle.line.proofs.read_line.Goals as goal

pub returns-then-line-gt-LONGEST : goal.returns-then-line-gt-LONGEST
returns-then-line-gt-LONGEST c = too_long _ c.if-line-gt-LONGEST.true

pub returns-in_default : goal.returns-in_default
returns-in_default c = too_few _ c.if-line-gt-LONGEST.false c.in_default.len_below

pub returns-in_default-2 : goal.returns-in_default-2
returns-in_default-2 c =
    no_space _ c.if-line-gt-LONGEST.false c.in_default.len_at_least (λ q. omega (arith, q))

pub returns : goal.returns
returns c =
    c.unwrap_or.ensures ∙ c.asked_with.ensures ∙ rw (the_rest 2 c.args.line.now) (letter_first _ c.if-line-gt-LONGEST.false c.in-32.len_at_least (omega arith))
