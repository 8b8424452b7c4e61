-- Too few bytes, or what is done and printed. It assumes a sound pool.
use mathlib.Core.Path.{sym, ◌∙◌}
use Rattle.lines.proofs.Answering.{short_output, line_done}
use Rattle.lines.proofs.answer_checked.Goals as goal

pub returns-then-too_short : goal.returns-then-too_short
returns-then-too_short c =
    (short_output _ _ _ _ (sym c.too_short.ensures ∙ c.if-too_short.true), c.requires)

pub returns : goal.returns
returns c =
    (line_done _ _ _ _ _ _ _ _ (sym c.too_short.ensures ∙ c.if-too_short.false) (rw c.read_line-asked.ensures at c.perform.ensures.0), c.perform.ensures.1)
