-- Too few bytes, a refusal before the call, or what is done and printed. Nothing is assumed.
use mathlib.Core.Path.{sym, ◌∙◌}
use native.Mathlib.Omega.{arith}
use borrow.Author.Tests.{ltb-false}
use Rattle.lines.proofs.Answering.{short_output, line_done, refused_prints, refusal_sound}
use Rattle.script.proofs.answer_line.Goals as goal

pub returns-then-too_short : goal.returns-then-too_short
returns-then-too_short c = short_output _ _ _ _ (sym c.too_short.ensures ∙ c.if-too_short.true)

pub returns-in-Err : goal.returns-in-Err
returns-in-Err c =
    let f = sym c.too_short.ensures ∙ c.if-too_short.false in
    line_done _ _ _ _ _ _ _ _ f (rw c.read_line-asked.ensures at (refused_prints _ _ _ _ (ltb-false _ _ f) c.refusal.ensures c.in-Err.is c.put_refused.ensures))

pub perform-requires : goal.perform-requires
perform-requires c =
    (refusal_sound _ _ c.refusal.ensures c.in_default.is, ltb-false _ _ (sym c.too_short.ensures ∙ c.if-too_short.false))

pub returns : goal.returns
returns c =
    line_done _ _ _ _ _ _ _ _ (sym c.too_short.ensures ∙ c.if-too_short.false) (rw c.read_line-asked.ensures at c.perform.ensures.0)
