-- The two ways out behind the comparison, whatever closer means.
use mathlib.Core.Path.{◌∙◌, sym}
use Rattle.visit.proofs.Closer.{best_closer, own_stays}
use Rattle.visit.proofs.closer_of.Goals as goal

pub returns-then-closer : goal.returns-then-closer
returns-then-closer g c =
    best_closer _ g.S.Side.closer _ _ _ c.requires.0 c.requires.1 c.if-not-hit.false c.if-best-eq0.false _ _ c.pair-p.ensures c.pair-b.ensures c.requires.2 (sym c.closer.ensures ∙ c.if-closer.true)

pub returns : goal.returns
returns g c =
    own_stays _ g.S.Side.closer _ _ _ c.requires.0 c.requires.1 c.if-not-hit.false c.if-best-eq0.false _ _ c.pair-p.ensures c.pair-b.ensures (sym c.closer.ensures ∙ c.if-closer.false)
