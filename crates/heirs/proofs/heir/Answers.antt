-- Each way out is one law of Finding.antt: no son, the right one alone, the left one alone, or both and the better. It assumes that the cells
-- of the slot and of its sons are there.
use Rattle.heirs.proofs.Finding.{no_heir, only_right, only_left, both_sons}
use Rattle.heirs.proofs.heir.Goals as goal

pub returns-in-0-eq0 : goal.returns-in-0-eq0
returns-in-0-eq0 c =
    no_heir _ _ c.left-left.ensures c.right-right.ensures c.in-0-eq0.is-0 c.in-0-eq0.is-1

pub returns-in-0-default : goal.returns-in-0-default
returns-in-0-default c =
    only_right _ _ c.left-left.ensures c.right-right.ensures c.in-0-default.is-0 c.in-0-default.is-1.1 c.link_cell.ensures

pub returns-in_default-eq0 : goal.returns-in_default-eq0
returns-in_default-eq0 c =
    only_left _ _ c.left-left.ensures c.right-right.ensures c.in_default-eq0.is-0.1 c.in_default-eq0.is-1 c.link_cell-in_default-eq0.ensures

pub returns-in_default : goal.returns-in_default
returns-in_default c =
    both_sons _ _ c.left-left.ensures c.right-right.ensures c.in_default.is-0.1 c.in_default.is-1.1 c.pair-l.ensures c.pair-r.ensures c.beats.ensures c.link_cell-in_default.ensures
