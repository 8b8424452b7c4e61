-- The verdict by the two tests, and the answer by the verdict. Nothing is assumed.
use Rattle.sound.proofs.Judged.{length_wrong, length_right, check_answers}
use Rattle.sound.proofs.check.Goals as goal

pub returns-then-is_pool-clause-answer : goal.returns-then-is_pool-clause-answer
returns-then-is_pool-clause-answer c =
    check_answers _ _ (length_right _ c.is_pool.ensures c.if-is_pool.true c.soundness.ensures)

pub returns-clause-answer : goal.returns-clause-answer
returns-clause-answer c = check_answers _ _ (length_wrong _ c.is_pool.ensures c.if-is_pool.false)
