-- A son that has sons has its cells, and a level.
use native.Mathlib.Omega.{arith}
use Rattle.tree.proofs.Counting.{son_fork, fork_fits}
use Rattle.tree.proofs.+check_slot_check_son.Goals as goal

pub check_son-check_slot-requires : goal.check_son-check_slot-requires
check_son-check_slot-requires t c =
    let b = son_fork _ _ _ _ _ c.look_at_son.ensures c.in-Fork.is in
    let d = b.deep in
    (omega arith, (fork_fits _ _ _ _ _ b, omega (arith, d), omega arith))
