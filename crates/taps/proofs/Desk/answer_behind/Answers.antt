-- The pool is sound before and after the line, and what is told lies within the rest of the output. Nothing is assumed.
use native.Mathlib.Omega.{arith}
use borrow.Author.Rules.{rules}
use Rattle.lines.proofs.Answering.{told_within}
use Rattle.taps.proofs.Parts.{first_within}
use Rattle.pools.proofs.Held.{sound_held}
use Rattle.taps.proofs.Desk.answer_behind.Goals as goal

pub answer_checked-requires : goal.answer_checked-requires
answer_checked-requires c = sound_held c.args.self.now.sound

pub invariant_of-self : goal.invariant_of-self
invariant_of-self c = record { sound = ∣ c.answer_checked.ensures.1 ∣₁; within = c.args.self.now.within }

pub overflow_add-self : goal.overflow_add-self
overflow_add-self c =
    let h = first_within _ _ _ (told_within _ _ _ _ _ _ _ _ _ c.answer_checked.ensures.0 c.in_ok-told.was c.answer_checked.auto.output) in
    let k = c.args.self.now.within in
    search rules

pub invariant_of-self-2 : goal.invariant_of-self-2
invariant_of-self-2 c =
    let h = first_within _ _ _ (told_within _ _ _ _ _ _ _ _ _ c.answer_checked.ensures.0 c.in_ok-told.was c.answer_checked.auto.output) in
    let k = c.args.self.now.within in
    record { sound = ∣ c.answer_checked.ensures.1 ∣₁; within = omega (arith, h, k) }
