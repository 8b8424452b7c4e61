-- A letter at a time: with as many numbers as it takes it asks with them, and else nothing. Nothing is assumed.
use mathlib.Core.Path.{refl, sym}
use Rattle.line.proofs.Lines.{asks_one, asks_two, asks_three, asks_nothing}
use Rattle.line.proofs.asked_with.Goals as goal

pub returns-in_err-start-in-111 : goal.returns-in_err-start-in-111
returns-in_err-start-in-111 c = rw (c.from_residual.ensures, c.in-111.is) (sym (asks_nothing 111 3 _ c.in_err-start-in-111.ensures refl))

pub returns-in_ok-start-in-111 : goal.returns-in_ok-start-in-111
returns-in_ok-start-in-111 c = rw c.in-111.is (sym (asks_three 111 _ _ c.in_ok-start-in-111.ensures))

pub returns-in_err-start-in-99 : goal.returns-in_err-start-in-99
returns-in_err-start-in-99 c = rw (c.from_residual-in_err-start-in-99.ensures, c.in-99.is) (sym (asks_nothing 99 3 _ c.in_err-start-in-99.ensures refl))

pub returns-in_ok-start-in-99 : goal.returns-in_ok-start-in-99
returns-in_ok-start-in-99 c = rw c.in-99.is (sym (asks_three 99 _ _ c.in_ok-start-in-99.ensures))

pub returns-in_err-u-in-102 : goal.returns-in_err-u-in-102
returns-in_err-u-in-102 c = rw (c.from_residual-in_err-u-in-102.ensures, c.in-102.is) (sym (asks_nothing 102 1 _ c.in_err-u-in-102.ensures refl))

pub returns-in_ok-u-in-102 : goal.returns-in_ok-u-in-102
returns-in_ok-u-in-102 c = rw c.in-102.is (sym (asks_one 102 _ _ c.in_ok-u-in-102.ensures))

pub returns-in_err-u-in-108 : goal.returns-in_err-u-in-108
returns-in_err-u-in-108 c = rw (c.from_residual-in_err-u-in-108.ensures, c.in-108.is) (sym (asks_nothing 108 2 _ c.in_err-u-in-108.ensures refl))

pub returns-in_ok-u-in-108 : goal.returns-in_ok-u-in-108
returns-in_ok-u-in-108 c = rw c.in-108.is (sym (asks_two 108 _ _ c.in_ok-u-in-108.ensures))

pub returns-in_err-u-in-97 : goal.returns-in_err-u-in-97
returns-in_err-u-in-97 c = rw (c.from_residual-in_err-u-in-97.ensures, c.in-97.is) (sym (asks_nothing 97 1 _ c.in_err-u-in-97.ensures refl))

pub returns-in_ok-u-in-97 : goal.returns-in_ok-u-in-97
returns-in_ok-u-in-97 c = rw c.in-97.is (sym (asks_one 97 _ _ c.in_ok-u-in-97.ensures))
