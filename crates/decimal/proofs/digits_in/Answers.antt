-- The invariant: what is still to be read gives what was to be read at first. Nothing is assumed.
use Prim.Native.Nat.{◌+◌, ◌*◌}
use mathlib.Core.Path.{◌≡◌, refl, ◌∙◌}
use native.Mathlib.Omega.{arith}
use Rattle.decimal.proofs.Digits.{first_byte, no_digit, digit_worth, too_large, next_byte}
use Rattle.decimal.proofs.digits_in.Goals as goal

pub loop-b-init : goal.loop-b-init
loop-b-init c = first_byte _

pub returns-in_err-checked_mul : goal.returns-in_err-checked_mul
returns-in_err-checked_mul c =
    c.from_residual.ensures ∙ too_large _ _ _ c.loop-b.invariant c.loop-b-test.true _ refl (omega (arith, c.in_err-checked_mul.ensures))

pub returns-in_err-digit : goal.returns-in_err-digit
returns-in_err-digit c = c.from_residual-in_err-digit.ensures ∙ no_digit _ _ _ c.loop-b.invariant c.loop-b-test.true _ refl c.in_err-digit.ensures

pub returns-in_err-n : goal.returns-in_err-n
returns-in_err-n c =
    let d = digit_worth _ _ _ c.loop-b.invariant c.loop-b-test.true _ refl _ c.in_ok-digit.ensures in
    c.from_residual-in_err-n.ensures ∙ too_large _ _ _ c.loop-b.invariant c.loop-b-test.true _ refl (omega (arith, d, c.in_ok-checked_mul.ensures, c.in_err-n.ensures))

pub loop-b-preserved : goal.loop-b-preserved
loop-b-preserved c =
    let e : c.in_ok-n.n ≡ c.loop-b.n * 10 + c.in_ok-digit.field-0 = omega (arith, c.in_ok-checked_mul.ensures, c.in_ok-n.ensures) in
    rw e (next_byte _ _ _ c.loop-b.invariant c.loop-b-test.true _ refl _ c.in_ok-digit.ensures (omega (arith, c.in_ok-checked_mul.ensures, c.in_ok-n.ensures)))
