-- The invariant: the rows so far are put, and there is room for those to come. It assumes room for 33 bytes a match.
use Prim.Native.Nat.{◌/◌, min}
use mathlib.Core.Path.{◌≡◌, refl}
use native.Mathlib.Omega.{arith}
use lib.ListN.{length, length-take}
use Rattle.text.proofs.Printing.{first_row, next_row, all_rows}
use Rattle.text.proofs.put_matches.Goals as goal

pub loop-x-init : goal.loop-x-init
loop-x-init c = first_row _ _ _ (let l = length-take c.min-shown.result c.as_chunks.result.0.now in omega (arith, c.requires, c.as_chunks.ensures.front_len, l))

pub loop-x-preserved : goal.loop-x-preserved
loop-x-preserved c = next_row _ _ _ _ _ _ c.loop-x.invariant c.loop-x-test.true _ _ _ c.put_strip-to.ensures

pub returns : goal.returns
returns c =
    let s : c.min-shown.result ≡ min (length c.args.room.now / 2) c.args.count = omega (arith, c.min-shown.ensures, c.as_chunks.ensures.front_len) in
    all_rows _ _ _ _ _ _ _ _ c.loop-x.invariant c.loop-x-test.false (rw (s, c.as_chunks.ensures.front) refl)
