-- Which bytes may be too few, and what stands where numbers are printed one after the other. Nothing is assumed.
use Prim.Native.Nat.{ℕ, ◌+◌, ◌*◌, ◌-◌, ◌/◌, ◌%◌, ◌≤◌, ◌<◌}
use mathlib.Core.Path.{◌≡◌, sym, ap, ◌∙◌}
use mathlib.Core.Bool.{true}
use mathlib.Core.List.{List, ◌++◌}
use native.Mathlib.Omega.{arith}
use lib.Dec.{ltb}
use borrow.Author.Tests.{ltb-true, ltb-false, lt-ltb, le-ltb}
use Rattle.kinds.proofs.Tests.{on}
use Rattle.kinds.specs.declared.Answer.{Answer}
use Rattle.kinds.specs.declared.Five.{Five}
use Rattle.kinds.specs.Answer.{five}
use Rattle.line.specs.Line.{space}
use Rattle.text.specs.Text.{newline, item, row, match_rows}
use Rattle.text.specs.Writing.{Puts, strip_items}
use Rattle.std.proofs.Common.{append_assoc}
use Rattle.text.proofs.Printing.{puts_then}
use Rattle.prints.specs.Rows.{found_row, list_rows}

-- law: what may be too short
pub few_bytes : (room o : ℕ) → o < 55 → true ≡ ltb o (55 + 33 * (room / 2))
few_bytes room o h = sym (lt-ltb o (55 + 33 * (room / 2)) (omega arith))

pub enough_bytes : (room o : ℕ) → 55 ≤ o → ltb ((o - 55) / 33) (room / 2) ≡ ltb o (55 + 33 * (room / 2))
enough_bytes room o h = on (ltb ((o - 55) / 33) (room / 2))
    (λ t. let k = ltb-true ((o - 55) / 33) (room / 2) t in t ∙ sym (lt-ltb o (55 + 33 * (room / 2)) (omega arith)))
    (λ f. let k = ltb-false ((o - 55) / 33) (room / 2) f in f ∙ sym (le-ltb o (55 + 33 * (room / 2)) (omega arith)))

-- the numbers n are those of the answer a
module _ (a : Answer) (n : Five) (e : n ≡ five a) where
  -- law: code, end, number, start, visits
  pub found_put : {o o1 o2 o3 : List ℕ} {r1 r2 r3 : ℕ} → Puts o 0 (item n.code space) o1 r1 → Puts o1 r1 (strip_items n.x n.y space) o2 r2
      → Puts o2 r2 (item n.visits newline) o3 r3 → Puts o 0 (found_row a) o3 r3
  unfolding row
  found_put p q s =
      let A = item (n.x / 65536) space in
      let B = item (n.x % 65536) space in
      let D = item n.y space in
      let W = item n.visits newline in
      let z : (A ++ (B ++ D)) ++ W ≡ A ++ (B ++ (D ++ W)) = append_assoc A (B ++ D) W ∙ ap (λ l. A ++ l) (append_assoc B D W) in
      let w = puts_then p (puts_then q s) in
      let w' = rw z at w in
      rw e at w'

  -- law: code, count, visits, and the rows
  pub listed_put : {o o1 o2 o3 o4 : List ℕ} {r1 r2 r3 r4 : ℕ} (room : List ℕ) → Puts o 0 (item n.code space) o1 r1 → Puts o1 r1 (item n.count space) o2 r2
      → Puts o2 r2 (item n.visits newline) o3 r3 → Puts o3 r3 (match_rows n.count room) o4 r4 → Puts o 0 (list_rows a room) o4 r4
  unfolding row
  listed_put room p q s t = let w = puts_then (puts_then p (puts_then q s)) t in rw e at w
