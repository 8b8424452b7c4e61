-- What a line prints, a kind of line at a time. It assumes room for what a line can print, and a sound pool where the call is made.
use Prim.Native.Nat.{ℕ, ◌+◌, ◌*◌, ◌/◌, ◌%◌, ◌≤◌}
use mathlib.Core.Path.{◌≡◌, refl, sym, ap, ◌∙◌}
use mathlib.Core.Bool.{true, false, true≢false}
use mathlib.Core.List.{List, [], ◌∷◌, ◌++◌}
use native.Mathlib.Omega.{arith}
use lib.ListN.{length, drop, length-append, length-drop}
use Rattle.kinds.proofs.Tests.{on}
use Rattle.kinds.specs.declared.Answer.{Answer}
use Rattle.kinds.specs.Answer.{five, numbers_of}
use Rattle.kinds.specs.declared.Refusal.{Refusal}
use Rattle.kinds.specs.declared.Refusal.TheVariants as refusals
use Rattle.kinds.specs.Codes.{number_of}
use Rattle.kinds.specs.Promise.{Result, Promise, Gives, Keeps}
use Rattle.kinds.proofs.Placing.{placed_start}
use Rattle.pools.specs.Sound.{Sound}
use Rattle.sound.proofs.Lines.{sound_verdict, verdict_sound, entry_passed, entry_refused}
use Rattle.promises.specs.Promises.{opening, closing, first_to_end, last_to_end, list_covers}
use Rattle.promises.specs.Checked.{Changed}
use Rattle.line.specs.declared.Asked.{Asked}
use Rattle.line.specs.declared.Asked.TheVariants.{Open, Close, First, Last, Covers, Malformed}
use Rattle.line.specs.Line.{space, asked_by}
use Rattle.text.specs.Text.{newline, item, row, match_rows}
use Rattle.text.specs.Writing.{Puts}
use Rattle.text.proofs.Printing.{item_few, rows_few}
use Rattle.prints.specs.Rows.{code_row, found_row, list_rows}
use Rattle.prints.specs.Refused.{refused_rows}
use Rattle.std.specs.Prelude.{Option, Some, None, Result as Tried, Ok, Err}
use Rattle.lines.specs.Script.{Done, change_done, found_done, list_done, called, done_by, too_short, line_answered, LineKept}
use Rattle.lines.specs.Writing.{Prints, refusal_of}

-- what the check says
abbrev Checked : Type 0
Checked = Tried (Unit {0}) Refusal

row_few : (n : ℕ) → length (row (n ∷ [])) ≤ 55
unfolding row
row_few n = let h = item_few n newline in omega arith

found_few : (a : Answer) → length (found_row a) ≤ 55
unfolding row
found_few a =
    let b = item_few (five a).code space in
    let d = item_few ((five a).x / 65536) space in
    let e = item_few ((five a).x % 65536) space in
    let f = item_few (five a).y space in
    let g = item_few (five a).visits newline in
    let R1 = item (five a).y space ++ item (five a).visits newline in
    let R2 = item ((five a).x % 65536) space ++ R1 in
    let R3 = item ((five a).x / 65536) space ++ R2 in
    let l1 = length-append (item (five a).y space) (item (five a).visits newline) in
    let l2 = length-append (item ((five a).x % 65536) space) R1 in
    let l3 = length-append (item ((five a).x / 65536) space) R2 in
    let l4 = length-append (item (five a).code space) R3 in
    omega arith

list_few : (a : Answer) (room : List ℕ) → length (list_rows a room) ≤ 33 + 33 * (length room / 2)
unfolding row
list_few a room =
    let b = item_few (five a).code space in
    let d = item_few (five a).count space in
    let e = item_few (five a).visits newline in
    let R = item (five a).count space ++ item (five a).visits newline in
    let l1 = length-append (item (five a).count space) (item (five a).visits newline) in
    let l2 = length-append (item (five a).code space) R in
    let l3 = length-append (item (five a).code space ++ R) (match_rows (five a).count room) in
    let h = rows_few (five a).count room in
    omega arith

-- a line that does d, by its kind: the pool's cells c, the listing room, and the output o
module _ (c room o : List ℕ) (h : 55 + 33 * (length room / 2) ≤ length o) {d : Done} where
  change : {c1 o1 : List ℕ} {r : ℕ} {a : Answer} {w : Result} → d ≡ change_done room w → Gives w a c1 [] → Puts o 0 (code_row a) o1 r → Prints d o c1 room o1 r
  change {a = a} e G p = rw e (record {
    cells = G.cells;
    listing = refl;
    put = rw G.answer at p;
    within = let l = row_few (five a).code in let g = p.end in omega arith;
  })

  strip : {c1 o1 : List ℕ} {r : ℕ} {a : Answer} {w : Result} → d ≡ found_done c room w → Gives w a c1 [] → Puts o 0 (found_row a) o1 r → Prints d o c room o1 r
  strip {a = a} e G p = rw e (record {
    cells = refl;
    listing = refl;
    put = rw G.answer at p;
    within = let l = found_few a in let g = p.end in omega arith;
  })

  list : {c1 room1 o1 : List ℕ} {r : ℕ} {a : Answer} {w : Result} → d ≡ list_done c w → Gives w a c1 room1 → length room1 ≡ length room
      → Puts o 0 (list_rows a room1) o1 r → Prints d o c room1 o1 r
  list {room1 = room1} {a = a} e G l p = rw e (record {
    cells = refl;
    listing = G.lent;
    put = rw (G.answer, G.lent) at p;
    within = let f = list_few a room1 in let g = p.end in omega arith;
  })

  bad : {o1 : List ℕ} {r : ℕ} → d ≡ done_by c room Malformed → Puts o 0 (row (number_of refusals.Malformed ∷ [])) o1 r → Prints d o c room o1 r
  unfolding done_by
  bad e p = rw e (record { cells = refl; listing = refl; put = p; within = let f = row_few (number_of refusals.Malformed) in let g = p.end in omega arith })

-- what is asked, on a sound pool
module _ (c room o : List ℕ) (k : Asked) (h : 55 + 33 * (length room / 2) ≤ length o) (s : Sound c) where
  passed : {P : Promise} {a : Answer} {c1 out out1 : List ℕ} → Keeps P c out a c1 out1 → Gives (called c P out) a c1 out1
  passed K = (entry_passed c (sym (sound_verdict s)) refl K).gives

  -- law: opening
  pub open_prints : {a : Answer} {c1 o1 : List ℕ} {r start end number : ℕ} → k ≡ Open start end number → Changed (opening c start end number) c a c1
      → Puts o 0 (code_row a) o1 r → Prints (done_by c room k) o c1 room o1 r × Sound c1
  unfolding done_by
  open_prints e C p = (change c room o h (rw e) (passed C.keeps) p, C.sound)

  -- law: closing
  pub close_prints : {a : Answer} {c1 o1 : List ℕ} {r start end number : ℕ} → k ≡ Close start end number → Changed (closing c start end number) c a c1
      → Puts o 0 (code_row a) o1 r → Prints (done_by c room k) o c1 room o1 r × Sound c1
  unfolding done_by
  close_prints e C p = (change c room o h (rw e) (passed C.keeps) p, C.sound)

  -- law: first to end
  pub first_prints : {o1 : List ℕ} {r u : ℕ} {a : Answer} → k ≡ First u → Keeps (first_to_end c u) c [] a c [] → Puts o 0 (found_row a) o1 r
      → Prints (done_by c room k) o c room o1 r × Sound c
  unfolding done_by
  first_prints e K p = (strip c room o h (rw e) (passed K) p, s)

  -- law: last to end
  pub last_prints : {o1 : List ℕ} {r u v : ℕ} {a : Answer} → k ≡ Last u v → Keeps (last_to_end c u v) c [] a c [] → Puts o 0 (found_row a) o1 r
      → Prints (done_by c room k) o c room o1 r × Sound c
  unfolding done_by
  last_prints e K p = (strip c room o h (rw e) (passed K) p, s)

  -- law: the list of those that cover a slot
  pub covers_prints : {room1 o1 : List ℕ} {r u : ℕ} {a : Answer} → k ≡ Covers u → Keeps (list_covers c u room) c room a c room1
      → length room1 ≡ length room → Puts o 0 (list_rows a room1) o1 r → Prints (done_by c room k) o c room1 o1 r × Sound c
  unfolding done_by
  covers_prints e K l p = (list c room o h (rw e) (passed K) l p, s)

  -- law: a malformed line
  pub bad_prints : {o1 : List ℕ} {r : ℕ} → k ≡ Malformed → Puts o 0 (row (number_of refusals.Malformed ∷ [])) o1 r
      → Prints (done_by c room k) o c room o1 r × Sound c
  bad_prints e p = (bad c room o h (rw e) p, s)

-- law: a line that is refused before its call
pub refused_prints : (c room o : List ℕ) (k : Asked) → 55 + 33 * (length room / 2) ≤ length o → {o1 : List ℕ} {r : ℕ} {v : Checked} {j : Refusal} → v ≡ refusal_of c k → v ≡ Err j
    → Puts o 0 (refused_rows room j k) o1 r → Prints (done_by c room k) o c room o1 r
unfolding done_by refusal_of refused_rows five numbers_of
refused_prints c room o (Open start end number) h q z p = change c room o h refl (entry_refused c q (opening c start end number) z refl).gives p
refused_prints c room o (Close start end number) h q z p = change c room o h refl (entry_refused c q (closing c start end number) z refl).gives p
refused_prints c room o (First u) h q z p = strip c room o h refl (entry_refused c q (first_to_end c u) z refl).gives p
refused_prints c room o (Last u e) h q z p = strip c room o h refl (entry_refused c q (last_to_end c u e) z refl).gives p
refused_prints c room o (Covers u) h q z p = list c room o h refl (entry_refused c q (list_covers c u room) z refl).gives refl p
refused_prints c room o Malformed h {j = j} q z p =
    let y : Err j ≡ Err refusals.Malformed = sym z ∙ q in
    let x : j ≡ refusals.Malformed = cc in
    bad c room o h refl (rw x at p)

-- law: where nothing refuses it, the pool is sound
pub refusal_sound : (c : List ℕ) (k : Asked) {v : Checked} → v ≡ refusal_of c k → v ≡ Ok tt → Sound c
unfolding refusal_of
refusal_sound c (Open start end number) q z = verdict_sound c q z
refusal_sound c (Close start end number) q z = verdict_sound c q z
refusal_sound c (First u) q z = verdict_sound c q z
refusal_sound c (Last u e) q z = verdict_sound c q z
refusal_sound c (Covers u) q z = verdict_sound c q z
refusal_sound c Malformed q z = let y : Ok tt ≡ Err refusals.Malformed = sym z ∙ q in cc

-- law: where the output may be too short, nothing is done
pub short_output : (c room line o : List ℕ) → too_short room o ≡ true → LineKept (line_answered c room line o) c room o None
unfolding line_answered
short_output c room line o t = simp t (record { cells = refl; room = refl; text = refl; told = refl })

-- law: else what is printed stands from the first byte on
pub line_done : (c room line o c1 room1 o1 : List ℕ) (r : ℕ) → too_short room o ≡ false → Prints (done_by c room (asked_by line)) o c1 room1 o1 r
    → LineKept (line_answered c room line o) c1 room1 o1 (Some r)
unfolding line_answered
line_done c room line o c1 room1 o1 r f P =
    let e = P.put.end in
    let w = P.within in
    let d = done_by c room (asked_by line) in
    simp f (record {
      cells = P.cells;
      room = P.listing;
      text = P.put.bytes ∙ placed_start o d.bytes (omega arith);
      told = ap Some (let z : r ≡ length d.bytes = omega arith in z);
    })

-- law: no more bytes are told than were lent
pub told_within : (c room line o c1 room1 o1 : List ℕ) (n : ℕ) (r : Option ℕ) → LineKept (line_answered c room line o) c1 room1 o1 r → r ≡ Some n → length o1 ≡ length o → n ≤ length o
unfolding line_answered
told_within c room line o c1 room1 o1 n r A e l =
    let d = done_by c room (asked_by line) in
    on (too_short room o)
    (λ t. let f = A.told in let g = simp t at f in absurd (true≢false cc))
    (λ t.
    let f = A.told in let g = simp t at f in
    let x = A.text in let y = simp t at x in
    let z : Some n ≡ Some (length d.bytes) = sym e ∙ g in
    let m : n ≡ length d.bytes = cc in
    let k : length o1 ≡ length (d.bytes ++ drop (length d.bytes) o) = ap length y in
    let q = length-append d.bytes (drop (length d.bytes) o) in
    let p = length-drop (length d.bytes) o in
    omega arith)
