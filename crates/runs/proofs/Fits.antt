-- A promise fits a call over a plain list where both have the same lines and outcome and, where no line holds, leave the same pairs and write
-- alike; so the call ends alike over both, shown once for all calls. It assumes a sound pool and a list with the same pairs (`Same`).
use Prim.Native.Nat.{ℕ}
use mathlib.Core.Path.{◌≡◌, refl}
use mathlib.Core.List.{List, [], ◌∷◌}
use Rattle.kinds.specs.Promise.{Line, Result, Promise, by_lines, given}
use Rattle.kinds.proofs.Tables.{NoLine, passed}
use Rattle.kinds.proofs.Tests.{on}
use Rattle.plain.specs.Books.{Book, Plainly}
use Rattle.sound.specs.Promises.{check_lines, behind_check}
use Rattle.sound.proofs.Lines.{no_line}
use Rattle.runs.specs.Playing.{Kept, plain_by, kept, Wrote, Same}

-- a result and what is kept are alike, where the slice `out` was lent
pub record Ends (out : List ℕ) (w : Result) (e : Kept) : Type 0 where
  pub outcome : w.answer.outcome ≡ e.outcome
  pub wrote : Wrote e.writing out w.lent
  pub same : Same w.cells e.book

pub record FitsPlain (b : Book) (P : Promise) (k : Plainly) (out : List ℕ) : Type 0 where
  pub lines : P.lines ≡ k.lines
  pub outcome : P.made.answer.outcome ≡ k.outcome
  pub same : NoLine k.lines → Same P.made.cells (record { pairs = k.pairs; room = b.room })
  pub wrote : NoLine k.lines → Wrote k.writing out P.made.lent

module _ {c : List ℕ} {b : Book} (h : Same c b) (out : List ℕ) (w : Result) (e : Kept) (o : w.answer.outcome ≡ e.outcome) where
  by_lines_lem : (ls : List Line) → (NoLine ls → Same w.cells e.book) → (NoLine ls → Wrote e.writing out w.lent)
      → Ends out (by_lines ls c out w) (plain_by ls b e)
  unfolding by_lines plain_by
  by_lines_lem [] s r = record { outcome = o; wrote = r tt; same = s tt }
  by_lines_lem (l ∷ ls) s r = on l.when
      (λ t. rw t (record { outcome = refl; wrote = refl; same = h }))
      (λ f. let E = by_lines_lem ls (λ n. s (f, n)) (λ n. r (f, n)) in rw f E)

-- law: a call that fits ends alike over cells and over a plain list
pub fits_ends : {c : List ℕ} {b : Book} {P : Promise} {k : Plainly} {out : List ℕ} → Same c b → FitsPlain b P k out
    → Ends out (given (behind_check c P) c out) (kept b k)
fits_ends {c} {b} {P} {k} {out} h F =
    rw (passed c out P.made (check_lines c) P.lines (no_line h.sound), F.lines)
    (by_lines_lem h out P.made _ F.outcome k.lines F.same F.wrote)
