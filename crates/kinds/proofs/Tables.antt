-- A table of refusals: a line that holds refuses, and what no line refuses is made. Each law is over any lines and any cells.
use Prim.Native.Nat.{ℕ}
use mathlib.Core.Path.{◌≡◌, refl, sym, ap, ◌∙◌}
use mathlib.Core.Bool.{true, false, Bool, cond}
use mathlib.Core.List.{List, [], ◌∷◌, ◌++◌, append-nil}
use borrow.Author.Tests.{ne_eqb}
use Rattle.std.specs.Prelude.{Ok, Err}
use Rattle.kinds.specs.declared.Refusal.{Refusal}
use Rattle.kinds.specs.declared.Answer.{Answer}
use Rattle.kinds.specs.Answer.{five, refused, numbers_of}
use Rattle.kinds.specs.Promise.{Line, Result, by_lines, tested, behind, Gives, Keeps, Promise, accepted}
use Rattle.kinds.specs.Codes.{number_of}
use Rattle.kinds.proofs.Numbers.{number_not_0}
use Rattle.kinds.proofs.Tests.{on, clash}

-- no line of a table holds
abbrev pub NoLine : List Line → Type 0
NoLine [] = Unit {0}
NoLine (l ∷ ls) = (l.when ≡ false) × NoLine ls

-- what is given, by an answer that is the one given
pub gives : {w : Result} {r : Answer} {c out : List ℕ} → r ≡ w.answer → c ≡ w.cells → out ≡ w.lent → Gives w r c out
gives a b d = record { numbers = ap five a; answer = a; cells = b; lent = d }

module _ (c out : List ℕ) (made : Result) where
  -- law: what no line refuses is made
  pub none_holds : (ls : List Line) → NoLine ls → by_lines ls c out made ≡ made
  unfolding by_lines
  none_holds [] n = refl
  none_holds (l ∷ ls) n = rw n.0 (none_holds ls n.1)

  -- law: lines that do not hold leave the others to decide
  pub passed : (before ls : List Line) → NoLine before → by_lines (before ++ ls) c out made ≡ by_lines ls c out made
  unfolding by_lines
  passed [] ls n = refl
  passed (l ∷ before) ls n = rw n.0 (passed before ls n.1)

  first_holds : (l : Line) (ls : List Line) → l.when ≡ true → by_lines (l ∷ ls) c out made ≡ record { answer = refused l.refusal; cells = c; lent = out }
  unfolding by_lines
  first_holds l ls t = rw t

  -- law: refused by this line, where none before it holds: all that was lent stands
  pub refused_by : (before : List Line) (l : Line) (ls : List Line) → NoLine before → l.when ≡ true
      → by_lines (before ++ (l ∷ ls)) c out made ≡ record { answer = refused l.refusal; cells = c; lent = out }
  refused_by before l ls n t = passed before (l ∷ ls) n ∙ first_holds l ls t

-- law: a table that refuses nothing has no line that holds
pub none_of : (ls : List Line) → tested ls ≡ Ok tt → NoLine ls
unfolding tested
none_of [] e = tt
none_of (l ∷ ls) e = on l.when (λ t. let z : Err l.refusal ≡ Ok tt = rw t at e in cc) (λ f. (f, none_of ls (rw f at e)))

pub none_tested : (ls : List Line) → NoLine ls → tested ls ≡ Ok tt
unfolding tested
none_tested [] n = refl
none_tested (l ∷ ls) n = rw n.0 (none_tested ls n.1)

-- law: where it refuses, so does a promise behind it
pub by_first : (ls more : List Line) (c out : List ℕ) (made : Result) {k : Refusal} → tested ls ≡ Err k
    → by_lines (ls ++ more) c out made ≡ record { answer = refused k; cells = c; lent = out }
unfolding tested by_lines
by_first [] more c out made e = cc
by_first (l ∷ ls) more c out made {k} e = on l.when
    (λ t. let y : Err l.refusal ≡ Err k = rw t at e in let z : l.refusal ≡ k = cc in rw (t, z) refl)
    (λ f. rw f (by_first ls more c out made (rw f at e)))

-- a call's ways out: refused by this line, where none before it holds
pub refuses : {c out : List ℕ} {made : Result} {r : Answer} (before : List Line) (l : Line) (ls : List Line) → NoLine before → l.when ≡ true
    → r ≡ refused l.refusal → Keeps (record { lines = before ++ (l ∷ ls); made = made }) c out r c out
refuses {c} {out} {made} before l ls n t e = record { gives = rw (refused_by c out made before l ls n t) (gives e refl refl) }

-- or accepted, where none holds
pub accepts : {c out c' out' : List ℕ} {made : Result} {r : Answer} (ls : List Line) → NoLine ls → Gives made r c' out'
    → Keeps (record { lines = ls; made = made }) c out r c' out'
accepts {c} {out} {made = made} ls n g = record { gives = rw (none_holds c out made ls n) g }

-- or as the lines behind these decide
pub decides : {c out c' out' : List ℕ} {P : Promise} {r : Answer} (before : List Line) → NoLine before → Keeps P c out r c' out'
    → Keeps (behind before P) c out r c' out'
decides {c} {out} {P = P} before n k = record { gives = rw (passed c out P.made before P.lines n) k.gives }

-- or refused by the first lines
pub refuses_first : {c out : List ℕ} {r : Answer} {k : Refusal} (before : List Line) (P : Promise) → tested before ≡ Err k → r ≡ refused k
    → Keeps (behind before P) c out r c out
refuses_first {c} {out} before P n e = record { gives = rw (by_first before P.lines c out P.made n) (gives e refl refl) }

pub refuses_alone : {c out : List ℕ} {made : Result} {r : Answer} {k : Refusal} (ls : List Line) → tested ls ≡ Err k → r ≡ refused k
    → Keeps (record { lines = ls; made = made }) c out r c out
refuses_alone {c} {out} {made} ls n e = record { gives = let z = sym (ap (λ ms. by_lines ms c out made) (append-nil ls)) ∙ by_first ls [] c out made n in rw z (gives e refl refl) }

-- what a table gives, taken apart: a refusal that leaves all that was lent, or what is made where no line holds
pub data Decided (ls : List Line) (c out : List ℕ) (made : Result) : Result → Type 0 where
  refused_with : (k : Refusal) → Decided ls c out made (record { answer = refused k; cells = c; lent = out })
  made_as : NoLine ls → Decided ls c out made made

pub table_decided : (ls : List Line) (c out : List ℕ) (made : Result) → Decided ls c out made (by_lines ls c out made)
unfolding by_lines
table_decided [] c out made = made_as tt
table_decided (l ∷ ls) c out made = go (table_decided ls c out made) l.when refl
  where
    later : {w : Result} → Decided ls c out made w → l.when ≡ false → Decided (l ∷ ls) c out made w
    later (refused_with j) f = refused_with j
    later (made_as n) f = made_as (f, n)

    go : Decided ls c out made (by_lines ls c out made) → (b : Bool) → l.when ≡ b
        → Decided (l ∷ ls) c out made (cond b (record { answer = refused l.refusal; cells = c; lent = out }) (by_lines ls c out made))
    go d true e = refused_with l.refusal
    go d false e = later d e

module _ {ls : List Line} {c out : List ℕ} {made : Result} where
  -- law: what is not accepted leaves every cell
  pub refused_same : {w : Result} → Decided ls c out made w → accepted made ≡ true → accepted w ≡ false → w.cells ≡ c
  refused_same (refused_with k) t f = refl
  refused_same (made_as n) t f = absurd (clash t f)

  -- law: what is accepted is made, and no line holds
  pub accepted_made : {w : Result} → Decided ls c out made w → accepted w ≡ true → NoLine ls × (w ≡ made)
  unfolding five numbers_of
  accepted_made (refused_with k) t = absurd (clash t (ne_eqb (number_of k) 0 (number_not_0 k)))
  accepted_made (made_as n) t = (n, refl)

  -- law: what holds of the cells before, and of those that are made, holds of what is given
  pub given_either : (P : List ℕ → Type 0) {w : Result} → Decided ls c out made w → P c → (NoLine ls → P made.cells) → P w.cells
  given_either P (refused_with k) h g = h
  given_either P (made_as n) h g = g n
