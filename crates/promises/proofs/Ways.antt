-- The lines that the questions share, a way out at a time: limits by a test, asked slots by their table. What is made where none holds may be
-- anything; no sound pool is assumed.
use Prim.Native.Nat.{ℕ, ◌≤◌, ◌<◌}
use mathlib.Core.Path.{◌≡◌}
use mathlib.Core.List.{List, [], ◌∷◌}
use borrow.Author.Tests.{lt-ltb, le-ltb}
use Rattle.std.specs.Prelude.{Ok, Err}
use Rattle.kinds.specs.declared.Refusal.{Refusal}
use Rattle.kinds.specs.declared.Refusal.TheVariants.{Backwards}
use Rattle.kinds.specs.declared.Answer.{Answer}
use Rattle.kinds.specs.Answer.{refused}
use Rattle.kinds.specs.Promise.{Line, Result, Promise, tested, Gives, Keeps}
use Rattle.kinds.proofs.Tables.{none_of, refuses, refuses_alone, accepts}
use Rattle.plain.specs.Books.{backwards_line}

-- a promise by its lines, and what it makes
abbrev pub by : List Line → Result → Promise
by ls made = record { lines = ls; made = made }

module _ {c out : List ℕ} {made : Result} {r : Answer} where
  module _ (x0 x1 : ℕ) where
    pub limits_backwards : x1 < x0 → r ≡ refused Backwards → Keeps (by (backwards_line x0 x1 ∷ []) made) c out r c out
    limits_backwards h e = refuses [] (backwards_line x0 x1) [] tt (lt-ltb x1 x0 h) e

    pub limits_pass : x0 ≤ x1 → {out' : List ℕ} → Gives made r c out' → Keeps (by (backwards_line x0 x1 ∷ []) made) c out r c out'
    limits_pass h g = accepts (backwards_line x0 x1 ∷ []) (le-ltb x1 x0 h, tt) g

  -- slots and numbers by their own lines
  module _ (ls : List Line) where
    pub lines_refuse : {k : Refusal} → tested ls ≡ Err k → r ≡ refused k → Keeps (by ls made) c out r c out
    lines_refuse e er = refuses_alone ls e er

    pub lines_pass : tested ls ≡ Ok tt → {out' : List ℕ} → Gives made r c out' → Keeps (by ls made) c out r c out'
    lines_pass e g = accepts ls (none_of ls e) g
