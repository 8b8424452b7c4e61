-- A call that tells an answer tells the promised one, since the answer is the promised one. Nothing else is assumed.
use Prim.Native.Nat.{ℕ}
use mathlib.Core.Path.{◌≡◌, refl, ap, ◌∙◌}
use mathlib.Core.List.{List, [], ◌∷◌}
use Rattle.std.specs.Prelude.{Result, Ok, Err}
use Rattle.kinds.specs.declared.Refusal.{Refusal}
use Rattle.kinds.specs.declared.Answer.{Answer}
use Rattle.kinds.specs.declared.Five.{Five}
use Rattle.kinds.specs.Answer.{five, numbers_of, ended}
use Rattle.kinds.specs.Promise.{Promise, Keeps}
use Rattle.told.specs.Told.{code_of, array_of, Numbered, Tells, TellsCode}

-- law: the code of the answer's numbers
pub code_told : (a : Answer) {n : Five} → n ≡ five a → n.code ≡ code_of a
unfolding code_of
code_told a e = ap (λ n. n.code) e

-- law: the five of them, laid side by side
pub all_told : (a : Answer) {n : Five} → n ≡ five a → Numbered a (n.code ∷ n.x ∷ n.y ∷ n.count ∷ n.visits ∷ []) n.code
unfolding array_of
all_told a e = record { code = code_told a e; array = rw e }

-- law: a code, and four zeros beside it, where a change ends so
pub code_alone : (r : Result (Unit {0}) Refusal) {k : ℕ} → k ≡ (five (ended r)).code → Numbered (ended r) (k ∷ 0 ∷ 0 ∷ 0 ∷ 0 ∷ []) k
unfolding five numbers_of code_of array_of
code_alone (Ok done) e = rw e (record { code = refl; array = refl })
code_alone (Err j) e = rw e (record { code = refl; array = refl })

module _ {P : Promise} {c c' : List ℕ} {a : Answer} {r : ℕ} where
  -- law: a call that keeps its promise, and whose answer is told
  pub tells : {out out' told : List ℕ} → Keeps P c out a c' out' → Numbered a told r → Tells P c out r c' out' told
  tells k t =
      let g = k.gives in
      record {
        answer = record { code = t.code ∙ ap code_of g.answer; array = t.array ∙ ap array_of g.answer };
        cells = g.cells;
        lent = g.lent;
      }

  -- law: and one whose answer's code is given
  pub tells_code : Keeps P c [] a c' [] → r ≡ code_of a → TellsCode P c r c'
  tells_code k t = let g = k.gives in record { code = t ∙ ap code_of g.answer; cells = g.cells }
