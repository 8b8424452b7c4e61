-- A promise allows one result alone. A call whose result, and whose cells, are what is given at what was passed in has this by these laws. Each
-- takes two results of one promise, and assumes nothing else.
use Prim.Native.Nat.{ℕ}
use mathlib.Core.Path.{◌≡◌, refl, ap, sym, ◌∙◌}
use mathlib.Core.List.{List}
use Rattle.std.specs.Prelude.{Bool, false, Option, Some, None, Result as Tried, Ok, Err}
use Rattle.kinds.specs.declared.Pair.{Pair}
use Rattle.kinds.specs.declared.Refusal.{Refusal}
use Rattle.kinds.specs.declared.Walked.{Walked}
use Rattle.kinds.specs.declared.Listing.{Listing}
use Rattle.kinds.specs.declared.Outcome.{Outcome}
use Rattle.kinds.specs.declared.Outcome.TheVariants.{Found, Nothing, Listed, Refused}
use Rattle.kinds.specs.declared.Answer.{Answer}
use Rattle.kinds.specs.Answer.{refused, outcome_of, ended, walked, listed}
use Rattle.kinds.specs.Promise.{Promise, Keeps}

-- two results of a call that answers by a definition
pub one_answer : {A : Type 0} {w r s : A} → r ≡ w → s ≡ w → r ≡ s
one_answer e f = e ∙ sym f

-- two results of a call that keeps its promise: the answers, the pool's cells, and the lent ones
pub one_result : {P : Promise} {b u : List ℕ} {r s : Answer} {c d o p : List ℕ} → Keeps P b u r c o → Keeps P b u s d p → (r ≡ s) × (c ≡ d) × (o ≡ p)
one_result h k =
    let g = h.gives in
    let e = k.gives in
    (one_answer g.answer e.answer, one_answer g.cells e.cells, one_answer g.lent e.lent)

-- an outcome tells its refusal
abbrev refusal_in : Refusal → Outcome → Refusal
refusal_in d (Found p) = d
refusal_in d Nothing = d
refusal_in d (Listed n more) = d
refusal_in d (Refused k) = k

one_refusal : (j k : Refusal) → refused j ≡ refused k → j ≡ k
one_refusal j k e = ap (λ a. refusal_in j a.outcome) e

-- what is not refused, and what is refused, have different answers
not_refused : (o : Outcome) (v : ℕ) (k : Refusal) → ((j : Refusal) → o ≡ Refused j → ⊥) → record { outcome = o; visits = v } ≡ refused k → ⊥
not_refused o v k n e = n k (ap (λ a. a.outcome) e)

-- a change ends in one way alone
one_end : (q r : Tried (Unit {0}) Refusal) → ended q ≡ ended r → q ≡ r
one_end (Ok a) (Ok b) e = refl
one_end (Ok a) (Err k) e = absurd (not_refused _ _ k (λ j z. cc) e)
one_end (Err j) (Ok b) e = absurd (not_refused _ _ j (λ j z. cc) (sym e))
one_end (Err j) (Err k) e = ap Err (one_refusal j k e)

-- two results of a change
pub one_ending : {P : Promise} {b u : List ℕ} {q r : Tried (Unit {0}) Refusal} {c d o p : List ℕ} → Keeps P b u (ended q) c o → Keeps P b u (ended r) d p
    → (q ≡ r) × (c ≡ d) × (o ≡ p)
one_ending h k = let e = one_result h k in (one_end _ _ e.0, e.1, e.2)

-- an outcome tells what was found
abbrev found_in : Outcome → Option Pair
found_in (Found p) = Some p
found_in Nothing = None
found_in (Listed n more) = None
found_in (Refused k) = None

found_in_outcome : (f : Option Pair) → found_in (outcome_of f) ≡ f
found_in_outcome (Some p) = refl
found_in_outcome None = refl

not_refusal : (f : Option Pair) (k : Refusal) → outcome_of f ≡ Refused k → ⊥
not_refusal (Some p) k e = cc
not_refusal None k e = cc

-- a question ends in one way alone
one_walk : (q r : Tried Walked Refusal) → walked q ≡ walked r → q ≡ r
one_walk (Ok v) (Ok w) e =
    let f : v.finding ≡ w.finding = sym (found_in_outcome v.finding) ∙ ap (λ a. found_in a.outcome) e ∙ found_in_outcome w.finding in
    let n : v.visits ≡ w.visits = ap (λ a. a.visits) e in
    λ i. Ok (record { finding = f i; visits = n i })
one_walk (Ok v) (Err k) e = absurd (not_refusal v.finding k (ap (λ a. a.outcome) e))
one_walk (Err j) (Ok w) e = absurd (not_refusal w.finding j (ap (λ a. a.outcome) (sym e)))
one_walk (Err j) (Err k) e = ap Err (one_refusal j k e)

-- two results of a question
pub one_finding : {P : Promise} {b u : List ℕ} {q r : Tried Walked Refusal} {c d o p : List ℕ} → Keeps P b u (walked q) c o → Keeps P b u (walked r) d p
    → (q ≡ r) × (c ≡ d) × (o ≡ p)
one_finding h k = let e = one_result h k in (one_walk _ _ e.0, e.1, e.2)

-- an outcome tells how many were listed, and whether there are more
abbrev listed_in : Outcome → ℕ × Bool
listed_in (Found p) = (0, false)
listed_in Nothing = (0, false)
listed_in (Listed n more) = (n, more)
listed_in (Refused k) = (0, false)

-- a listing ends in one way alone
one_list : (q r : Tried Listing Refusal) → listed q ≡ listed r → q ≡ r
one_list (Ok v) (Ok w) e =
    let n : v.count ≡ w.count = ap (λ a. (listed_in a.outcome).0) e in
    let m : v.more ≡ w.more = ap (λ a. (listed_in a.outcome).1) e in
    let s : v.visits ≡ w.visits = ap (λ a. a.visits) e in
    λ i. Ok (record { count = n i; more = m i; visits = s i })
one_list (Ok v) (Err k) e = absurd (not_refused _ _ k (λ j z. cc) e)
one_list (Err j) (Ok w) e = absurd (not_refused _ _ j (λ j z. cc) (sym e))
one_list (Err j) (Err k) e = ap Err (one_refusal j k e)

-- two results of a listing
pub one_listing : {P : Promise} {b u : List ℕ} {q r : Tried Listing Refusal} {c d o p : List ℕ} → Keeps P b u (listed q) c o → Keeps P b u (listed r) d p
    → (q ≡ r) × (c ≡ d) × (o ≡ p)
one_listing h k = let e = one_result h k in (one_list _ _ e.0, e.1, e.2)
