-- A line is its letter and the numbers behind it. Nothing is assumed of the line.
use Prim.Native.Nat.{ℕ, ◌+◌, ◌≤◌, ◌<◌}
use mathlib.Core.Path.{◌≡◌, refl, sym, ap, ◌∙◌}
use mathlib.Core.Bool.{Bool, true, false, cond, ◌&&◌, ◌||◌}
use mathlib.Core.List.{List, [], ◌∷◌, map}
use native.Mathlib.Omega.{arith}
use lib.Dec.{eqb}
use lib.ListN.{length, get_or, drop, length-map}
use Rattle.std.specs.Prelude.{Some, None}
use borrow.Author.Tests.{eqb-true, eqb-false, eq-eqb, ne_eqb, lt-ltb, le-ltb}
use Rattle.kinds.proofs.Tests.{on}
use Rattle.line.specs.declared.Asked.TheVariants.{Malformed}
use Rattle.line.specs.Line.{space, led, words, all_numbers, meant, by_words, asked_by}
use Rattle.decimal.specs.Decimal.{value}
use Rattle.line.specs.Reading.{numbers_after, numbers_of}

-- law: a line over 63 bytes
pub too_long : (line : List ℕ) → 63 < length line → Malformed ≡ asked_by line
unfolding asked_by
too_long line h = simp (lt-ltb 63 (length line) h)

short : (line : List ℕ) → length line ≤ 63 → asked_by line ≡ by_words (words line)
unfolding asked_by
short line h = simp (le-ltb 63 (length line) h)

-- law: a line of one byte, or of none
pub too_few : (line : List ℕ) → length line ≤ 63 → length line < 2 → Malformed ≡ asked_by line
unfolding words
too_few [] h k = sym (short [] h)
too_few (b ∷ []) h k = sym (short (b ∷ []) h ∙ on (eqb b space) (λ t. rw t refl) (λ f. rw f refl))
too_few (a ∷ b ∷ bs) h k = absurd (omega (arith, k))

two_led : (a b : ℕ) (ws : List (List ℕ)) → by_words (led a (led b ws)) ≡ Malformed
two_led a b [] = refl
two_led a b (w ∷ ws) = refl

-- law: a second byte that is no space
pub no_space : (line : List ℕ) → length line ≤ 63 → 2 ≤ length line → (get_or line 1 0 ≡ 32 → ⊥) → Malformed ≡ asked_by line
unfolding words
no_space [] h k d = absurd (omega (arith, k))
no_space (b ∷ []) h k d = absurd (omega (arith, k))
no_space (a ∷ b ∷ bs) h k d = sym (short (a ∷ b ∷ bs) h ∙ rw (ne_eqb b space d) (on (eqb a space) (λ t. rw t refl) (λ f. rw f (two_led a b (words bs)))))

-- how many numbers a letter takes
abbrev pub takes : ℕ → ℕ
takes letter = cond (eqb letter 111 || eqb letter 99) 3 (cond (eqb letter 108) 2 (cond (eqb letter 102 || eqb letter 97) 1 0))

-- law: with any other count it asks nothing
meant_other : (letter : ℕ) (vs : List ℕ) → (length vs ≡ takes letter → ⊥) → meant letter vs ≡ Malformed
meant_other letter [] d = refl
meant_other letter (u ∷ []) d = on (eqb letter 102)
    (λ t. let z = eqb-true letter 102 t in absurd (d (rw z refl)))
    (λ f. on (eqb letter 97)
    (λ t. let z = eqb-true letter 97 t in absurd (d (rw z refl)))
    (λ g. rw (f, g) refl))
meant_other letter (u ∷ e ∷ []) d = on (eqb letter 108)
    (λ t. let z = eqb-true letter 108 t in absurd (d (rw z refl)))
    (λ f. rw f refl)
meant_other letter (s ∷ e ∷ n ∷ []) d = on (eqb letter 111)
    (λ t. let z = eqb-true letter 111 t in absurd (d (rw z refl)))
    (λ f. on (eqb letter 99)
    (λ t. let z = eqb-true letter 99 t in absurd (d (rw z refl)))
    (λ g. rw (f, g) refl))
meant_other letter (a ∷ b ∷ c ∷ d ∷ more) e = refl

gathered : (n : ℕ) (ws : List (List ℕ)) (ns : List ℕ) (t u : Bool) → Some ns ≡ cond (t && u) (Some (map value ws)) None → u ≡ eqb (0 + length ws) n
    → (t ≡ true) × (map value ws ≡ ns) × (length ns ≡ n)
gathered n ws ns true true e q =
    let z : map value ws ≡ ns = cc in
    let l = length-map ws value in
    let m = eqb-true (0 + length ws) n (sym q) in
    (refl, z, let k : length (map value ws) ≡ n = omega (arith, l, m) in rw z at k)
gathered n ws ns true false e q = cc
gathered n ws ns false u e q = cc

asks_with : (letter n : ℕ) (ws : List (List ℕ)) (ns : List ℕ) → Some ns ≡ numbers_of n ws → (by_words ((letter ∷ []) ∷ ws) ≡ meant letter ns) × (length ns ≡ n)
unfolding numbers_after
asks_with letter n ws ns e =
    let f = gathered n ws ns (all_numbers ws) (eqb (0 + length ws) n) e refl in
    (rw (f.0, f.1) refl, f.2)

one_of : (ns : List ℕ) → length ns ≡ 1 → ns ≡ get_or ns 0 0 ∷ []
one_of [] h = absurd (omega (arith, h))
one_of (u ∷ []) h = refl
one_of (u ∷ e ∷ ns) h = absurd (omega (arith, h))

two_of : (ns : List ℕ) → length ns ≡ 2 → ns ≡ get_or ns 0 0 ∷ get_or ns 1 0 ∷ []
two_of [] h = absurd (omega (arith, h))
two_of (u ∷ []) h = absurd (omega (arith, h))
two_of (u ∷ e ∷ []) h = refl
two_of (u ∷ e ∷ n ∷ ns) h = absurd (omega (arith, h))

three_of : (ns : List ℕ) → length ns ≡ 3 → ns ≡ get_or ns 0 0 ∷ get_or ns 1 0 ∷ get_or ns 2 0 ∷ []
three_of [] h = absurd (omega (arith, h))
three_of (s ∷ []) h = absurd (omega (arith, h))
three_of (s ∷ e ∷ []) h = absurd (omega (arith, h))
three_of (s ∷ e ∷ n ∷ []) h = refl
three_of (s ∷ e ∷ n ∷ m ∷ ns) h = absurd (omega (arith, h))

-- law: one number, two or three are what the letter asks with
pub asks_one : (letter : ℕ) (ws : List (List ℕ)) (ns : List ℕ) → Some ns ≡ numbers_of 1 ws → by_words ((letter ∷ []) ∷ ws) ≡ meant letter (get_or ns 0 0 ∷ [])
asks_one letter ws ns e = let f = asks_with letter 1 ws ns e in f.0 ∙ ap (meant letter) (one_of ns f.1)

pub asks_two : (letter : ℕ) (ws : List (List ℕ)) (ns : List ℕ) → Some ns ≡ numbers_of 2 ws → by_words ((letter ∷ []) ∷ ws) ≡ meant letter (get_or ns 0 0 ∷ get_or ns 1 0 ∷ [])
asks_two letter ws ns e = let f = asks_with letter 2 ws ns e in f.0 ∙ ap (meant letter) (two_of ns f.1)

pub asks_three : (letter : ℕ) (ws : List (List ℕ)) (ns : List ℕ) → Some ns ≡ numbers_of 3 ws
    → by_words ((letter ∷ []) ∷ ws) ≡ meant letter (get_or ns 0 0 ∷ get_or ns 1 0 ∷ get_or ns 2 0 ∷ [])
asks_three letter ws ns e = let f = asks_with letter 3 ws ns e in f.0 ∙ ap (meant letter) (three_of ns f.1)

not_gathered : (letter n : ℕ) (ws : List (List ℕ)) (t u : Bool) → None ≡ cond (t && u) (Some (map value ws)) None → u ≡ eqb (0 + length ws) n → n ≡ takes letter
    → cond t (meant letter (map value ws)) Malformed ≡ Malformed
not_gathered letter n ws true true e q z = cc
not_gathered letter n ws true false e q z =
    let l = length-map ws value in
    let d = eqb-false (0 + length ws) n (sym q) in
    meant_other letter (map value ws) (λ k. absurd (omega (arith, l, d, z, k)))
not_gathered letter n ws false u e q z = refl

-- law: without as many as it takes the letter asks nothing
pub asks_nothing : (letter n : ℕ) (ws : List (List ℕ)) → None ≡ numbers_of n ws → n ≡ takes letter → by_words ((letter ∷ []) ∷ ws) ≡ Malformed
unfolding numbers_after
asks_nothing letter n ws e z = not_gathered letter n ws (all_numbers ws) (eqb (0 + length ws) n) e refl z

by_space : (vs : List ℕ) → meant space vs ≡ Malformed
by_space [] = refl
by_space (u ∷ []) = refl
by_space (u ∷ e ∷ []) = refl
by_space (s ∷ e ∷ n ∷ []) = refl
by_space (a ∷ b ∷ c ∷ d ∷ more) = refl

-- law: a letter, a space, and the numbers
pub letter_first : (line : List ℕ) → length line ≤ 63 → 2 ≤ length line → get_or line 1 0 ≡ 32
    → by_words ((get_or line 0 0 ∷ []) ∷ words (drop 2 line)) ≡ asked_by line
unfolding words
letter_first [] h k e = absurd (omega (arith, k))
letter_first (b ∷ []) h k e = absurd (omega (arith, k))
letter_first (a ∷ b ∷ bs) h k e = on (eqb a space)
    (λ t.
    let z : a ≡ 32 = eqb-true a space t in
    let n : by_words ((a ∷ []) ∷ words bs) ≡ Malformed = rw z (on (all_numbers (words bs)) (λ u. rw u (by_space (map value (words bs)))) (λ u. rw u refl)) in
    n ∙ sym (short (a ∷ b ∷ bs) h ∙ rw (eq-eqb b space e, t) refl))
    (λ f. sym (short (a ∷ b ∷ bs) h ∙ rw (eq-eqb b space e, f) refl))
