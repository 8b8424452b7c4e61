-- What can be asked has exactly one line. It assumes numbers of 32 bits; a line that is read has no others.
use Prim.Native.Nat.{ℕ, ◌*◌, ◌≤◌}
use mathlib.Core.Path.{◌≡◌, refl, sym, ap, ◌∙◌}
use mathlib.Core.Bool.{true}
use mathlib.Core.List.{List, [], ◌∷◌, ◌++◌, map}
use native.Mathlib.Omega.{arith}
use lib.Dec.{eqb, ltb}
use lib.ListN.{length, length-append}
use borrow.Author.Tests.{eqb-true, eqb-false, ne_eqb, le-ltb}
use Rattle.kinds.proofs.Tests.{on, both, and_true}
use Rattle.line.specs.declared.Asked.{Asked}
use Rattle.line.specs.declared.Asked.TheVariants.{Open, Close, First, Last, Covers, Malformed}
use Rattle.line.specs.Line.{space, led, words, all_numbers, meant, by_words, asked_by}
use Rattle.decimal.specs.Decimal.{is_digit, all_digits, value, is_number}
use Rattle.decimal.proofs.Digits.{digit_range}
use Rattle.line.proofs.Words.{some_word}
use Rattle.text.specs.Text.{decimal}
use Rattle.std.proofs.Common.{append-nil}
use Rattle.text.proofs.Printing.{item_few}
use Rattle.text.proofs.Decimal.{decimal_value, decimal_number, decimal_digits, number_decimal}
use Rattle.script.specs.Spelled.{spaced, numbers_asked, spelled, AllFit}

word_then : (w t : List ℕ) → all_digits w ≡ true → words (w ++ (space ∷ t)) ≡ w ∷ words t
unfolding words all_digits
word_then [] t h = refl
word_then (b ∷ w) t h =
    let e = both (is_digit b) (all_digits w) h in
    let r = digit_range b e.0 in
    rw (ne_eqb b space (λ q. absurd (omega (arith, q, r.0))), word_then w t e.1) refl

word_alone : (w : List ℕ) → all_digits w ≡ true → words w ≡ w ∷ []
unfolding words all_digits
word_alone [] h = refl
word_alone (b ∷ w) h =
    let e = both (is_digit b) (all_digits w) h in
    let r = digit_range b e.0 in
    rw (ne_eqb b space (λ q. absurd (omega (arith, q, r.0))), word_alone w e.1) refl

-- the words behind a space
spaced_words : (n : ℕ) (ns : List ℕ) → words (decimal n ++ spaced ns) ≡ decimal n ∷ map decimal ns
unfolding spaced
spaced_words n [] = rw (append-nil (decimal n)) (word_alone (decimal n) (decimal_digits n))
spaced_words n (m ∷ ns) = word_then (decimal n) (decimal m ++ spaced ns) (decimal_digits n) ∙ ap (λ ws. decimal n ∷ ws) (spaced_words m ns)

line_words : (letter : ℕ) (ns : List ℕ) → (letter ≡ space → ⊥) → words (letter ∷ spaced ns) ≡ (letter ∷ []) ∷ map decimal ns
unfolding words spaced
line_words letter [] d = rw (ne_eqb letter space d) refl
line_words letter (n ∷ ns) d = rw (ne_eqb letter space d, spaced_words n ns) refl

all_numbers_lem : (ns : List ℕ) → AllFit ns → all_numbers (map decimal ns) ≡ true
all_numbers_lem [] h = refl
all_numbers_lem (n ∷ ns) h = and_true (decimal_number n h.0) (all_numbers_lem ns h.1)

all_values : (ns : List ℕ) → AllFit ns → map value (map decimal ns) ≡ ns
all_values [] h = refl
all_values (n ∷ ns) h = rw (decimal_value n h.0, all_values ns h.1) refl

spaced_few : (ns : List ℕ) → length (spaced ns) ≤ 11 * length ns
unfolding spaced
spaced_few [] = omega arith
spaced_few (n ∷ ns) =
    let i = item_few n space in
    let a = length-append (decimal n) (space ∷ []) in
    let l = length-append (decimal n) (spaced ns) in
    let h = spaced_few ns in
    omega arith

reads : (letter : ℕ) (ns : List ℕ) → (letter ≡ space → ⊥) → AllFit ns → length ns ≤ 5 → asked_by (letter ∷ spaced ns) ≡ meant letter ns
unfolding asked_by
reads letter ns d h k =
    let f = spaced_few ns in
    simp (le-ltb 63 (length (letter ∷ spaced ns)) (omega arith), line_words letter ns d, all_numbers_lem ns h, all_values ns h)

-- law: what is asked with numbers of 32 bits is read from its line
pub spelled_read : (k : Asked) → AllFit (numbers_asked k) → asked_by (spelled k) ≡ k
spelled_read (Open start end number) h = reads 111 (start ∷ end ∷ number ∷ []) (eqb-false 111 space refl) h (omega arith)
spelled_read (Close start end number) h = reads 99 (start ∷ end ∷ number ∷ []) (eqb-false 99 space refl) h (omega arith)
spelled_read (First u) h = reads 102 (u ∷ []) (eqb-false 102 space refl) h (omega arith)
spelled_read (Last u e) h = reads 108 (u ∷ e ∷ []) (eqb-false 108 space refl) h (omega arith)
spelled_read (Covers u) h = reads 97 (u ∷ []) (eqb-false 97 space refl) h (omega arith)
spelled_read Malformed h = reads 0 [] (eqb-false 0 space refl) h (omega arith)

-- words, put together again
joined : List (List ℕ) → List ℕ
joined [] = []
joined (w ∷ []) = w
joined (w ∷ v ∷ ws) = w ++ (space ∷ joined (v ∷ ws))

joined_led : (b : ℕ) (ws : List (List ℕ)) → joined (led b ws) ≡ b ∷ joined ws
unfolding joined
joined_led b [] = refl
joined_led b (w ∷ []) = refl
joined_led b (w ∷ v ∷ ws) = refl

joined_space : (ws : List (List ℕ)) → (ws ≡ [] → ⊥) → joined ([] ∷ ws) ≡ space ∷ joined ws
unfolding joined
joined_space [] d = absurd (d refl)
joined_space (w ∷ ws) d = refl

joined_words : (l : List ℕ) → joined (words l) ≡ l
unfolding words joined
joined_words [] = refl
joined_words (b ∷ l) = on (eqb b space)
    (λ t. let z = eqb-true b space t in rw t (joined_space (words l) (some_word l) ∙ rw (joined_words l, z) refl))
    (λ f. rw f (joined_led b (words l) ∙ ap (λ v. b ∷ v) (joined_words l)))

joined_numbers : (w : List ℕ) (ns : List (List ℕ)) → all_numbers ns ≡ true → joined (w ∷ ns) ≡ w ++ spaced (map value ns)
unfolding joined spaced
joined_numbers w [] h = sym (append-nil w)
joined_numbers w (v ∷ ns) h =
    let e = both (is_number v) (all_numbers ns) h in
    let z = number_decimal v e.0 in
    ap (λ u. w ++ (space ∷ u)) (joined_numbers v ns e.1 ∙ ap (λ u. u ++ spaced (map value ns)) z)

-- k is asked, and is no malformed line
module _ (k : Asked) (d : k ≡ Malformed → ⊥) where
  only : {C : Type 0} → Malformed ≡ k → C
  only e = absurd (d (sym e))

  one_by : (letter u : ℕ) → meant letter (u ∷ []) ≡ k → letter ∷ spaced (u ∷ []) ≡ spelled k
  one_by letter u e = on (eqb letter 102)
      (λ t. let z = eqb-true letter 102 t in let f = rw t at e in rw (← f, z) refl)
      (λ f. on (eqb letter 97)
      (λ t. let z = eqb-true letter 97 t in let g = rw (f, t) at e in rw (← g, z) refl)
      (λ g. only (rw (f, g) at e)))

  two_by : (letter u v : ℕ) → meant letter (u ∷ v ∷ []) ≡ k → letter ∷ spaced (u ∷ v ∷ []) ≡ spelled k
  two_by letter u v e = on (eqb letter 108)
      (λ t. let z = eqb-true letter 108 t in let f = rw t at e in rw (← f, z) refl)
      (λ f. only (rw f at e))

  three_by : (letter s t n : ℕ) → meant letter (s ∷ t ∷ n ∷ []) ≡ k → letter ∷ spaced (s ∷ t ∷ n ∷ []) ≡ spelled k
  three_by letter s t n e = on (eqb letter 111)
      (λ o. let z = eqb-true letter 111 o in let f = rw o at e in rw (← f, z) refl)
      (λ f. on (eqb letter 99)
      (λ o. let z = eqb-true letter 99 o in let g = rw (f, o) at e in rw (← g, z) refl)
      (λ g. only (rw (f, g) at e)))

  meant_by : (letter : ℕ) (vs : List ℕ) → meant letter vs ≡ k → letter ∷ spaced vs ≡ spelled k
  meant_by letter [] e = only e
  meant_by letter (u ∷ []) e = one_by letter u e
  meant_by letter (u ∷ v ∷ []) e = two_by letter u v e
  meant_by letter (s ∷ t ∷ n ∷ []) e = three_by letter s t n e
  meant_by letter (a ∷ b ∷ c ∷ f ∷ more) e = only e

  words_by : (ws : List (List ℕ)) → by_words ws ≡ k → joined ws ≡ spelled k
  words_by [] e = only e
  words_by ([] ∷ ns) e = only e
  words_by ((letter ∷ []) ∷ ns) e = on (all_numbers ns)
      (λ t. joined_numbers (letter ∷ []) ns t ∙ meant_by letter (map value ns) (rw t at e))
      (λ f. only (rw f at e))
  words_by ((a ∷ b ∷ more) ∷ ns) e = only e

  -- law: no other line is read as it
  pub read_spelled : (l : List ℕ) → asked_by l ≡ k → l ≡ spelled k
  unfolding asked_by
  read_spelled l e = on (ltb 63 (length l))
      (λ t. only (simp t at e))
      (λ f. sym (joined_words l) ∙ words_by (words l) (simp f at e))
