-- The words of a line, and the numbers that they are. Nothing is assumed of the line.
use Prim.Native.Nat.{ℕ, suc, ◌+◌, ◌-◌, ◌≤◌, ◌<◌}
use mathlib.Core.Path.{◌≡◌, refl, ◌∙◌}
use mathlib.Core.Bool.{Bool, true, false, true≢false, cond, ◌&&◌}
use mathlib.Core.List.{List, [], ◌∷◌, ◌++◌, map}
use native.Mathlib.Omega.{arith}
use lib.Dec.{eqb, ltb}
use lib.ListN.{length, take, drop, set, length-set, length-append, length-take, length-drop}
use Rattle.std.specs.Prelude.{Option, Some, None, position}
use Rattle.std.specs.List.{position_or_len}
use Rattle.std.specs.Borrow.{Bor}
use Rattle.std.proofs.Common.{append_assoc, append-nil}
use lib.Seq.{take_all}
use Rattle.std.proofs.lemmas.List.{take_more_set}
use borrow.Author.Tests.{ltb-true, ltb-false, eq-eqb, ne_eqb}
use Rattle.kinds.proofs.Tests.{on}
use Rattle.line.specs.Line.{space, led, words, all_numbers}
use Rattle.decimal.specs.Decimal.{value, is_number}
use Rattle.line.specs.Reading.{words_in, numbers_after, numbers_of}
use Rattle.decimal.specs.Reading.{number_if, number_in}

-- the bytes before the first space
abbrev pub word_length : List ℕ → ℕ
word_length t = position_or_len (λ b. eqb b space) t

-- law: a text without a space is one word
last_word : (t : List ℕ) → length t ≤ word_length t → words t ≡ t ∷ []
unfolding words
last_word [] h = refl
last_word (b ∷ bs) h = on (eqb b space)
    (λ e. absurd (let k = rw e at h in omega (arith, k)))
    (λ e. let k = rw e at h in rw e (rw (last_word bs (omega (arith, k))) refl))

-- law: with a space, the first word and those behind it
more_words : (t : List ℕ) → word_length t < length t → words t ≡ take (word_length t) t ∷ words (drop (suc (word_length t)) t)
unfolding words
more_words [] h = absurd (omega (arith, h))
more_words (b ∷ bs) h = on (eqb b space)
    (λ e. rw e refl)
    (λ e.
    let k = rw e at h in
    let z : 1 + word_length bs ≡ suc (word_length bs) = omega arith in
    rw e (rw z (rw (more_words bs (omega (arith, k))) refl)))

found_none : (t : Bool) (n : ℕ) → None ≡ cond t (Some n) None → t ≡ false
found_none true n e = cc
found_none false n e = refl

found_some : (t : Bool) (n k : ℕ) → Some k ≡ cond t (Some n) None → (t ≡ true) × (k ≡ n)
found_some true n k e = (refl, cc)
found_some false n k e = (cc, cc)

-- law: where no space is found
pub one_word : (t : List ℕ) → None ≡ position (λ b. eqb b space) t → words t ≡ t ∷ []
one_word t e = last_word t (ltb-false (word_length t) (length t) (found_none (ltb (word_length t) (length t)) (word_length t) e))

-- law: where a space is found
pub some_words : (t : List ℕ) (n : ℕ) → Some n ≡ position (λ b. eqb b space) t → words t ≡ take n t ∷ words (drop (n + 1) t)
some_words t n e =
    let f = found_some (ltb (word_length t) (length t)) (word_length t) n e in
    let z : n + 1 ≡ suc n = omega arith in
    rw (z, f.1) (more_words t (ltb-true (word_length t) (length t) f.0))

-- law: what is left of a text, up to its end
pub the_rest : (k : ℕ) (t : List ℕ) → take (length t - k) (drop k t) ≡ drop k t
the_rest k t = let h = length-drop k t in take_all (length t - k) (drop k t) (omega arith)

led_some : (b : ℕ) (ws : List (List ℕ)) → led b ws ≡ [] → ⊥
led_some b [] e = true≢false cc
led_some b (w ∷ ws) e = true≢false cc

-- law: there is always a word
pub some_word : (u : List ℕ) → words u ≡ [] → ⊥
unfolding words
some_word [] e = true≢false cc
some_word (b ∷ bs) e = on (eqb b space) (λ t. let k = rw t at e in true≢false cc) (λ f. led_some b (words bs) (rw f at e))

some_in : (ws : List (List ℕ)) → (ws ≡ [] → ⊥) → 1 ≤ length ws
some_in [] d = absurd (d refl)
some_in (w ∷ ws) d = omega arith

some_words_in : (u : List ℕ) → 1 ≤ length (words u)
some_words_in u = some_in (words u) (some_word u)

and_none : (b : Bool) → (b && false) ≡ false
and_none true = refl
and_none false = refl

is_one : (ok : Bool) (n a : ℕ) → Some a ≡ number_if ok n → (ok ≡ true) × (a ≡ n)
is_one true n a e = (refl, cc)
is_one false n a e = (cc, cc)

is_none : (ok : Bool) (n : ℕ) → None ≡ number_if ok n → ok ≡ false
is_none true n e = cc
is_none false n e = refl

-- what stays so at each word: the numbers so far and those that are left are those of the text
pub record Gathers (n : ℕ) (text : List ℕ) (numbers : List ℕ) (rest : Option (Bor (List ℕ))) (i : ℕ) : Type 0 where
  pub room : length numbers ≡ n
  pub same : numbers_after n (take i numbers) (words_in rest) ≡ numbers_of n (words text)

module _ (n : ℕ) (text numbers : List ℕ) (rest : Option (Bor (List ℕ))) (i : ℕ) (G : Gathers n text numbers rest i) where
  -- law: the words end too soon
  pub too_few_words : rest ≡ None → i < n → None ≡ numbers_of n (words text)
  unfolding numbers_after
  too_few_words e h =
      let s = G.same in
      let r = G.room in
      let l = length-take i numbers in
      let d : eqb (length (take i numbers) + 0) n ≡ false = ne_eqb (length (take i numbers) + 0) n (λ q. absurd (omega (arith, q))) in
      simp (e, d) at s

  -- law: the last number was the last word
  pub all_words : rest ≡ None → n ≤ i → Some numbers ≡ numbers_of n (words text)
  unfolding numbers_after
  all_words e h =
      let s = G.same in
      let r = G.room in
      let l = length-take i numbers in
      let w : take i numbers ≡ numbers = take_all i numbers (omega arith) in
      let q : eqb (length numbers + 0) n ≡ true = eq-eqb (length numbers + 0) n (omega arith) in
      simp (e, w, q, append-nil) at s

  module _ (t : Bor (List ℕ)) (et : rest ≡ Some t) where
    -- law: there are more words
    pub too_many_words : n ≤ i → None ≡ numbers_of n (words text)
    unfolding numbers_after
    too_many_words h =
        let s = G.same in
        let r = G.room in
        let l = length-take i numbers in
        let w = some_words_in t.now in
        let d : eqb (length (take i numbers) + length (words t.now)) n ≡ false = ne_eqb (length (take i numbers) + length (words t.now)) n (λ q. absurd (omega (arith, q))) in
        simp (et, d, and_none (all_numbers (words t.now))) at s

    module _ (w : List ℕ) (more : Option (Bor (List ℕ))) (ew : words t.now ≡ w ∷ words_in more) where
      -- law: a word that is no number
      pub not_a_number : None ≡ number_in w → None ≡ numbers_of n (words text)
      unfolding number_in numbers_after
      not_a_number e =
          let f = is_none (is_number w) (value w) e in
          let s = G.same in
          simp (et, ew, f) at s

      -- law: one number more
      pub one_more : (v : ℕ) → Some v ≡ number_in w → i < n → Gathers n text (set numbers i v) more (i + 1)
      unfolding number_in numbers_after
      one_more v e h =
          let f = is_one (is_number w) (value w) v e in
          let s = G.same in
          let r = G.room in
          let m = take_more_set numbers i v (omega (arith, h)) in
          let ws = words_in more in
          let l = length-append (take i numbers) (v ∷ []) in
          let q : length (take i numbers ++ (v ∷ [])) + length ws ≡ length (take i numbers) + length (w ∷ ws) = omega (arith, l) in
          let a : (take i numbers ++ (v ∷ [])) ++ map value ws ≡ take i numbers ++ (v ∷ map value ws) = append_assoc (take i numbers) (v ∷ []) (map value ws) in
          record {
            room = length-set numbers i v ∙ r;
            same = rw (m, q, a, f.1) (simp (et, ew, f.0) at s);
          }
