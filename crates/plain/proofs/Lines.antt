-- The codes of each call's lines, in 01's order: 1, 2, 9, 3, 4, 5, 6, 7. The check's 1 and 2 come before them; the book's 11 is in pages.
-- Nothing is assumed of the list.
use Prim.Native.Nat.{ℕ}
use mathlib.Core.Path.{◌≡◌, refl}
use mathlib.Core.List.{List, [], ◌∷◌, map}
use Rattle.kinds.specs.declared.Limits.{Limits}
use Rattle.kinds.specs.declared.Pair.{Pair}
use Rattle.kinds.specs.Codes.{number_of}
use Rattle.kinds.specs.Promise.{Line}
use Rattle.plain.specs.Books.{Book, Plainly, plain_insert, plain_delete, plain_smallest_x, plain_largest_x, plain_smallest_y, plain_listing}
use Rattle.plain.specs.Strips.{plain_open, plain_close, plain_first, plain_last, plain_earliest, plain_covers, plain_meets, plain_contains}

-- the codes of a call's lines
abbrev pub codes_of : Plainly → List ℕ
codes_of k = map (λ (l : Line). number_of l.refusal) k.lines

module _ (b : Book) where
  pub insert_codes : (p : Pair) → codes_of (plain_insert p b) ≡ 4 ∷ 5 ∷ []
  unfolding plain_insert
  insert_codes p = refl

  pub delete_codes : (p : Pair) → codes_of (plain_delete p b) ≡ 6 ∷ 7 ∷ []
  unfolding plain_delete
  delete_codes p = refl

  pub smallest_x_codes : (q : Limits) → codes_of (plain_smallest_x q b) ≡ 3 ∷ []
  unfolding plain_smallest_x
  smallest_x_codes q = refl

  pub largest_x_codes : (q : Limits) → codes_of (plain_largest_x q b) ≡ 3 ∷ []
  unfolding plain_largest_x
  largest_x_codes q = refl

  pub smallest_y_codes : (x0 x1 : ℕ) → codes_of (plain_smallest_y x0 x1 b) ≡ 3 ∷ []
  unfolding plain_smallest_y
  smallest_y_codes x0 x1 = refl

  pub listing_codes : (q : Limits) (room : ℕ) → codes_of (plain_listing q room b) ≡ 3 ∷ []
  unfolding plain_listing
  listing_codes q room = refl

  pub open_codes : (start end number : ℕ) → codes_of (plain_open start end number b) ≡ 9 ∷ 4 ∷ 5 ∷ []
  unfolding plain_open
  open_codes start end number = refl

  pub close_codes : (start end number : ℕ) → codes_of (plain_close start end number b) ≡ 9 ∷ 6 ∷ 7 ∷ []
  unfolding plain_close
  close_codes start end number = refl

  pub first_codes : (u : ℕ) → codes_of (plain_first u b) ≡ 9 ∷ []
  unfolding plain_first
  first_codes u = refl

  pub last_codes : (u e : ℕ) → codes_of (plain_last u e b) ≡ 9 ∷ 3 ∷ []
  unfolding plain_last
  last_codes u e = refl

  pub earliest_codes : (u v : ℕ) → codes_of (plain_earliest u v b) ≡ 9 ∷ 3 ∷ []
  unfolding plain_earliest
  earliest_codes u v = refl

  pub covers_codes : (u room : ℕ) → codes_of (plain_covers u room b) ≡ 9 ∷ []
  unfolding plain_covers
  covers_codes u room = refl

  pub meets_codes : (u v room : ℕ) → codes_of (plain_meets u v room b) ≡ 9 ∷ 3 ∷ []
  unfolding plain_meets
  meets_codes u v room = refl

  pub contains_codes : (u v room : ℕ) → codes_of (plain_contains u v room b) ≡ 9 ∷ 3 ∷ []
  unfolding plain_contains
  contains_codes u v room = refl
