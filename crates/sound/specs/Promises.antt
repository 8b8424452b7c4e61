-- The check's two lines, which come first in the table of every call but set up, and the promises of set up and check, for every pool.
use Rattle.std.specs.Prelude.{ℕ, not, List, [], ◌∷◌, Result}
use Rattle.kinds.specs.declared.Refusal.{Refusal}
use Rattle.kinds.specs.declared.Refusal.TheVariants.{Length, Unsound}
use Rattle.kinds.specs.Promise.{Line, Promise, tested, behind}
use Rattle.plain.specs.Books.{promise, plain_set_up, plain_check}
use Rattle.pools.specs.Cells.{slots_of, book_of, fresh}
use Rattle.pools.specs.Test.{is_pool, is_sound}

-- 1: the pool's length is not 4(n + 1) with n 1 to 4,095
abbrev pub length_line : List ℕ → Line
length_line c = record { refusal = Length; when = not (is_pool c) }

-- 2: the pool is not sound
abbrev pub sound_line : List ℕ → Line
sound_line c = record { refusal = Unsound; when = not (is_sound c) }

-- the check's lines
abbrev pub check_lines : List ℕ → List Line
check_lines c = length_line c ∷ sound_line c ∷ []

-- the check's verdict: it passes where the pool is sound, or the first of the two that holds refuses
unfoldable pub verdict_of : List ℕ → Result (Unit {0}) Refusal
verdict_of c = tested (check_lines c)

-- a call on any cells: the check comes first
abbrev pub behind_check : List ℕ → Promise → Promise
behind_check c P = behind (check_lines c) P

-- set up meets only the first line; else every cell is a fresh pool's
unfoldable pub set_up : List ℕ → Promise
set_up c = behind (length_line c ∷ []) (promise plain_set_up 0 (fresh (slots_of c)) [])

-- the check says sound, or gives its verdict
unfoldable pub check : List ℕ → Promise
check c = behind_check c (promise (plain_check (book_of c)) 0 c [])
