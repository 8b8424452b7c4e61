-- The book's header, by its parts.
use Rattle.std.specs.Prelude.{ℕ, ◌+◌, ◌*◌, List, [], ◌∷◌, ◌++◌}
use Rattle.pages.specs.Book.{word, Form}

-- how many bytes the length and the version have
abbrev pub head_bytes : ℕ
head_bytes = 5

-- the length and the version of a book of so many pairs
abbrev pub header_of : Form → ℕ → List ℕ
header_of f n = word (1 + f.per_row * n) ++ (f.version ∷ [])
