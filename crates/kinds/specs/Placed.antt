-- How code writes into a lent slice: values are stored one after the other from a place on.
use Rattle.std.specs.Prelude.{ℕ, List}
use Rattle.std.proofs.lemmas.List.Edits.{sets}

-- the values vs stored from place `at` on
unfoldable pub placed : List ℕ → ℕ → List ℕ → List ℕ
placed o at vs = sets o at vs
