-- A call of each kind that shows what the kind's promise asks: it is served on some cells, and answered otherwise on others.
use Rattle.std.specs.Prelude.{ℕ, ◌≡◌, ◌≢◌, true, false, List, [], ◌∷◌, replicate}
use Rattle.kinds.specs.Answer.{five}
use Rattle.pools.specs.Cells.{free_mark}
use Rattle.plain.specs.Plain.{limits}
use Rattle.runs.specs.Calls.{Named, Call, set_up, check, insert, delete, smallest_x, largest_x, smallest_y, list, opens, closes, first, last, earliest, covers, meets, contains, save, lent_by, play}
use Rattle.marked.specs.Wrong.{is_refusal, Kind, set_ups, inserts, deletes, smallest_xs, largest_xs, smallest_ys, listings, openings, closings, firsts, lasts, earliests, coverings, meetings, containings, checks, saves, kind_of, writes_of}

-- a pool of one slot with nothing stored
abbrev pub empty : List ℕ
empty = 1 ∷ 0 ∷ 1 ∷ 0 ∷ 0 ∷ 0 ∷ free_mark ∷ 0 ∷ []

-- the same with the pair [1, 0], which is the strip from 0 to 0 with the number 1
abbrev pub one : List ℕ
one = 1 ∷ 1 ∷ 0 ∷ 1 ∷ 1 ∷ 0 ∷ 0 ∷ 0 ∷ []

-- that strip, as a call names it
abbrev pub only : Named
only = record { start = 0; end = 0; number = 1 }

-- cells to be written to
abbrev pub room : List ℕ
room = 7 ∷ 7 ∷ []

-- a call, cells on which it is served, and cells on which it is answered otherwise
pub record Sample : Type 0 where
  pub call : Call
  pub served : List ℕ
  pub otherwise : List ℕ

-- a sample by its parts
abbrev pub sample_of : Call → List ℕ → List ℕ → Sample
sample_of k c d = record { call = k; served = c; otherwise = d }

-- a sample of each kind
abbrev pub sample : Kind → Sample
sample set_ups = sample_of set_up one []
sample inserts = sample_of (insert (record { x = 1; y = 0 })) empty one
sample deletes = sample_of (delete (record { x = 1; y = 0 })) one empty
sample smallest_xs = sample_of (smallest_x (limits 1 1 0)) one empty
sample largest_xs = sample_of (largest_x (limits 1 1 0)) one empty
sample smallest_ys = sample_of (smallest_y 1 1) one empty
sample listings = sample_of (list (limits 1 1 0) room) one empty
sample openings = sample_of (opens only) empty one
sample closings = sample_of (closes only) one empty
sample firsts = sample_of (first 0) one empty
sample lasts = sample_of (last 0 0) one empty
sample earliests = sample_of (earliest 0 0) one empty
sample coverings = sample_of (covers 0 room) one empty
sample meetings = sample_of (meets 0 0 room) one empty
sample containings = sample_of (contains 0 0 room) one empty
sample checks = sample_of check one []
sample saves = sample_of (save (replicate 13 7)) one []

-- what a kind's sample shows of its promise: it does not refuse everything, it does not always answer the same, and it writes where its kind does
pub record Shown (K : Kind) (s : Sample) : Type 0 where
  pub kind : kind_of s.call ≡ K
  pub serves : is_refusal (play s.served s.call).answer.outcome ≡ false
  pub differs : five (play s.served s.call).answer ≢ five (play s.otherwise s.call).answer
  pub writes : writes_of K ≡ true → (play s.served s.call).cells ≡ s.served → (play s.served s.call).lent ≡ lent_by s.call → ⊥
