-- 01's marked cases, P1 to P9, as one table: calls in order, each with the five numbers that it gives, and the cells where 01 gives them.
use Rattle.std.specs.Prelude.{ℕ, ◌+◌, ◌*◌, ◌≡◌, List, [], ◌∷◌, length, replicate}
use Rattle.kinds.specs.declared.Five.{Five}
use Rattle.kinds.specs.Answer.{five}
use Rattle.pools.specs.Cells.{per_slot, root_of, free_of, pair_at, left_at, right_at, free_mark}
use Rattle.plain.specs.Plain.{limits}
use Rattle.plain.specs.Strips.{number_of}
use Rattle.kinds.specs.Promise.{Result}
use Rattle.runs.specs.Calls.{Call, set_up, check, insert, delete, smallest_x, largest_x, smallest_y, list, opens, closes, first, covers, lent_by, play}

-- code, x, y, count listed, visits
abbrev pub numbers : (code x y count visits : ℕ) → Five
numbers code x y count visits = record { code = code; x = x; y = y; count = count; visits = visits }

-- a step of a case
pub data Step : Type 0 where
  -- the call gives these five numbers
  gives : (call : Call) (answer : Five) → Step
  -- and the slice that it was lent then holds these cells
  fills : (call : Call) (answer : Five) (lent : List ℕ) → Step
  -- this, read off the pool's cells, is that number
  reads : (of : List ℕ → ℕ) (number : ℕ) → Step
  -- the pool's cells are these
  holds : (cells : List ℕ) → Step

-- what is seen at a step: an answer's five numbers, a number, or cells
pub data Sight : Type 0 where
  the_answer : Five → Sight
  the_number : ℕ → Sight
  the_cells : List ℕ → Sight

-- what is seen, step by step, by the promises: each call works on the cells that the former left
abbrev pub sights : List Step → List ℕ → List Sight
sights [] c = []
sights (gives k a ∷ ss) c = let w : Result = play c k in the_answer (five w.answer) ∷ sights ss w.cells
sights (fills k a out ∷ ss) c = let w : Result = play c k in the_answer (five w.answer) ∷ the_cells w.lent ∷ sights ss w.cells
sights (reads f n ∷ ss) c = the_number (f c) ∷ sights ss c
sights (holds d ∷ ss) c = the_cells c ∷ sights ss c

-- what is to be seen
abbrev pub said : List Step → List Sight
said [] = []
said (gives k a ∷ ss) = the_answer a ∷ said ss
said (fills k a out ∷ ss) = the_answer a ∷ the_cells out ∷ said ss
said (reads f n ∷ ss) = the_number n ∷ said ss
said (holds d ∷ ss) = the_cells d ∷ said ss

-- a case, with its P-number
pub data Case : Type 0 where
  -- steps on a pool of so many slots, which is set up first
  played : (P slots : ℕ) (steps : List Step) → Case
  -- a pool of this length serves
  serves : (P length : ℕ) → Case
  -- a pool of this length gives 1
  refuses : (P length : ℕ) → Case

-- done, with nothing found and no visits
abbrev pub zeros : Five
zeros = numbers 0 0 0 0 0

-- the cells of a pool of n slots before set up: they may hold anything, and hold 77 here
abbrev pub lent_cells : ℕ → List ℕ
lent_cells n = replicate (per_slot * (n + 1)) 77

-- set up is done on any cells of this length, and check then says sound
pub record Serves (c : List ℕ) : Type 0 where
  pub set_up_done : five (play c set_up).answer ≡ zeros
  pub check_done : five (play (play c set_up).cells check).answer ≡ zeros

-- a call gives 1 and changes nothing that it was lent
pub record Refuses (c : List ℕ) (k : Call) : Type 0 where
  pub answer : five (play c k).answer ≡ numbers 1 0 0 0 0
  pub cells : (play c k).cells ≡ c
  pub lent : (play c k).lent ≡ lent_by k

-- a case holds: by its steps; or for all cells of its length, and for every call where that is refused
abbrev pub Holds : Case → Type 0
Holds (played P n ss) = sights (gives set_up zeros ∷ ss) (lent_cells n) ≡ said (gives set_up zeros ∷ ss)
Holds (serves P n) = (c : List ℕ) → length c ≡ n → Serves c
Holds (refuses P n) = (c : List ℕ) → length c ≡ n → (k : Call) → Refuses c k

-- the calls by their numbers
abbrev pub inserts : (x y : ℕ) → Call
inserts x y = insert (record { x = x; y = y })

abbrev pub deletes : (x y : ℕ) → Call
deletes x y = delete (record { x = x; y = y })

abbrev pub smallest_x_in : (x0 x1 y1 : ℕ) → Call
smallest_x_in x0 x1 y1 = smallest_x (limits x0 x1 y1)

abbrev pub largest_x_in : (x0 x1 y1 : ℕ) → Call
largest_x_in x0 x1 y1 = largest_x (limits x0 x1 y1)

abbrev pub lists_in : (x0 x1 y1 : ℕ) (out : List ℕ) → Call
lists_in x0 x1 y1 out = list (limits x0 x1 y1) out

abbrev pub opens_strip : (start end number : ℕ) → Call
opens_strip start end number = opens (record { start = start; end = end; number = number })

abbrev pub closes_strip : (start end number : ℕ) → Call
closes_strip start end number = closes (record { start = start; end = end; number = number })

-- the largest number of 32 bits
abbrev pub largest32 : ℕ
largest32 = 4294967295

-- P1 [5, 1], [2147483648, 2]: largest x in 0..2147483648, y ≤ 9 is 2147483648, 2 visits
abbrev pub halfway : List Step
halfway =
    gives (inserts 5 1) zeros
    ∷ gives (inserts 2147483648 2) zeros
    ∷ gives (largest_x_in 0 2147483648 9) (numbers 0 2147483648 2 0 2)
    ∷ []

-- P2 [9, 2], [5, 3]: insert [5, 1] gives 4
abbrev pub repeated : List Step
repeated =
    gives (inserts 9 2) zeros
    ∷ gives (inserts 5 3) zeros
    ∷ gives (inserts 5 1) (numbers 4 0 0 0 0)
    ∷ []

-- P3 root [3, 4]; smallest y in 0..9 is [3, 4]
abbrev pub tie : List Step
tie =
    reads (λ c. (pair_at c (root_of c)).x) 3
    ∷ reads (λ c. (pair_at c (root_of c)).y) 4
    ∷ gives (smallest_y 0 9) (numbers 0 3 4 0 1)
    ∷ []

-- P4 n = 1 with [1, 1]: insert [2, 2] gives 5, [1, 9] gives 4; delete [1, 2] gives 7, [3, 1] gives 6
abbrev pub full_pool : List Step
full_pool =
    gives (inserts 1 1) zeros
    ∷ gives (inserts 2 2) (numbers 5 0 0 0 0)
    ∷ gives (inserts 1 9) (numbers 4 0 0 0 0)
    ∷ gives (deletes 1 2) (numbers 7 0 0 0 0)
    ∷ gives (deletes 3 1) (numbers 6 0 0 0 0)
    ∷ []

-- P6 [0, 0] and [4294967295, 4294967295] are stored and found, by each question
abbrev pub both_ends : List Step
both_ends =
    gives (inserts 0 0) zeros
    ∷ gives (inserts largest32 largest32) zeros
    ∷ gives (smallest_x_in 0 0 0) (numbers 0 0 0 0 1)
    ∷ gives (smallest_x_in largest32 largest32 largest32) (numbers 0 largest32 largest32 0 2)
    ∷ gives (largest_x_in 0 0 0) (numbers 0 0 0 0 1)
    ∷ gives (largest_x_in largest32 largest32 largest32) (numbers 0 largest32 largest32 0 2)
    ∷ gives (smallest_y 0 0) (numbers 0 0 0 0 1)
    ∷ gives (smallest_y largest32 largest32) (numbers 0 largest32 largest32 0 2)
    ∷ fills (lists_in 0 largest32 largest32 (7 ∷ 7 ∷ 7 ∷ 7 ∷ [])) (numbers 0 0 0 2 2) (0 ∷ 0 ∷ largest32 ∷ largest32 ∷ [])
    ∷ []

-- the three script strips, opened in that order, and then
abbrev pub script : List Step → List Step
script ss = gives (opens_strip 10 20 1) zeros ∷ gives (opens_strip 5 20 2) zeros ∷ gives (opens_strip 12 12 3) zeros ∷ ss

-- P7 slot 20 is covered by two, slot 21 by none, slot 4 by none
abbrev pub covered : List Step
covered = script (
    fills (covers 20 (7 ∷ 7 ∷ 7 ∷ 7 ∷ 7 ∷ [])) (numbers 0 0 0 2 3) (1310722 ∷ 5 ∷ 1310721 ∷ 10 ∷ 7 ∷ [])
    ∷ gives (first 20) (numbers 0 1310721 10 0 3)
    ∷ fills (covers 21 (7 ∷ 7 ∷ [])) (numbers 0 0 0 0 3) (7 ∷ 7 ∷ [])
    ∷ gives (first 21) (numbers 8 0 0 0 3)
    ∷ fills (covers 4 (7 ∷ 7 ∷ [])) (numbers 0 0 0 0 1) (7 ∷ 7 ∷ [])
    ∷ gives (first 4) (numbers 8 0 0 0 1)
    ∷ [])

-- the cells with the three strips in a pool of five slots: the header, then x, y, left, right of each
abbrev pub three : List ℕ
three =
    1 ∷ 1 ∷ 4 ∷ 3
    ∷ 1310722 ∷ 5 ∷ 2 ∷ 0
    ∷ 1310721 ∷ 10 ∷ 3 ∷ 0
    ∷ 786435 ∷ 12 ∷ 0 ∷ 0
    ∷ 0 ∷ 0 ∷ free_mark ∷ 5
    ∷ 0 ∷ 0 ∷ free_mark ∷ 0
    ∷ []

-- P8 same strips, closing number 1: slot 2 holds number 3, slot 3 is first free, pointing to 4. Opening it again restores all cells
abbrev pub closed : List Step
closed = script (
    holds three
    ∷ gives (closes_strip 10 20 1) zeros
    ∷ reads (λ c. number_of (pair_at c 2)) 3
    ∷ reads free_of 3
    ∷ reads (λ c. left_at c 3) free_mark
    ∷ reads (λ c. right_at c 3) 4
    ∷ gives (opens_strip 10 20 1) zeros
    ∷ holds three
    ∷ [])

-- P9 room 0 with a match gives 10, no cell written; with no match 0
abbrev pub no_room : List Step
no_room =
    gives (inserts 1 1) zeros
    ∷ fills (lists_in 0 9 9 []) (numbers 10 0 0 0 1) []
    ∷ fills (lists_in 0 9 9 (7 ∷ [])) (numbers 10 0 0 0 1) (7 ∷ [])
    ∷ fills (lists_in 2 9 9 []) (numbers 0 0 0 0 1) []
    ∷ fills (lists_in 2 9 9 (7 ∷ [])) (numbers 0 0 0 0 1) (7 ∷ [])
    ∷ holds (1 ∷ 1 ∷ 0 ∷ 1 ∷ 1 ∷ 1 ∷ 0 ∷ 0 ∷ [])
    ∷ []

-- the table; P3 in either order, P5 by a row for each length
abbrev pub cases : List Case
cases =
    played 1 2 halfway
    ∷ played 2 3 repeated
    ∷ played 3 2 (gives (inserts 7 4) zeros ∷ gives (inserts 3 4) zeros ∷ tie)
    ∷ played 3 2 (gives (inserts 3 4) zeros ∷ gives (inserts 7 4) zeros ∷ tie)
    ∷ played 4 1 full_pool
    ∷ serves 5 8
    ∷ serves 5 16384
    ∷ refuses 5 4
    ∷ refuses 5 7
    ∷ refuses 5 16388
    ∷ played 6 2 both_ends
    ∷ played 7 5 covered
    ∷ played 8 5 closed
    ∷ played 9 1 no_room
    ∷ []
