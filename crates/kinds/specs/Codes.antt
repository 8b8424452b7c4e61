-- The numbers of the codes. What each says is 01's table.
use Rattle.std.specs.Prelude.{ℕ}
use Rattle.kinds.specs.declared.Refusal.{Refusal}
use Rattle.kinds.specs.declared.Refusal.TheVariants.{Length, Unsound, Backwards, Taken, Full, Missing, Other, NoStrip, Short, Malformed}

-- done; found; listing complete
abbrev pub done : ℕ
done = 0

-- smallest or largest: nothing matches
abbrev pub nothing : ℕ
nothing = 8

-- listing: more matches than room
abbrev pub more : ℕ
more = 10

-- 1: the pool's length is not 4(n + 1) with n 1 to 4,095
-- 2: the pool is not sound
-- 3: x0 > x1, v < u, or e < u
-- 4: insert: x is stored, with whatever y
-- 5: insert: no free slot
-- 6: delete: x is not stored
-- 7: delete: x is stored with another y
-- 9: a start, end, number or asked slot over 65,535, or start > end
-- 11: book: too few bytes
-- 12: script line malformed
abbrev pub number_of : Refusal → ℕ
number_of Length = 1
number_of Unsound = 2
number_of Backwards = 3
number_of Taken = 4
number_of Full = 5
number_of Missing = 6
number_of Other = 7
number_of NoStrip = 9
number_of Short = 11
number_of Malformed = 12
