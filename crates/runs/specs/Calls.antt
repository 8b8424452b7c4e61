-- Every call: what it promises over cells, and what it is over a plain list.
use Rattle.std.specs.Prelude.{ℕ, ◌<◌, ◌≡◌, List, [], ◌∷◌}
use Rattle.kinds.specs.declared.Limits.{Limits}
use Rattle.kinds.specs.declared.Pair.{Pair}
use Rattle.kinds.specs.Promise.{Result, Promise, given}
use Rattle.plain.specs.Books.{Book, Plainly, plain_set_up, plain_check, plain_insert, plain_delete, plain_smallest_x, plain_largest_x, plain_smallest_y, plain_listing}
use Rattle.plain.specs.Strips.{strip_pair, plain_open, plain_close, plain_first, plain_last, plain_earliest, plain_covers, plain_meets, plain_contains}
use Rattle.walks.specs.Walks.{room_of}
use Rattle.pages.specs.Book.{version_one, plain_save}
use Rattle.sound.specs.Promises as check_first
use Rattle.sound.specs.Promises.{behind_check}
use Rattle.promises.specs.Promises.{insertion, deletion, smallest_x_asked, largest_x_asked, smallest_y_asked, listing_asked, opening, closing, first_to_end, last_to_end, earliest_start, list_covers, list_meets, list_contains, saved}

-- a strip as a call names it
pub record Named : Type 0 where
  pub start : ℕ
  pub end : ℕ
  pub number : ℕ

-- the pair that it is stored as
abbrev pub pair_of : Named → Pair
pair_of n = strip_pair n.start n.end n.number

-- the calls over a pool, the strip calls, and writing the book; a listing and a list of strips are lent a slice, and the book bytes
pub data Call : Type 0 where
  set_up check : Call
  insert delete : Pair → Call
  smallest_x largest_x : Limits → Call
  smallest_y : (x0 x1 : ℕ) → Call
  list : Limits → (out : List ℕ) → Call
  opens closes : Named → Call
  first : (u : ℕ) → Call
  last : (u e : ℕ) → Call
  earliest : (u v : ℕ) → Call
  covers : (u : ℕ) (out : List ℕ) → Call
  meets contains : (u v : ℕ) (out : List ℕ) → Call
  save : (bytes : List ℕ) → Call

-- the call over cells
unfoldable pub promised : List ℕ → Call → Promise
promised c set_up = check_first.set_up c
promised c check = check_first.check c
promised c (insert p) = behind_check c (insertion c p)
promised c (delete p) = behind_check c (deletion c p)
promised c (smallest_x q) = behind_check c (smallest_x_asked c q)
promised c (largest_x q) = behind_check c (largest_x_asked c q)
promised c (smallest_y x0 x1) = behind_check c (smallest_y_asked c x0 x1)
promised c (list q out) = behind_check c (listing_asked c q out)
promised c (opens n) = behind_check c (opening c n.start n.end n.number)
promised c (closes n) = behind_check c (closing c n.start n.end n.number)
promised c (first u) = behind_check c (first_to_end c u)
promised c (last u e) = behind_check c (last_to_end c u e)
promised c (earliest u v) = behind_check c (earliest_start c u v)
promised c (covers u out) = behind_check c (list_covers c u out)
promised c (meets u v out) = behind_check c (list_meets c u v out)
promised c (contains u v out) = behind_check c (list_contains c u v out)
promised c (save bytes) = behind_check c (saved c bytes)

-- the same call over a plain list
unfoldable pub plainly : Call → Book → Plainly
plainly set_up b = plain_set_up
plainly check b = plain_check b
plainly (insert p) b = plain_insert p b
plainly (delete p) b = plain_delete p b
plainly (smallest_x q) b = plain_smallest_x q b
plainly (largest_x q) b = plain_largest_x q b
plainly (smallest_y x0 x1) b = plain_smallest_y x0 x1 b
plainly (list q out) b = plain_listing q (room_of out) b
plainly (opens n) b = plain_open n.start n.end n.number b
plainly (closes n) b = plain_close n.start n.end n.number b
plainly (first u) b = plain_first u b
plainly (last u e) b = plain_last u e b
plainly (earliest u v) b = plain_earliest u v b
plainly (covers u out) b = plain_covers u (room_of out) b
plainly (meets u v out) b = plain_meets u v (room_of out) b
plainly (contains u v out) b = plain_contains u v (room_of out) b
plainly (save bytes) b = plain_save version_one bytes b

-- the slice that a call is lent besides the pool, as it was passed; none: no cells
abbrev pub lent_by : Call → List ℕ
lent_by set_up = []
lent_by check = []
lent_by (insert p) = []
lent_by (delete p) = []
lent_by (smallest_x q) = []
lent_by (largest_x q) = []
lent_by (smallest_y x0 x1) = []
lent_by (list q out) = out
lent_by (opens n) = []
lent_by (closes n) = []
lent_by (first u) = []
lent_by (last u e) = []
lent_by (earliest u v) = []
lent_by (covers u out) = out
lent_by (meets u v out) = out
lent_by (contains u v out) = out
lent_by (save bytes) = bytes

-- what a call gives on these cells, by its promise
abbrev pub play : List ℕ → Call → Result
play c k = given (promised c k) c (lent_by k)

-- the x of an inserted pair is of 32 bits
abbrev pub SmallX : Call → Type 0
SmallX k = (p : Pair) → k ≡ insert p → p.x < 4294967296

-- P holds of every member of a list
abbrev pub Each : {K : Type 0} → (K → Type 0) → List K → Type 0
Each P [] = Unit {0}
Each P (k ∷ ks) = P k × Each P ks
