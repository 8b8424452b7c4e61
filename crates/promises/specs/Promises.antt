-- What each call promises on a pool that has been checked: it refuses and ends as the same call over the pool's plain list; the visits are the
-- walk's, the cells those after the change, and a listing is written in the walk's order.
use Rattle.std.specs.Prelude.{ℕ, ◌+◌, ◌*◌, List, [], ◌++◌, length, drop}
use Rattle.kinds.specs.declared.Limits.{Limits}
use Rattle.kinds.specs.declared.Pair.{Pair}
use Rattle.kinds.specs.Promise.{Promise}
use Rattle.stripes.specs.Stripe.{root_stripe}
use Rattle.plain.specs.Books.{Plainly, plain_insert, plain_delete, plain_smallest_x, plain_largest_x, plain_smallest_y, plain_listing, promise}
use Rattle.plain.specs.Strips.{strip_pair, covers_limits, last_limits, meets_limits, contains_limits, plain_open, plain_close, plain_first, plain_last, plain_earliest, plain_covers, plain_meets, plain_contains}
use Rattle.walks.specs.Walks.{smallest_x, largest_x, smallest_y, ListWalked, listing, room_of, written}
use Rattle.pages.specs.Book.{version_one, book_bytes, plain_save}
use Rattle.pools.specs.Cells.{book_of, tree_of, stored}
use Rattle.pools.specs.Laid.{inserted, deleted}

-- insert: the pair goes down from the root, and the first free slot is taken
unfoldable pub insertion : List ℕ → Pair → Promise
insertion c p = promise (plain_insert p (book_of c)) 0 (inserted c p) []

-- delete: the hole that the pair leaves is filled, and the slot given up is the first free one
unfoldable pub deletion : List ℕ → Pair → Promise
deletion c p = promise (plain_delete p (book_of c)) 0 (deleted c p.x) []

-- open: the strip's pair is inserted
unfoldable pub opening : List ℕ → (start end number : ℕ) → Promise
opening c start end number = promise (plain_open start end number (book_of c)) 0 (inserted c (strip_pair start end number)) []

-- close: the strip's pair is deleted
unfoldable pub closing : List ℕ → (start end number : ℕ) → Promise
closing c start end number = promise (plain_close start end number (book_of c)) 0 (deleted c (strip_pair start end number).x) []

-- the questions for one pair leave every cell, and report the slots that their walks visit
unfoldable pub smallest_x_asked : List ℕ → Limits → Promise
smallest_x_asked c q = promise (plain_smallest_x q (book_of c)) (smallest_x q root_stripe (tree_of c)).visits c []

unfoldable pub largest_x_asked : List ℕ → Limits → Promise
largest_x_asked c q = promise (plain_largest_x q (book_of c)) (largest_x q root_stripe (tree_of c)).visits c []

unfoldable pub smallest_y_asked : List ℕ → (x0 x1 : ℕ) → Promise
smallest_y_asked c x0 x1 = promise (plain_smallest_y x0 x1 (book_of c)) (smallest_y x0 x1 root_stripe (tree_of c)).visits c []

-- and so do those for one strip, with the limits of 01's table
unfoldable pub first_to_end : List ℕ → (u : ℕ) → Promise
first_to_end c u = promise (plain_first u (book_of c)) (smallest_x (covers_limits u) root_stripe (tree_of c)).visits c []

unfoldable pub last_to_end : List ℕ → (u e : ℕ) → Promise
last_to_end c u e = promise (plain_last u e (book_of c)) (largest_x (last_limits u e) root_stripe (tree_of c)).visits c []

unfoldable pub earliest_start : List ℕ → (u v : ℕ) → Promise
earliest_start c u v = promise (plain_earliest u v (book_of c)) (smallest_y (u * 65536) (v * 65536 + 65535) root_stripe (tree_of c)).visits c []

-- a listing leaves the pool, and writes the pairs of its walk into the lent slice, from its start
abbrev pub walk_listed : Plainly → List ℕ → Limits → List ℕ → Promise
walk_listed k c q out = let w : ListWalked = listing q root_stripe (tree_of c) (room_of out) in promise k w.visits c (written w.pairs out)

unfoldable pub listing_asked : List ℕ → Limits → (out : List ℕ) → Promise
listing_asked c q out = walk_listed (plain_listing q (room_of out) (book_of c)) c q out

-- the lists of strips, with the limits of 01's table
unfoldable pub list_covers : List ℕ → (u : ℕ) (out : List ℕ) → Promise
list_covers c u out = walk_listed (plain_covers u (room_of out) (book_of c)) c (covers_limits u) out

unfoldable pub list_meets : List ℕ → (u v : ℕ) (out : List ℕ) → Promise
list_meets c u v out = walk_listed (plain_meets u v (room_of out) (book_of c)) c (meets_limits u v) out

unfoldable pub list_contains : List ℕ → (u v : ℕ) (out : List ℕ) → Promise
list_contains c u v out = walk_listed (plain_contains u v (room_of out) (book_of c)) c (contains_limits u v) out

-- the book from the first byte on; bytes beyond it stay
unfoldable pub saved : List ℕ → (bytes : List ℕ) → Promise
saved c bytes = let b : List ℕ = book_bytes version_one (stored c) in promise (plain_save version_one bytes (book_of c)) 0 c (b ++ drop (length b) bytes)
