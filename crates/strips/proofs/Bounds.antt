-- The bounds on visits, over the strip calls: for every pool and all numbers.
use Prim.Native.Nat.{ℕ, ◌+◌, ◌*◌}
use mathlib.Core.List.{List, []}
use Rattle.kinds.specs.Promise.{given}
use Rattle.plain.specs.Books.{plain_listing}
use Rattle.plain.specs.Strips.{covers_limits, last_limits, meets_limits, contains_limits, plain_first, plain_last, plain_earliest, plain_covers, plain_meets, plain_contains}
use Rattle.walks.proofs.Visits.{smallest_x_visits, largest_x_visits, smallest_y_visits}
use Rattle.pools.specs.Cells.{tree_of}
use Rattle.pools.proofs.InTree.{tree_well}
use Rattle.sound.specs.Promises.{behind_check}
use Rattle.promises.specs.Promises.{first_to_end, last_to_end, earliest_start, listing_asked, list_covers, list_meets, list_contains}
use Rattle.pool.specs.Showing.{VisitsWithin, FewVisits}
use Rattle.pool.proofs.Bounds.{entry_bound, entry_few, listed_few}

module _ (c : List ℕ) where
  -- law: the questions for one strip
  pub first_bound : (u : ℕ) → VisitsWithin 127 (given (behind_check c (first_to_end c u)) c []).answer
  unfolding first_to_end plain_first
  first_bound u = entry_bound (first_to_end c u) c [] 127 (λ s. smallest_x_visits (covers_limits u) (tree_of c) (tree_well s))

  pub last_bound : (u e : ℕ) → VisitsWithin 127 (given (behind_check c (last_to_end c u e)) c []).answer
  unfolding last_to_end plain_last
  last_bound u e = entry_bound (last_to_end c u e) c [] 127 (λ s. largest_x_visits (last_limits u e) (tree_of c) (tree_well s))

  pub earliest_bound : (u v : ℕ) → VisitsWithin 127 (given (behind_check c (earliest_start c u v)) c []).answer
  unfolding earliest_start plain_earliest
  earliest_bound u v = entry_bound (earliest_start c u v) c [] 127 (λ s. smallest_y_visits (u * 65536) (v * 65536 + 65535) (tree_of c) (tree_well s))

  -- law: the lists
  pub covers_bound : (u : ℕ) (out : List ℕ) → FewVisits (given (behind_check c (list_covers c u out)) c out).answer
  unfolding list_covers plain_covers listing_asked plain_listing
  covers_bound u out = entry_few c (list_covers c u out) out (listed_few c (covers_limits u) out)

  pub meets_bound : (u v : ℕ) (out : List ℕ) → FewVisits (given (behind_check c (list_meets c u v out)) c out).answer
  unfolding list_meets plain_meets listing_asked plain_listing
  meets_bound u v out = entry_few c (list_meets c u v out) out (listed_few c (meets_limits u v) out)

  pub contains_bound : (u v : ℕ) (out : List ℕ) → FewVisits (given (behind_check c (list_contains c u v out)) c out).answer
  unfolding list_contains plain_contains listing_asked plain_listing
  contains_bound u v out = entry_few c (list_contains c u v out) out (listed_few c (contains_limits u v) out)
