-- How the code lists: what is put into the lent cells (jot/specs/Jotting.antt), the visits, and what a listing says of itself.
use Rattle.std.specs.Prelude.{ℕ, ◌+◌, ◌≡◌, List, length}
use Rattle.walks.specs.Walks.{ListWalked, written}
use Rattle.jot.specs.Jotting.{Put}
use Rattle.kinds.specs.declared.Listing.{Listing}

-- the listing w was made, and v has become v'
pub record Lists (o : List ℕ) (n v : ℕ) (w : ListWalked) (o' : List ℕ) (n' v' : ℕ) : Type 0 where
  pub put : Put o n w o' n'
  pub visits : v' ≡ v + w.visits

-- r is what the listing w says of itself, and o' are the lent cells o with its pairs written from their start
pub record Lent (o : List ℕ) (w : ListWalked) (o' : List ℕ) (r : Listing) : Type 0 where
  pub count : r.count ≡ length w.pairs
  pub more : r.more ≡ w.more
  pub visits : r.visits ≡ w.visits
  pub cells : o' ≡ written w.pairs o
