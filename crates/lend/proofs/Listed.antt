-- A listing on a sound pool answers and writes what its walk says: each match of the stored list is counted, in the walk's order.
use Rattle.std.specs.Prelude.{Ok}
use Prim.Native.Nat.{ℕ, min}
use mathlib.Core.Path.{◌≡◌, refl, ap, ◌∙◌}
use mathlib.Core.List.{List}
use lib.Dec.{ltb}
use lib.ListN.{length, length-take}
use Rattle.kinds.specs.declared.Limits.{Limits}
use Rattle.kinds.specs.Answer.{listed}
use Rattle.kinds.specs.Making.{listed_by}
use Rattle.kinds.specs.Promise.{Gives}
use Rattle.stripes.specs.Stripe.{root_stripe}
use Rattle.kinds.proofs.Tables.{gives}
use Rattle.plain.specs.Books.{plain_listing}
use Rattle.plain.specs.Plain.{matches, those}
use Rattle.trees.specs.Tree.{members}
use Rattle.walks.specs.Walks.{listing, room_of}
use Rattle.walks.proofs.Lists.{listing_pairs, listing_more}
use Rattle.pools.specs.Cells.{stored, tree_of}
use Rattle.pools.specs.Sound.{Sound}
use Rattle.pools.proofs.InTree.{tree_well}
use Rattle.kinds.specs.declared.Listing.{Listing}
use Rattle.listing.specs.Listing.{Lent}
use Rattle.promises.specs.Promises.{listing_asked}
use Rattle.promises.proofs.Asked.{matches_count}

pub listing_gives : {c : List ℕ} (s : Sound c) (q : Limits) (out : List ℕ) {out' : List ℕ} (l : Listing)
    → Lent out (listing q root_stripe (tree_of c) (room_of out)) out' l
    → Gives (listing_asked c q out).made (listed (Ok l)) c out'
unfolding listing_asked plain_listing
listing_gives {c} s q out l L =
    let n = matches_count s q in
    let P = listing_pairs q root_stripe (tree_of c) (tree_well s) (room_of out) in
    let M = listing_more q root_stripe (tree_of c) (tree_well s) (room_of out) in
    let k : l.count ≡ min (room_of out) (length (those (matches q) (stored c))) =
    L.count ∙ (ap length P ∙ (length-take (room_of out) (those (matches q) (members (tree_of c))) ∙ ap (min (room_of out)) n)) in
    gives (λ i. listed_by (k i) ((L.more ∙ (M ∙ ap (ltb (room_of out)) n)) i) (L.visits i)) refl L.cells
