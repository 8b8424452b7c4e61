-- The bounds on visits, for every pool and all numbers: a refusal reports none, and a sound pool's tree has 33 levels at most.
use Prim.Native.Nat.{ℕ, min, ◌+◌, ◌*◌, ◌≤◌}
use mathlib.Core.Path.{◌≡◌, ap, ◌∙◌}
use mathlib.Core.Bool.{Bool}
use mathlib.Core.List.{List, [], ◌∷◌}
use native.Mathlib.Omega.{arith}
use borrow.Author.Tests.{not-false}
use lib.ListN.{length, length-take}
use Rattle.kinds.specs.declared.Refusal.{Refusal}
use Rattle.kinds.specs.declared.Answer.{Answer}
use Rattle.kinds.specs.declared.Limits.{Limits}
use Rattle.kinds.specs.Answer.{refused}
use Rattle.kinds.specs.Making.{listed_by}
use Rattle.kinds.specs.Promise.{Line, Result, Promise, by_lines, given}
use Rattle.kinds.proofs.Tables.{NoLine}
use Rattle.stripes.specs.Stripe.{root_stripe}
use Rattle.kinds.proofs.Numbers.{five_visits, five_count, refused_numbers}
use Rattle.kinds.proofs.Tests.{on}
use Rattle.plain.specs.Books.{plain_smallest_x, plain_largest_x, plain_smallest_y, plain_listing}
use Rattle.plain.specs.Plain.{matches, those}
use Rattle.trees.specs.Tree.{members}
use Rattle.walks.specs.Walks.{listing, room_of}
use Rattle.walks.proofs.Lists.{listing_pairs}
use Rattle.walks.proofs.ListVisits.{listing_visits}
use Rattle.walks.proofs.Visits.{smallest_x_visits, largest_x_visits, smallest_y_visits}
use Rattle.pools.specs.Cells.{stored, tree_of}
use Rattle.pools.specs.Sound.{Sound}
use Rattle.pools.proofs.Decided.{test_sound}
use Rattle.pools.proofs.InTree.{tree_well}
use Rattle.sound.specs.Promises.{behind_check}
use Rattle.promises.specs.Promises.{smallest_x_asked, largest_x_asked, smallest_y_asked, listing_asked}
use Rattle.promises.proofs.Asked.{matches_count}
use Rattle.pool.specs.Showing.{VisitsWithin, FewVisits}

-- what a table answers has a property that refusals have, if what it makes has it where no line holds
table_has : (P : Answer → Type 0) → ((k : Refusal) → P (refused k)) → (ls : List Line) (c out : List ℕ) (made : Result) → (NoLine ls → P made.answer)
    → P (by_lines ls c out made).answer
unfolding by_lines
table_has P r [] c out made h = h tt
table_has P r (l ∷ ls) c out made h =
    on l.when (λ t. rw t (r l.refusal)) (λ f. rw f (table_has P r ls c out made (λ n. h (f, n))))

-- law: so it is behind the check, if what is made has it on a sound pool
pub entry_has : (P : Answer → Type 0) → ((k : Refusal) → P (refused k)) → (Q : Promise) (c out : List ℕ) → (Sound c → P Q.made.answer)
    → P (given (behind_check c Q) c out).answer
entry_has P r Q c out h = table_has P r (behind_check c Q).lines c out Q.made (λ n. h (test_sound c (not-false _ n.1.0)))

refused_within : (n : ℕ) (k : Refusal) → VisitsWithin n (refused k)
refused_within n k = rw (refused_numbers k) (omega arith)

reported : (a : Answer) (n : ℕ) → a.visits ≤ n → VisitsWithin n a
reported a n h = let k = five_visits a in omega arith

-- law: what a call reports is bounded where the visits of what it makes are, on a sound pool
pub entry_bound : (Q : Promise) (c out : List ℕ) (n : ℕ) → (Sound c → Q.made.answer.visits ≤ n) → VisitsWithin n (given (behind_check c Q) c out).answer
entry_bound Q c out n h = entry_has (VisitsWithin n) (refused_within n) Q c out (λ s. reported Q.made.answer n (h s))

refused_few : (k : Refusal) → FewVisits (refused k)
refused_few k = rw (refused_numbers k) (omega arith)

-- what is listed reports its count
counted : (n : ℕ) (more : Bool) (v : ℕ) → v ≤ 127 + 2 * n → FewVisits (listed_by n more v)
counted n more v h = let k = five_visits (listed_by n more v) in rw (five_count n more v) (omega arith)

module _ (c : List ℕ) where
  -- law: smallest and largest x; 01 asks for 189
  pub smallest_x_bound : (q : Limits) → VisitsWithin 127 (given (behind_check c (smallest_x_asked c q)) c []).answer
  unfolding smallest_x_asked plain_smallest_x
  smallest_x_bound q = entry_bound (smallest_x_asked c q) c [] 127 (λ s. smallest_x_visits q (tree_of c) (tree_well s))

  pub largest_x_bound : (q : Limits) → VisitsWithin 127 (given (behind_check c (largest_x_asked c q)) c []).answer
  unfolding largest_x_asked plain_largest_x
  largest_x_bound q = entry_bound (largest_x_asked c q) c [] 127 (λ s. largest_x_visits q (tree_of c) (tree_well s))

  -- law: smallest y
  pub smallest_y_bound : (x0 x1 : ℕ) → VisitsWithin 127 (given (behind_check c (smallest_y_asked c x0 x1)) c []).answer
  unfolding smallest_y_asked plain_smallest_y
  smallest_y_bound x0 x1 = entry_bound (smallest_y_asked c x0 x1) c [] 127 (λ s. smallest_y_visits x0 x1 (tree_of c) (tree_well s))

  -- law: a listing on a sound pool, by the number that it reports
  pub listed_few : (q : Limits) (out : List ℕ) → Sound c → FewVisits (listing_asked c q out).made.answer
  unfolding listing_asked plain_listing
  listed_few q out s =
      let w = listing q root_stripe (tree_of c) (room_of out) in
      let k : length w.pairs ≡ min (room_of out) (length (those (matches q) (stored c))) =
      ap length (listing_pairs q root_stripe (tree_of c) (tree_well s) (room_of out))
      ∙ (length-take (room_of out) (those (matches q) (members (tree_of c))) ∙ ap (min (room_of out)) (matches_count s q)) in
      counted _ _ _ (rw k at (listing_visits q (tree_of c) (tree_well s) (room_of out)))

  pub entry_few : (Q : Promise) (out : List ℕ) → (Sound c → FewVisits Q.made.answer) → FewVisits (given (behind_check c Q) c out).answer
  entry_few Q out h = entry_has FewVisits refused_few Q c out h

  -- law: a listing, by the number that it reports
  pub listing_bound : (q : Limits) (out : List ℕ) → FewVisits (given (behind_check c (listing_asked c q out)) c out).answer
  listing_bound q out = entry_few (listing_asked c q out) out (listed_few q out)
