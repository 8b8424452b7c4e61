-- What a listing gives on a sound pool: exactly the stored pairs in its limits, each once.
use Prim.Native.Nat.{ℕ}
use mathlib.Core.Path.{◌≡◌, ap}
use mathlib.Core.Logic.{◌↔◌}
use mathlib.Core.Bool.{true, false}
use mathlib.Core.List.{List, Memᴰ}
use lib.Dec.{ltb}
use lib.ListN.{length-take}
use Rattle.kinds.specs.declared.Limits.{Limits}
use Rattle.kinds.specs.declared.Pair.{Pair}
use Rattle.kinds.specs.Promise.{given}
use Rattle.stripes.specs.Stripe.{root_stripe}
use Rattle.plain.specs.Books.{plain_listing}
use Rattle.plain.specs.Plain.{matches, those}
use Rattle.plain.proofs.Those.{those_mem, those_apart}
use Rattle.trees.specs.Tree.{members}
use Rattle.walks.specs.Walks.{room_of, written}
use Rattle.walks.proofs.Lists.{listing_pairs}
use Rattle.pools.specs.Cells.{tree_of}
use Rattle.pools.specs.Sound.{Sound}
use Rattle.pools.proofs.InTree.{tree_well, members_stored, members_apart}
use Rattle.sound.specs.Promises.{behind_check}
use Rattle.sound.proofs.Lines.{entry_made}
use Rattle.promises.specs.Promises.{listing_asked}
use Rattle.promises.proofs.Asked.{matches_count}
use Rattle.pool.specs.Showing.{Shows}

-- what is made of a listing
pub made_shows : {c : List ℕ} (s : Sound c) (q : Limits) (out : List ℕ) → Shows c out (λ p. matches q p ≡ true) (listing_asked c q out).made
unfolding listing_asked plain_listing
made_shows {c} s q out =
    let ps : List Pair = those (matches q) (members (tree_of c)) in
    let t : (p : Pair) → Memᴰ p ps ↔ (Memᴰ p (members (tree_of c)) × (matches q p ≡ true)) =
    λ p. those_mem (matches q) p (members (tree_of c)) in
    let n = matches_count s q in
    record {
      all = ps;
      exactly = λ p. (λ m. ((members_stored s p).0 ((t p).0 m).0, ((t p).0 m).1), λ k. (t p).1 ((members_stored s p).1 k.0, k.1));
      once = those_apart (matches q) (members (tree_of c)) (members_apart s);
      lent = ap (λ ps. written ps out) (listing_pairs q root_stripe (tree_of c) (tree_well s) (room_of out));
      outcome = rw (length-take (room_of out) ps, n);
    }

-- law: a listing whose limits are not backwards shows exactly the stored pairs in them, each once
pub listing_shows : {c : List ℕ} → Sound c → (q : Limits) (out : List ℕ) → ltb q.x1 q.x0 ≡ false
    → Shows c out (λ p. matches q p ≡ true) (given (behind_check c (listing_asked c q out)) c out)
unfolding listing_asked plain_listing
listing_shows {c} s q out o = rw (entry_made s (listing_asked c q out) out (o, tt)) (made_shows s q out)
