-- What insert and delete do, on any cells: they refuse and leave every cell, or the pool is sound and the change is made; then the pool is
-- sound again, and its stored set is the old one with exactly that pair more or less. The x of an inserted pair is of 32 bits.
use Prim.Native.Nat.{ℕ, ◌<◌}
use mathlib.Core.Path.{◌≡◌, refl, sym, ap, ◌∙◌}
use mathlib.Core.Logic.{◌≢◌, ◌↔◌, ◌⊎◌}
use mathlib.Core.Bool.{true, false, not}
use mathlib.Core.List.{List, [], Memᴰ}
use borrow.Author.Tests.{eqb-false, ne_eqb, not-false}
use Rattle.kinds.specs.declared.Pair.{Pair}
use Rattle.kinds.specs.Answer.{five, numbers_of}
use Rattle.kinds.specs.Promise.{Result, given, accepted}
use Rattle.stripes.specs.Stripe.{root_stripe}
use Rattle.kinds.proofs.Tables.{NoLine, Decided, table_decided, none_holds, refused_same, accepted_made, given_either}
use Rattle.kinds.proofs.Tests.{and_false}
use Rattle.plain.specs.Books.{plain_insert, plain_delete}
use Rattle.plain.specs.Plain.{has_x, has}
use Rattle.trees.specs.Tree.{itself, Mem, bare}
use Rattle.trees.proofs.Same.{same_set}
use Rattle.pools.specs.Cells.{free_of, stored}
use Rattle.pools.specs.Sound.{Sound}
use Rattle.pools.proofs.Decided.{test_sound, sound_well}
use Rattle.pools.proofs.Deleted.{deleted_sound, deleted_stored, deleted_gone}
use Rattle.pools.proofs.InTree.{new_of, of_new, has_mem, mem_has, mem_has_x, full_is}
use Rattle.pools.proofs.Inserted.{inserted_sound, inserted_stored}
use Rattle.pools.proofs.Stored.{stored_mem}
use Rattle.sound.specs.Promises.{behind_check}
use Rattle.sound.proofs.Lines.{no_line}
use Rattle.down.specs.Down.{Enters}
use Rattle.promises.specs.Promises.{insertion, deletion}

-- what a deletion that is made may rely on
pub record Exits (c : List ℕ) (p : Pair) : Type 0 where
  pub sound : Sound c
  pub member : Mem p sound.tree

module _ (c : List ℕ) (p : Pair) where
  -- insert, and delete, on any cells
  abbrev pub insert_gives : Result
  insert_gives = given (behind_check c (insertion c p)) c []

  abbrev pub delete_gives : Result
  delete_gives = given (behind_check c (deletion c p)) c []

  pub insert_view : Decided (behind_check c (insertion c p)).lines c [] (insertion c p).made insert_gives
  unfolding insertion plain_insert
  insert_view = table_decided _ c [] _

  pub delete_view : Decided (behind_check c (deletion c p)).lines c [] (deletion c p).made delete_gives
  unfolding deletion plain_delete
  delete_view = table_decided _ c [] _

  -- where no line holds
  pub insert_enters : NoLine (behind_check c (insertion c p)).lines → Enters c p
  unfolding insertion plain_insert
  insert_enters n =
      let s = test_sound c (not-false _ n.1.0) in
      record { sound = s; new = new_of s p.x n.1.1.0; room = eqb-false (free_of c) 0 (sym (full_is s) ∙ n.1.1.1.0) }

  pub delete_exits : NoLine (behind_check c (deletion c p)).lines → Exits c p
  unfolding deletion plain_delete
  delete_exits n =
      let s = test_sound c (not-false _ n.1.0) in
      let t : has_x p.x (stored c) ≡ true = not-false _ n.1.1.0 in
      let f : not (has p (stored c)) ≡ false = rw t at n.1.1.1.0 in
      record { sound = s; member = has_mem s p (not-false _ f) }

  -- on a sound pool, what no line refuses is accepted
  pub insert_made : Enters c p → insert_gives ≡ (insertion c p).made
  unfolding insertion plain_insert
  insert_made e =
      let s = e.sound in
      let n = no_line s in
      none_holds c [] _ _ (n.0, (n.1.0, (of_new s p.x e.new, (full_is s ∙ ne_eqb (free_of c) 0 e.room, tt))))

  pub delete_made : Exits c p → delete_gives ≡ (deletion c p).made
  unfolding deletion plain_delete
  delete_made e =
      let s = e.sound in
      let n = no_line s in
      none_holds c [] _ _ (
        n.0,
        (
          n.1.0,
          (
            ap not (mem_has_x s p e.member),
            (and_false (has_x p.x (stored c)) (not (has p (stored c))) (ap not (mem_has s p e.member)), tt),
          ),
        ),
      )

  -- law: the pool is sound again
  pub insert_sound : p.x < 4294967296 → Sound c → Sound insert_gives.cells
  unfolding insertion
  insert_sound b s = given_either Sound insert_view s (λ n. let e = insert_enters n in inserted_sound e.sound p e.new b e.room)

  pub delete_sound : Sound c → Sound delete_gives.cells
  unfolding deletion
  delete_sound s = given_either Sound delete_view s (λ n. let e = delete_exits n in deleted_sound e.sound p e.member)

  -- what an accepted change may rely on, and leaves
  pub insert_accepted : accepted insert_gives ≡ true → Enters c p × (insert_gives ≡ (insertion c p).made)
  insert_accepted t = let m = accepted_made insert_view t in (insert_enters m.0, m.1)

  pub delete_accepted : accepted delete_gives ≡ true → Exits c p × (delete_gives ≡ (deletion c p).made)
  delete_accepted t = let m = accepted_made delete_view t in (delete_exits m.0, m.1)

  -- law: a refused one leaves every cell
  pub insert_refused : accepted insert_gives ≡ false → insert_gives.cells ≡ c
  unfolding five numbers_of insertion plain_insert
  insert_refused f = refused_same insert_view refl f

  pub delete_refused : accepted delete_gives ≡ false → delete_gives.cells ≡ c
  unfolding five numbers_of deletion plain_delete
  delete_refused f = refused_same delete_view refl f

  -- law: an accepted pair is stored next, with those that were
  pub insert_stored : p.x < 4294967296 → accepted insert_gives ≡ true → (q : Pair) → Memᴰ q (stored insert_gives.cells) ↔ ((q ≡ p) ⊎ Memᴰ q (stored c))
  unfolding insertion
  insert_stored b t q =
      let m = insert_accepted t in
      let e = m.0 in
      rw m.1 (inserted_stored e.sound p e.new b e.room q)

  -- law: a deleted pair is not, and all others are
  pub delete_stored : accepted delete_gives ≡ true → (q : Pair) → Memᴰ q (stored c) ↔ ((q ≡ p) ⊎ Memᴰ q (stored delete_gives.cells))
  unfolding deletion
  delete_stored t q =
      let m = delete_accepted t in
      rw m.1 (deleted_stored m.0.sound p m.0.member q)

  pub delete_gone : accepted delete_gives ≡ true → (q : Pair) → Memᴰ q (stored delete_gives.cells) → p.x ≢ q.x
  unfolding deletion
  delete_gone t q k =
      let m = delete_accepted t in
      deleted_gone m.0.sound p m.0.member q (rw m.1 at k)

-- law: the tree depends on the set alone
pub tree_of_set : {c d : List ℕ} (s : Sound c) (t : Sound d) → ((q : Pair) → Memᴰ q (stored c) ↔ Memᴰ q (stored d)) → bare s.tree ≡ bare t.tree
tree_of_set s t h =
    same_set itself root_stripe s.tree t.tree (sound_well _ s) (sound_well _ t)
    (λ q. (λ m. (stored_mem t q).0 ((h q).0 ((stored_mem s q).1 m)), λ m. (stored_mem s q).0 ((h q).1 ((stored_mem t q).1 m))))
