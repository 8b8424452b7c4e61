-- What each kind's sample shows, by working it out. Nothing is assumed.
use Prim.Native.Nat.{ℕ, ◌+◌}
use mathlib.Core.Path.{◌≡◌, refl, sym, ap, ◌∙◌}
use mathlib.Core.Bool.{false}
use mathlib.Core.List.{List}
use lib.Dec.{eqb}
use lib.ListN.{get_or}
use borrow.Author.Tests.{eqb-false}
use Rattle.kinds.specs.declared.Five.{Five}
use Rattle.kinds.specs.Answer.{five, numbers_of}
use Rattle.pools.specs.Cells.{is_free, stored_from, tree_at, free_slots, fresh}
use Rattle.trees.specs.Changes.{go_down, fill, take_out, met}
use Rattle.pools.specs.Laid.{lay, inserted, deleted}
use Rattle.kinds.specs.Pairs.{beats}
use Rattle.plain.specs.Plain.{smallest_x_of, largest_x_of, smallest_y_of, has_x, has}
use Rattle.kinds.specs.Promise.{by_lines}
use Rattle.stripes.specs.Stripe as stripe
use Rattle.pools.specs.Test.{is_pool, slot_fine, alone, fine, below, root_fine, free_fine, chain_fine, rest_fine, is_sound}
use Rattle.walks.specs.Walks as walks
use Rattle.walks.specs.Walks.{listing}
use Rattle.kinds.proofs.Tests.{clash}
use Rattle.sound.specs.Promises as check_first
use Rattle.plain.specs.Books.{plain_insert, plain_delete, plain_smallest_x, plain_largest_x, plain_smallest_y, plain_listing}
use Rattle.plain.specs.Strips.{plain_open, plain_close, plain_first, plain_last, plain_earliest, plain_covers, plain_meets, plain_contains}
use Rattle.pages.specs.Book.{by_x, book_bytes, plain_save}
use Rattle.promises.specs.Promises.{insertion, deletion, smallest_x_asked, largest_x_asked, smallest_y_asked, listing_asked, opening, closing, first_to_end, last_to_end, earliest_start, list_covers, list_meets, list_contains, saved}
use Rattle.runs.specs.Calls.{promised}
use Rattle.marked.specs.Wrong.{Kind, set_ups, inserts, deletes, smallest_xs, largest_xs, smallest_ys, listings, openings, closings, firsts, lasts, earliests, coverings, meetings, containings, checks, saves}
use Rattle.marked.specs.Samples.{sample, Shown}

-- answers with other codes, or other counts
apart : (m n : ℕ) → eqb m n ≡ false → (a b : Five) → a.code + a.count ≡ m → b.code + b.count ≡ n → a ≡ b → ⊥
apart m n f a b ea eb e = eqb-false m n f (sym ea ∙ ap (λ a. a.code + a.count) e ∙ eb)

-- cells that differ at a place
off : (i m n : ℕ) → eqb m n ≡ false → (c d : List ℕ) → get_or c i 0 ≡ m → get_or d i 0 ≡ n → c ≡ d → ⊥
off i m n f c d ec ed e = eqb-false m n f (sym ec ∙ ap (λ c. get_or c i 0) e ∙ ed)

-- law: each kind's promise serves some input, answers another otherwise, and writes where its kind does
pub shown : (K : Kind) → Shown K (sample K)
unfolding five numbers_of promised check_first.set_up check_first.check by_lines is_pool fresh free_slots insertion is_sound root_fine slot_fine below fine alone met stripe.holds rest_fine chain_fine free_fine is_free stored_from tree_at has_x has inserted lay go_down beats largest_x_asked largest_x_of walks.largest_x deletion deleted fill take_out smallest_x_asked smallest_x_of walks.smallest_x smallest_y_asked smallest_y_of walks.smallest_y listing_asked listing opening closing first_to_end last_to_end earliest_start list_covers list_meets list_contains saved book_bytes by_x plain_insert plain_delete plain_smallest_x plain_largest_x plain_smallest_y plain_listing plain_open plain_close plain_first plain_last plain_earliest plain_covers plain_meets plain_contains plain_save
shown set_ups = record { kind = refl; serves = refl; differs = apart 0 1 refl _ _ refl refl; writes = λ t e o. off 3 0 1 refl _ _ refl refl e }
shown inserts = record { kind = refl; serves = refl; differs = apart 0 4 refl _ _ refl refl; writes = λ t e o. off 3 1 0 refl _ _ refl refl e }
shown deletes = record { kind = refl; serves = refl; differs = apart 0 6 refl _ _ refl refl; writes = λ t e o. off 3 0 1 refl _ _ refl refl e }
shown smallest_xs = record { kind = refl; serves = refl; differs = apart 0 8 refl _ _ refl refl; writes = λ t. absurd (clash t refl) }
shown largest_xs = record { kind = refl; serves = refl; differs = apart 0 8 refl _ _ refl refl; writes = λ t. absurd (clash t refl) }
shown smallest_ys = record { kind = refl; serves = refl; differs = apart 0 8 refl _ _ refl refl; writes = λ t. absurd (clash t refl) }
shown listings = record { kind = refl; serves = refl; differs = apart 1 0 refl _ _ refl refl; writes = λ t e o. off 0 1 7 refl _ _ refl refl o }
shown openings = record { kind = refl; serves = refl; differs = apart 0 4 refl _ _ refl refl; writes = λ t e o. off 3 1 0 refl _ _ refl refl e }
shown closings = record { kind = refl; serves = refl; differs = apart 0 6 refl _ _ refl refl; writes = λ t e o. off 3 0 1 refl _ _ refl refl e }
shown firsts = record { kind = refl; serves = refl; differs = apart 0 8 refl _ _ refl refl; writes = λ t. absurd (clash t refl) }
shown lasts = record { kind = refl; serves = refl; differs = apart 0 8 refl _ _ refl refl; writes = λ t. absurd (clash t refl) }
shown earliests = record { kind = refl; serves = refl; differs = apart 0 8 refl _ _ refl refl; writes = λ t. absurd (clash t refl) }
shown coverings = record { kind = refl; serves = refl; differs = apart 1 0 refl _ _ refl refl; writes = λ t e o. off 0 1 7 refl _ _ refl refl o }
shown meetings = record { kind = refl; serves = refl; differs = apart 1 0 refl _ _ refl refl; writes = λ t e o. off 0 1 7 refl _ _ refl refl o }
shown containings = record { kind = refl; serves = refl; differs = apart 1 0 refl _ _ refl refl; writes = λ t e o. off 0 1 7 refl _ _ refl refl o }
shown checks = record { kind = refl; serves = refl; differs = apart 0 1 refl _ _ refl refl; writes = λ t. absurd (clash t refl) }
shown saves = record { kind = refl; serves = refl; differs = apart 0 1 refl _ _ refl refl; writes = λ t e o. off 0 0 7 refl _ _ refl refl o }
