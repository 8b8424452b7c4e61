-- What the strip questions answer, in a rider's words. It assumes a sound pool, and slots that the call lets through.
use Rattle.std.specs.Prelude.{Option, Some, None as no_pair}
use Prim.Native.Nat.{ℕ, ◌+◌, ◌*◌, ◌≤◌, ◌<◌}
use mathlib.Core.Path.{◌≡◌, refl}
use mathlib.Core.Logic.{◌↔◌}
use mathlib.Core.Bool.{Bool, true, false, ◌||◌}
use mathlib.Core.List.{List, [], Memᴰ}
use native.Mathlib.Omega.{arith}
use lib.Dec.{ltb}
use borrow.Author.Tests.{ltb-true, ltb-false, le-ltb}
use Rattle.kinds.specs.declared.Limits.{Limits}
use Rattle.kinds.specs.declared.Outcome.TheVariants.{Found, Nothing}
use Rattle.kinds.specs.declared.Pair.{Pair}
use Rattle.pools.specs.Cells.{stored}
use Rattle.kinds.specs.Pairs.{beats, lower}
use Rattle.plain.specs.Books.{plain_listing}
use Rattle.plain.specs.Plain.{matches, smallest_x_of, largest_x_of, smallest_y_of, Closest, NoMatch}
use Rattle.kinds.specs.Answer.{outcome_of}
use Rattle.kinds.specs.Promise.{Result, given}
use Rattle.pools.specs.Sound.{Sound}
use Rattle.kinds.proofs.Tests.{on, clash}
use Rattle.kinds.proofs.Order.{true_beats}
use Rattle.plain.proofs.Scan.{smallest_x_of_found, smallest_x_of_nothing, largest_x_of_found, largest_x_of_nothing, smallest_y_of_found, smallest_y_of_nothing}
use Rattle.pools.proofs.Stored.{stored_mem, stored_apart}
use Rattle.pools.proofs.TakenBack.{member_low}
use Rattle.pool.specs.Showing.{Shows}
use Rattle.pool.proofs.Shown.{made_shows}
use Rattle.plain.specs.Strips.{start_of, end_of, Covers, Meets, Contains, over, covers_limits, last_limits, meets_limits, contains_limits, plain_covers, plain_meets, plain_first, plain_last, plain_earliest, plain_contains}
use Rattle.sound.specs.Promises.{behind_check}
use Rattle.sound.proofs.Lines.{entry_made}
use Rattle.promises.specs.Promises.{first_to_end, last_to_end, earliest_start, listing_asked, list_covers, list_meets, list_contains}
use Rattle.strips.specs.Riding.{Ahead, Behind, Unbeaten, CoversBy, EndsIn, CoversSome, CoversAll, Drawn, None}
use Rattle.plain.proofs.Limits.{covers_limits_lem, meets_limits_lem, contains_limits_lem, last_limits_lem, ends_limits}

or_false : {a b : Bool} → a ≡ false → b ≡ false → (a || b) ≡ false
or_false {a} {b} h k = rw (h, k)

ahead_of : (p q : Pair) → p.x ≤ q.x → Ahead p q
ahead_of p q h = record { end = omega arith; number = λ e. omega arith }

of_ahead : (p q : Pair) → Ahead p q → p.x ≤ q.x
of_ahead p q a = on (ltb q.x p.x)
    (λ t. let h = ltb-true q.x p.x t in let e = a.end in let n = a.number (omega arith) in absurd (omega arith))
    (λ f. ltb-false q.x p.x f)

outcome_found : (f : Option Pair) (p : Pair) → (outcome_of f ≡ Found p) ↔ (f ≡ Some p)
outcome_found (Some q) p = (λ e. cc, λ e. cc)
outcome_found no_pair p = (λ e. cc, λ e. cc)

outcome_nothing : (f : Option Pair) → (outcome_of f ≡ Nothing) ↔ (f ≡ no_pair)
outcome_nothing (Some q) = (λ e. cc, λ e. cc)
outcome_nothing no_pair = (λ e. refl, λ e. refl)

module _ {c : List ℕ} (s : Sound c) where
  pub small : (p : Pair) → Memᴰ p (stored c) → p.x < 4294967296
  small p m = member_low s p ((stored_mem s p).0 m)

  -- from the closest of a scan to the strip that is drawn, and back
  module _ {ok : Pair → Bool} {closer : Pair → Pair → Bool} (Asked : Pair → Type 0) (Before : Pair → Pair → Type 0)
      (fits : (p : Pair) → p.x < 4294967296 → (ok p ≡ true) ↔ Asked p) (before : (p q : Pair) → (closer q p ≡ false) ↔ Before p q) where
    drawn_of : (p : Pair) → Closest ok closer (stored c) p ↔ Drawn c Asked Before p
    drawn_of p = (
      λ h. record {
        stored = h.member;
        asked = (fits p (small p h.member)).0 h.fits;
        ahead = λ q m a. (before p q).0 (h.ahead q m ((fits q (small q m)).1 a));
      },
      λ d. record {
        member = d.stored;
        fits = (fits p (small p d.stored)).1 d.asked;
        ahead = λ q m o. (before p q).1 (d.ahead q m ((fits q (small q m)).0 o));
      },
    )

    none_of : NoMatch ok (stored c) ↔ None c Asked
    none_of = (
      λ h q m a. clash ((fits q (small q m)).1 a) (h q m),
      λ h q m. on (ok q) (λ t. absurd (h q m ((fits q (small q m)).0 t))) (λ f. f),
    )

  by_end : (p q : Pair) → (ltb q.x p.x ≡ false) ↔ Ahead p q
  by_end p q = (λ f. ahead_of p q (ltb-false q.x p.x f), λ a. le-ltb q.x p.x (of_ahead p q a))

  module _ (u : ℕ) (h : over u ≡ false) where
    first_is : (given (behind_check c (first_to_end c u)) c []).answer.outcome ≡ outcome_of (smallest_x_of (covers_limits u) (stored c))
    unfolding first_to_end plain_first
    first_is = rw (entry_made s (first_to_end c u) [] (h, tt))

    -- law: first to end draws a stored strip that covers u, and no strip that covers u ends earlier, or ends with it and has a lower number
    pub first_drawn : (p : Pair) → ((given (behind_check c (first_to_end c u)) c []).answer.outcome ≡ Found p) ↔ Drawn c (Covers u) Ahead p
    first_drawn p =
        let f = outcome_found (smallest_x_of (covers_limits u) (stored c)) p in
        let g = smallest_x_of_found (stored c) (stored_apart s) p (covers_limits u) in
        let d = drawn_of (Covers u) Ahead (λ p b. covers_limits_lem p b u) by_end p in
        rw first_is (λ e. d.0 (g.0 (f.0 e)), λ e. f.1 (g.1 (d.1 e)))

    -- law: nothing matches exactly when no stored strip covers u
    pub first_nothing : ((given (behind_check c (first_to_end c u)) c []).answer.outcome ≡ Nothing) ↔ None c (Covers u)
    first_nothing =
        let f = outcome_nothing (smallest_x_of (covers_limits u) (stored c)) in
        let g = smallest_x_of_nothing (stored c) (covers_limits u) in
        let d = none_of (Covers u) Ahead (λ p b. covers_limits_lem p b u) by_end in
        rw first_is (λ e. d.0 (g.0 (f.0 e)), λ e. f.1 (g.1 (d.1 e)))

  by_last : (p q : Pair) → (ltb p.x q.x ≡ false) ↔ Behind p q
  by_last p q = by_end q p

  module _ (u e : ℕ) (hu : over u ≡ false) (he : over e ≡ false) (o : ltb e u ≡ false) where
    last_is : (given (behind_check c (last_to_end c u e)) c []).answer.outcome ≡ outcome_of (largest_x_of (last_limits u e) (stored c))
    unfolding last_to_end plain_last
    last_is = rw (entry_made s (last_to_end c u e) [] (or_false hu he, (o, tt)))

    -- law: last to end draws a stored strip that covers u and ends no later than e, and no such strip ends later, or ends with it and has a higher number
    pub last_drawn : (p : Pair) → ((given (behind_check c (last_to_end c u e)) c []).answer.outcome ≡ Found p) ↔ Drawn c (CoversBy u e) Behind p
    last_drawn p =
        let f = outcome_found (largest_x_of (last_limits u e) (stored c)) p in
        let g = largest_x_of_found (stored c) (stored_apart s) p (last_limits u e) in
        let d = drawn_of (CoversBy u e) Behind (λ p b. last_limits_lem p b u e) by_last p in
        rw last_is (λ k. d.0 (g.0 (f.0 k)), λ k. f.1 (g.1 (d.1 k)))

    pub last_nothing : ((given (behind_check c (last_to_end c u e)) c []).answer.outcome ≡ Nothing) ↔ None c (CoversBy u e)
    last_nothing =
        let f = outcome_nothing (largest_x_of (last_limits u e) (stored c)) in
        let g = largest_x_of_nothing (stored c) (last_limits u e) in
        let d = none_of (CoversBy u e) Behind (λ p b. last_limits_lem p b u e) by_last in
        rw last_is (λ k. d.0 (g.0 (f.0 k)), λ k. f.1 (g.1 (d.1 k)))

  module _ (u v : ℕ) (hu : over u ≡ false) (hv : over v ≡ false) (o : ltb v u ≡ false) where
    earliest_is : (given (behind_check c (earliest_start c u v)) c []).answer.outcome ≡ outcome_of (smallest_y_of (u * 65536) (v * 65536 + 65535) (stored c))
    unfolding earliest_start plain_earliest
    earliest_is = rw (entry_made s (earliest_start c u v) [] (or_false hu hv, (o, tt)))

    -- law: earliest start draws, of the stored strips that end in u..v, one that no other beats
    pub earliest_drawn : (p : Pair) → ((given (behind_check c (earliest_start c u v)) c []).answer.outcome ≡ Found p) ↔ Drawn c (EndsIn u v) Unbeaten p
    earliest_drawn p =
        let f = outcome_found (smallest_y_of (u * 65536) (v * 65536 + 65535) (stored c)) p in
        let g = smallest_y_of_found (stored c) (stored_apart s) p (u * 65536) (v * 65536 + 65535) in
        let d = drawn_of (EndsIn u v) Unbeaten (λ p b. ends_limits p b u v) (λ p q. (λ e. e, λ e. e)) p in
        rw earliest_is (λ k. d.0 (g.0 (f.0 k)), λ k. f.1 (g.1 (d.1 k)))

    pub earliest_nothing : ((given (behind_check c (earliest_start c u v)) c []).answer.outcome ≡ Nothing) ↔ None c (EndsIn u v)
    earliest_nothing =
        let f = outcome_nothing (smallest_y_of (u * 65536) (v * 65536 + 65535) (stored c)) in
        let g = smallest_y_of_nothing (stored c) (u * 65536) (v * 65536 + 65535) in
        let d = none_of {closer = beats} (EndsIn u v) Unbeaten (λ p b. ends_limits p b u v) (λ p q. (λ e. e, λ e. e)) in
        rw earliest_is (λ k. d.0 (g.0 (f.0 k)), λ k. f.1 (g.1 (d.1 k)))

  -- the list of a question shows exactly the stored strips that are asked for, each once
  shows_of : (q : Limits) (Asked : Pair → Type 0) (out : List ℕ) → ((p : Pair) → p.x < 4294967296 → (matches q p ≡ true) ↔ Asked p)
      → {w : Result} → w ≡ (listing_asked c q out).made → Shows c out Asked w
  shows_of q Asked out fits e =
      let S = made_shows s q out in
      rw e (record {
        all = S.all;
        exactly = λ p. (
          λ m. let k = (S.exactly p).0 m in (k.0, (fits p (small p k.0)).0 k.1),
          λ k. (S.exactly p).1 (k.0, (fits p (small p k.0)).1 k.1),
        );
        once = S.once;
        lent = S.lent;
        outcome = S.outcome;
      })

  -- law: the strips that cover u
  pub covers_shows : (u : ℕ) (out : List ℕ) → over u ≡ false → Shows c out (Covers u) (given (behind_check c (list_covers c u out)) c out)
  unfolding list_covers plain_covers listing_asked plain_listing
  covers_shows u out h = shows_of (covers_limits u) (Covers u) out (λ p k. covers_limits_lem p k u) (entry_made s (list_covers c u out) out (h, tt))

  module _ (u v : ℕ) (out : List ℕ) (h : (over u || over v) ≡ false) (o : ltb v u ≡ false) where
    -- law: those that meet u..v
    pub meets_shows : Shows c out (Meets u v) (given (behind_check c (list_meets c u v out)) c out)
    unfolding list_meets plain_meets listing_asked plain_listing
    meets_shows = shows_of (meets_limits u v) (Meets u v) out (λ p k. meets_limits_lem p k u v) (entry_made s (list_meets c u v out) out (h, (o, tt)))

    -- law: those that contain u..v
    pub contains_shows : Shows c out (Contains u v) (given (behind_check c (list_contains c u v out)) c out)
    unfolding list_contains plain_contains listing_asked plain_listing
    contains_shows = shows_of (contains_limits u v) (Contains u v) out (λ p k. contains_limits_lem p k u v) (entry_made s (list_contains c u v out) out (h, (o, tt)))

-- law: an earliest start is no later than any other
pub unbeaten_start : (p q : Pair) → Unbeaten p q → start_of p ≤ start_of q
unbeaten_start p q h = on (ltb q.y p.y)
    (λ t. absurd (clash (true_beats {p = q} {q = p} (lower (ltb-true _ _ t))) h)) (λ f. ltb-false q.y p.y f)

module _ (p : Pair) (u v : ℕ) (o : u ≤ v) where
  -- law: a strip meets u..v exactly when it covers some slot of them
  pub meets_some : start_of p ≤ end_of p → Meets u v p ↔ CoversSome u v p
  meets_some k = (
    λ m. let a = m.start in
        let b = m.end in
        on (ltb u (start_of p))
        (λ t. let l = ltb-true u (start_of p) t in
        record { slot = start_of p; from = omega arith; to = a; covered = record { start = omega arith; end = k } })
        (λ f. record { slot = u; from = omega arith; to = o; covered = record { start = ltb-false u (start_of p) f; end = b } }),
    λ w. let a = w.from in
        let b = w.to in
        let d = w.covered.start in
        let e = w.covered.end in
        record { start = omega arith; end = omega arith },
  )

  -- law: it contains u..v exactly when it covers every slot of them
  pub contains_all : Contains u v p ↔ CoversAll u v p
  contains_all = (
    λ m w a b. let d = m.start in
        let e = m.end in
        record { start = omega arith; end = omega arith },
    λ h. record { start = (h u (omega arith) o).start; end = (h v o (omega arith)).end },
  )
