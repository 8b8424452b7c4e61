-- What a scan finds does not depend on the list's order: where the x differ, it is the match that no other is closer than.
use Rattle.std.specs.Prelude.{Option, Some, None}
use Prim.Native.Nat.{ℕ}
use mathlib.Core.Path.{◌≡◌, refl, sym, ap, ◌∙◌, subst}
use mathlib.Core.Logic.{◌↔◌}
use mathlib.Core.Bool.{Bool, true, false}
use mathlib.Core.List.{List, [], ◌∷◌, map, Memᴰ}
use Rattle.kinds.specs.declared.Pair.{Pair}
use Rattle.kinds.specs.declared.Limits.{Limits}
use Rattle.kinds.specs.Pairs.{beats}
use Rattle.plain.specs.Plain.{in_range, matches, own, closest, scan, smaller, larger, smallest_x_of, largest_x_of, smallest_y_of, Closest, NoMatch, Alike, Apart}
use Rattle.kinds.proofs.Tests.{on, clash}
use Rattle.plain.proofs.Closest.{Ranks, by_smaller, by_larger, by_beats, closest_nothing, closest_assoc}
use Rattle.plain.proofs.Apart.{apart_same}

-- what of a list is to be found
data Finds (ok : Pair → Bool) (closer : Pair → Pair → Bool) (ps : List Pair) : Option Pair → Type 0 where
  finds_none : NoMatch ok ps → Finds ok closer ps None
  finds_one : {p : Pair} → Closest ok closer ps p → Finds ok closer ps (Some p)

on_cons : (P : Pair → Type 0) {p : Pair} {ps : List Pair} → P p → ((q : Pair) → Memᴰ q ps → P q) → (q : Pair) → Memᴰ q (p ∷ ps) → P q
on_cons P h k q (Memᴰ.head e) = subst P (sym e) h
on_cons P h k q (Memᴰ.tail m) = k q m

module _ (ok : Pair → Bool) {closer : Pair → Pair → Bool} (R : Ranks closer) where
  scan_split : (f : Option Pair) (ps : List Pair) → scan ok closer f ps ≡ closest closer f (scan ok closer None ps)
  scan_split f [] = sym (closest_nothing closer f)
  scan_split f (q ∷ ps) = scan_split (closest closer f (own ok q)) ps
      ∙ (closest_assoc ok R f (own ok q) (scan ok closer None ps) ∙ ap (closest closer f) (sym (scan_split (own ok q) ps)))

  not_closer : (p : Pair) → closer p p ≡ false
  not_closer p = on (closer p p) (λ t. R.asym p p t) (λ f. f)

  step : (p : Pair) (ps : List Pair) {f : Option Pair} → Finds ok closer ps f → Finds ok closer (p ∷ ps) (closest closer (own ok p) f)
  step p ps (finds_none h) = on (ok p)
      (λ e. rw e (finds_one (record {
        member = Memᴰ.head refl;
        fits = e;
        ahead = on_cons (λ q. ok q ≡ true → closer q p ≡ false) (λ _. not_closer p) (λ q m o. absurd (clash o (h q m)));
      })))
      (λ e. rw e (finds_none (on_cons (λ q. ok q ≡ false) e h)))
  step p ps (finds_one {p = v} c) = on (ok p)
      (λ e. on (closer v p)
      (λ t. rw (e, t) (finds_one (record {
        member = Memᴰ.tail c.member;
        fits = c.fits;
        ahead = on_cons (λ q. ok q ≡ true → closer q v ≡ false) (λ _. R.asym v p t) c.ahead;
      })))
      (λ t. rw (e, t) (finds_one (record {
        member = Memᴰ.head refl;
        fits = e;
        ahead = on_cons (λ q. ok q ≡ true → closer q p ≡ false) (λ _. not_closer p) (λ q m o. R.down p v q (c.ahead q m o) t);
      }))))
      (λ e. rw e (finds_one (record {
        member = Memᴰ.tail c.member;
        fits = c.fits;
        ahead = on_cons (λ q. ok q ≡ true → closer q v ≡ false) (λ o. absurd (clash o e)) c.ahead;
      })))

  finds : (ps : List Pair) → Finds ok closer ps (scan ok closer None ps)
  finds [] = finds_none (λ q m. elim m [ ])
  finds (p ∷ ps) = rw (scan_split (own ok p) ps) (step p ps (finds ps))

  found_of : {ps : List Pair} {p : Pair} → Finds ok closer ps (Some p) → Closest ok closer ps p
  found_of (finds_one c) = c

  none_of : {ps : List Pair} → Finds ok closer ps None → NoMatch ok ps
  none_of (finds_none h) = h

  is_nothing : {ps : List Pair} {f : Option Pair} → NoMatch ok ps → Finds ok closer ps f → f ≡ None
  is_nothing h (finds_none k) = refl
  is_nothing h (finds_one {p = v} c) = absurd (clash c.fits (h v c.member))

  is_found : (ps : List Pair) → Apart (map (λ p. p.x) ps) → {p : Pair} {f : Option Pair} → Closest ok closer ps p → Finds ok closer ps f → f ≡ Some p
  is_found ps a {p} c (finds_none h) = absurd (clash c.fits (h p c.member))
  is_found ps a {p} c (finds_one {p = v} d) = ap Some (apart_same (λ p. p.x) ps a v p d.member c.member
      (R.tie v p (c.ahead v d.member d.fits) (d.ahead p c.member c.fits)))

  -- law: a scan finds p exactly where p is the closest match
  pub found_is : (ps : List Pair) → Apart (map (λ p. p.x) ps) → (p : Pair) → (scan ok closer None ps ≡ Some p) ↔ Closest ok closer ps p
  found_is ps a p = (λ e. found_of (rw e at (finds ps)), λ c. is_found ps a c (finds ps))

  -- law: a scan finds nothing exactly where nothing matches
  pub nothing_is : (ps : List Pair) → (scan ok closer None ps ≡ None) ↔ NoMatch ok ps
  nothing_is ps = (λ e. none_of (rw e at (finds ps)), λ h. is_nothing h (finds ps))

  -- law: lists with the same members give the same finding
  pub scan_alike : (ps qs : List Pair) → Apart (map (λ p. p.x) ps) → Alike ps qs → scan ok closer None ps ≡ scan ok closer None qs
  scan_alike ps qs a h = go (finds qs)
    where
      go : {f : Option Pair} → Finds ok closer qs f → scan ok closer None ps ≡ f
      go (finds_none k) = is_nothing (λ p m. k p ((h p).0 m)) (finds ps)
      go (finds_one {p = p} c) = is_found ps a (record {
        member = (h p).1 c.member;
        fits = c.fits;
        ahead = λ q m o. c.ahead q ((h q).0 m) o;
      }) (finds ps)

-- the three questions, so said
module _ (ps : List Pair) where
  module _ (a : Apart (map (λ p. p.x) ps)) (p : Pair) where
    pub smallest_x_of_found : (q : Limits) → (smallest_x_of q ps ≡ Some p) ↔ Closest (matches q) smaller ps p
    unfolding smallest_x_of
    smallest_x_of_found q = found_is (matches q) by_smaller ps a p

    pub largest_x_of_found : (q : Limits) → (largest_x_of q ps ≡ Some p) ↔ Closest (matches q) larger ps p
    unfolding largest_x_of
    largest_x_of_found q = found_is (matches q) by_larger ps a p

    pub smallest_y_of_found : (x0 x1 : ℕ) → (smallest_y_of x0 x1 ps ≡ Some p) ↔ Closest (in_range x0 x1) beats ps p
    unfolding smallest_y_of
    smallest_y_of_found x0 x1 = found_is (in_range x0 x1) by_beats ps a p

  pub smallest_x_of_nothing : (q : Limits) → (smallest_x_of q ps ≡ None) ↔ NoMatch (matches q) ps
  unfolding smallest_x_of
  smallest_x_of_nothing q = nothing_is (matches q) by_smaller ps

  pub largest_x_of_nothing : (q : Limits) → (largest_x_of q ps ≡ None) ↔ NoMatch (matches q) ps
  unfolding largest_x_of
  largest_x_of_nothing q = nothing_is (matches q) by_larger ps

  pub smallest_y_of_nothing : (x0 x1 : ℕ) → (smallest_y_of x0 x1 ps ≡ None) ↔ NoMatch (in_range x0 x1) ps
  unfolding smallest_y_of
  smallest_y_of_nothing x0 x1 = nothing_is (in_range x0 x1) by_beats ps

module _ (ps qs : List Pair) (a : Apart (map (λ p. p.x) ps)) (h : Alike ps qs) where
  -- law: the smallest x does not depend on the list's order
  pub smallest_x_of_alike : (q : Limits) → smallest_x_of q ps ≡ smallest_x_of q qs
  unfolding smallest_x_of
  smallest_x_of_alike q = scan_alike (matches q) by_smaller ps qs a h

  -- law: nor does the largest x
  pub largest_x_of_alike : (q : Limits) → largest_x_of q ps ≡ largest_x_of q qs
  unfolding largest_x_of
  largest_x_of_alike q = scan_alike (matches q) by_larger ps qs a h

  -- law: nor does the smallest y
  pub smallest_y_of_alike : (x0 x1 : ℕ) → smallest_y_of x0 x1 ps ≡ smallest_y_of x0 x1 qs
  unfolding smallest_y_of
  smallest_y_of_alike x0 x1 = scan_alike (in_range x0 x1) by_beats ps qs a h
