-- The loop of set up, a turn at a time: what is still to be chained, done, is what was to be chained. It assumes that the length is a pool's.
use Prim.Native.Nat.{ℕ, suc, ◌+◌, ◌-◌, ◌<◌}
use mathlib.Core.Path.{◌≡◌}
use mathlib.Core.List.{List}
use native.Mathlib.Omega.{arith}
use native.Mathlib.Numerals.{add-one}
use Rattle.pools.specs.Cells.{slots_of, put_free, put_header, fresh}
use Rattle.pools.specs.Sound.{Pool}
use Rattle.pools.proofs.Fresh.{chained, chained_fresh}

pub turn : (c d : List ℕ) (s n : ℕ) → s < n → d ≡ put_free c s (s + 1) → chained d (s + 1) (suc (n - (s + 1))) ≡ chained c s (suc (n - s))
unfolding chained
turn c d s n h e =
    let z : n - s ≡ suc (n - (s + 1)) = omega arith in
    rw (z, e, add-one s)

pub last_chained : (c d : List ℕ) (s n : ℕ) → s ≡ n → d ≡ put_free c n 0 → d ≡ chained c s (suc (n - s))
unfolding chained
last_chained c d s n h e = let z : n - s ≡ 0 = omega arith in rw (z, h) e

pub whole_chain : (c d : List ℕ) → Pool c → d ≡ put_header c 0 1 0 → chained d 1 (suc (slots_of c - 1)) ≡ fresh (slots_of c)
whole_chain c d p e =
    let z : suc (slots_of c - 1) ≡ slots_of c = omega arith in
    rw (z, e) (chained_fresh c (slots_of c) p.whole)
