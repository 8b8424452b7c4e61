-- The heir of a slot, as the code finds it, and a slot, as the code gives it up. It assumes the links that the code has read.
use Prim.Native.Nat.{ℕ}
use mathlib.Core.Path.{◌≡◌, sym, ◌∙◌}
use mathlib.Core.Logic.{◌≢◌}
use mathlib.Core.Bool.{Bool, true, false}
use mathlib.Core.List.{List}
use lib.ListN.{set}
use Rattle.std.specs.Prelude.{None, Some}
use Rattle.kinds.specs.declared.Pair.{Pair}
use Rattle.kinds.specs.Pairs.{beats}
use Rattle.pools.specs.Cells.{free_of, pair_at, left_at, right_at, put_free}
use Rattle.pools.specs.Links.{son_at, link_cell}
use Rattle.heirs.specs.Heirs.{Heirs, no_sons, heir, released}

module _ (c : List ℕ) (s : ℕ) {l r : ℕ} (el : l ≡ left_at c s) (er : r ≡ right_at c s) where
  pub no_heir : l ≡ 0 → r ≡ 0 → Heirs c s None
  no_heir zl zr = no_sons (sym el ∙ zl) (sym er ∙ zr)

  pub only_right : {h : ℕ} → l ≡ 0 → r ≢ 0 → h ≡ link_cell s false → Heirs c s (Some h)
  unfolding son_at
  only_right zl nr e = rw e (heir false (rw er at nr) (λ n. absurd (n (sym el ∙ zl))))

  pub only_left : {h : ℕ} → l ≢ 0 → r ≡ 0 → h ≡ link_cell s true → Heirs c s (Some h)
  unfolding son_at
  only_left nl zr e = rw e (heir true (rw el at nl) (λ n. absurd (n (sym er ∙ zr))))

  some_son : l ≢ 0 → r ≢ 0 → (b : Bool) → son_at c s b ≢ 0
  unfolding son_at
  some_son nl nr true = rw el at nl
  some_son nl nr false = rw er at nr

  pub both_sons : {h : ℕ} {p q : Pair} {b : Bool} → l ≢ 0 → r ≢ 0 → p ≡ pair_at c l → q ≡ pair_at c r → b ≡ beats p q → h ≡ link_cell s b → Heirs c s (Some h)
  both_sons {b = b} nl nr ep eq eb e = rw e (heir b (some_son nl nr b) (λ _. rw (← el, ← er, ← ep, ← eq) (sym eb)))

-- as the code releases a slot
pub released_by : (c : List ℕ) (cell s : ℕ) {b d : List ℕ} {first : ℕ} → first ≡ free_of c → b ≡ put_free (set c cell 0) s first → d ≡ set b 2 s → d ≡ released c cell s
unfolding released
released_by c cell s ef eb ed = rw (eb, ef) at ed
