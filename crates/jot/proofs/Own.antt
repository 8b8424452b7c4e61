-- A slot's own pair: out of range it is passed over, without room it is counted, and else it is written. Nothing is assumed of the pool.
use Prim.Native.Nat.{ℕ, suc, ◌+◌, ◌-◌, ◌≤◌, ◌<◌}
use mathlib.Core.Path.{◌≡◌, refl, sym, ◌∙◌}
use mathlib.Core.Bool.{Bool, true, false}
use mathlib.Core.List.{List}
use native.Mathlib.Omega.{arith}
use Rattle.kinds.specs.declared.Pair.{Pair}
use Rattle.plain.specs.Plain.{in_range}
use Rattle.walks.specs.Walks.{list_own, room_of}
use Rattle.jot.specs.Jotting.{put_one, put_all, Put}

-- a slot's own pair
module _ (o : List ℕ) (n x0 x1 : ℕ) (p : Pair) {g : Bool} (eg : g ≡ in_range x0 x1 p) where
  abbrev Own : List ℕ → ℕ → Type 0
  Own o' n' = Put o n (list_own (in_range x0 x1 p) (room_of o - n) p) o' n'

  pub own_out : g ≡ false → Own o n
  unfolding put_all
  own_out f =
      let e : in_range x0 x1 p ≡ false = sym eg ∙ f in
      rw e (record { count = omega arith; cells = refl })

  module _ (t : g ≡ true) (r : ℕ) (er : r ≡ room_of o) where
    inside : in_range x0 x1 p ≡ true
    inside = sym eg ∙ t

    pub own_counted : r ≤ n → Own o (n + 1)
    unfolding put_all
    own_counted h =
        let z : room_of o - n ≡ 0 = omega arith in
        rw (inside, z) (record { count = omega arith; cells = refl })

    pub own_put : n < r → Own (put_one o n p) (n + 1)
    unfolding put_all
    own_put h =
        let z : room_of o - n ≡ suc (room_of o - n - 1) = omega arith in
        rw (inside, z) (record { count = omega arith; cells = refl })
