-- A tree's members as a list: they are the same, and in a well-formed tree their x differ.
use Prim.Native.Nat.{ℕ}
use mathlib.Core.Logic.{◌↔◌, ⊎_elim}
use mathlib.Core.List.Memᴰ
use mathlib.Core.List.{Memᴰ}
use native.Mathlib.Omega.{arith}
use Rattle.kinds.specs.declared.Pair.{Pair}
use Rattle.stripes.specs.Stripe.{Stripe, left_part, right_part}
use Rattle.trees.specs.Tree.{Tree, none, fork, members, Mem, here, in_left, in_right, xs, Well}
use Rattle.trees.specs.Standing.{New}
use Rattle.plain.specs.Plain.{Differs, Apart}
use Rattle.trees.proofs.Trees.{all_map, all_at, well_in, under_new}
use Rattle.plain.proofs.Apart.{differs_append, apart_append}

module _ {A : Type 0} where
  mem_list : {q : A} {t : Tree A} → Mem q t → Memᴰ q (members t)
  mem_list (here e) = Memᴰ.head e
  mem_list (in_left {r = r} m) = Memᴰ.tail (Memᴰ.append_left (members r) (mem_list m))
  mem_list (in_right {l = l} m) = Memᴰ.tail (Memᴰ.append_right (members l) (mem_list m))

  list_mem : {q : A} (t : Tree A) → Memᴰ q (members t) → Mem q t
  list_mem none m = elim m [ ]
  list_mem (fork i p l r) (Memᴰ.head e) = here e
  list_mem (fork i p l r) (Memᴰ.tail m) =
      ⊎_elim (λ m. in_left (list_mem l m)) (λ m. in_right (list_mem r m)) (Memᴰ.append_cases (members l) m)

  -- law: what some slot holds is what stands in the list
  pub members_mem : (q : A) (t : Tree A) → Mem q t ↔ Memᴰ q (members t)
  members_mem q t = (λ m. mem_list m, λ m. list_mem t m)

module _ {A : Type 0} (key : A → Pair) where
  new_differs : (x : ℕ) (t : Tree A) → New key x t → Differs x (xs key t)
  new_differs x none h = tt
  new_differs x (fork i p l r) h = (h.0, differs_append (λ p. (key p).x) x (members l) (members r) (new_differs x l h.1) (new_differs x r h.2))

  -- law: the x of a well-formed tree differ
  pub well_apart : (s : Stripe) (t : Tree A) → Well key s t → Apart (xs key t)
  well_apart s none w = tt
  well_apart s (fork i p l r) w = (
    differs_append (λ p. (key p).x) (key p).x (members l) (members r)
        (new_differs (key p).x l (under_new key (key p) l w.over_left)) (new_differs (key p).x r (under_new key (key p) r w.over_right)),
    apart_append (λ p. (key p).x) (members l) (members r) (well_apart (left_part s) l w.left) (well_apart (right_part s) r w.right)
        (λ a m. let j = all_at _ (well_in key (left_part s) l w.left) (list_mem l m) in
        new_differs (key a).x r (all_map (λ q k. omega arith) r (well_in key (right_part s) r w.right))),
  )
