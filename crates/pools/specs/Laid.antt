-- The cells after a change: the tree laid out in its slots, the header, and the slot that was given up.
use Rattle.std.specs.Prelude.{ℕ, ◌+◌, ◌-◌, List}
use Rattle.kinds.specs.declared.Pair.{Pair}
use Rattle.stripes.specs.Stripe.{root_stripe}
use Rattle.trees.specs.Tree.{Tree, none, fork, itself}
use Rattle.trees.specs.Changes.{Cut, go_down, take_out}
use Rattle.pools.specs.Cells.{tree_of, free_of, count_of, right_at, put_header, put_pair, put_links, put_free}

-- the slot at a tree's top, 0 where it is empty
abbrev pub top : Tree Pair → ℕ
top none = 0
top (fork s p l r) = s

-- every slot of a tree written with its pair and the links to its sons
unfoldable pub lay : Tree Pair → List ℕ → List ℕ
lay none c = c
lay (fork s p l r) c = put_links (put_pair (lay r (lay l c)) s p) s (top l) (top r)

-- a pair went down and took the first free slot: the next free one is the first now
unfoldable pub inserted : List ℕ → Pair → List ℕ
inserted c p =
    let t : Tree Pair = go_down itself (free_of c) p root_stripe (tree_of c) in
    lay t (put_header c (top t) (right_at c (free_of c)) (count_of c + 1))

-- x was taken out: the slot that was given up is in the free form, and the first free one now
unfoldable pub deleted : List ℕ → ℕ → List ℕ
deleted c x =
    let d : Cut Pair = take_out itself x root_stripe (tree_of c) in
    put_free (lay d.tree (put_header c (top d.tree) d.slot (count_of c - 1))) d.slot (free_of c)
