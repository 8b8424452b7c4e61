-- The root's place of a sound pool was replaced, and then the count moves: the pool has changed to the tree that the place holds.
use Prim.Native.Nat.{ℕ}
use mathlib.Core.Path.{◌≡◌, ◌∙◌}
use mathlib.Core.List.{List}
use native.Mathlib.Omega.{arith}
use lib.ListN.{set, length-set}
use lib.Seq.{get_or-set_same, get_or-set_other}
use Rattle.kinds.specs.declared.Pair.{Pair}
use Rattle.trees.specs.Tree.{Tree}
use Rattle.trees.specs.Standing.{Stands}
use Rattle.pools.specs.Cells.{free_of}
use Rattle.pools.specs.Sound.{Sound}
use Rattle.kinds.proofs.Order.{pair_ext}
use Rattle.pools.proofs.Agreement.{agree_then, header_fits, leads_frame, leads_slot}
use Rattle.pools.proofs.Changed.{Relaid}
use Rattle.way.specs.Way.{Replaced}
use Rattle.way.proofs.Links.{agree_cells, cell_agree}

pub count_written : {c d : List ℕ} {t wide : Tree Pair} {free : ℕ} → Sound c → Replaced c 1 t wide d → (Stands 0 wide → ⊥) → free_of d ≡ free → (n : ℕ)
    → Relaid c (set d 3 n) t wide free n
count_written {d = d} {t = t} s h out e n =
    let f = header_fits s.pool in
    let l = h.long in
    record {
      long = length-set d 3 n ∙ l;
      header = record {
        pair = pair_ext (get_or-set_other d 3 0 n 0 (omega arith) ∙ h.rest 0 (omega arith) (omega arith) out ∙ s.mark) (get_or-set_other d 3 1 n 0 (omega arith) ∙ h.link);
        left = get_or-set_other d 3 2 n 0 (omega arith) ∙ e;
        right = get_or-set_same d 3 n 0 (omega arith);
      };
      leads = leads_frame (length-set d 3 n) h.leads (λ u m. let i = (leads_slot t h.leads m).some in cell_agree d 3 n u (omega arith));
      rest = λ u o m. let i = o.some in agree_then (agree_cells u (λ j z. h.rest j (omega arith) (omega arith) (λ k. m (rw z at k)))) (cell_agree d 3 n u (omega arith));
    }
