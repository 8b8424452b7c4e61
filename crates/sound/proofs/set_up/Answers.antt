-- The length decides; a fresh pool is written, or nothing. Nothing is assumed.
use mathlib.Core.Path.{refl, sym, ap, ◌∙◌}
use mathlib.Core.Bool.{not}
use mathlib.Core.List.{[], ◌∷◌}
use Rattle.kinds.proofs.Tables.{gives, refuses, accepts}
use Rattle.pools.proofs.Decided.{pool_true}
use Rattle.sound.specs.Promises.{length_line, set_up}
use Rattle.sound.proofs.set_up.Goals as goal

pub write_fresh-requires : goal.write_fresh-requires
write_fresh-requires c =
    pool_true _ (sym c.is_pool.ensures ∙ c.if-is_pool.true)

pub returns-then-is_pool : goal.returns-then-is_pool
unfolding set_up
returns-then-is_pool c =
    accepts (length_line _ ∷ []) (ap not (sym c.is_pool.ensures ∙ c.if-is_pool.true), tt) (gives refl c.write_fresh.ensures refl)

pub returns : goal.returns
unfolding set_up
returns c =
    refuses [] (length_line _) [] tt (ap not (sym c.is_pool.ensures ∙ c.if-is_pool.false)) refl
