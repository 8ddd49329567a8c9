-- What a rank becomes as one of its arrays is written.
use Rattle.std.specs.Prelude.{ℕ, List, ℤ}
use Rattle.std.specs.Borrow.{Lends, MutBor, Fml, i64, Array, RattleType, follows}
use Rattle.mesh_model.specs.declared.fields.values.Var.{Var}
use Rattle.mesh_model.specs.Fields.Ranks.{RankState, rank_with}
use Rattle.block_store.specs.declared.store.Beside.{Beside}
use Rattle.rank_world.specs.contracts.rank.Rank.{the_row}

module _ (N G : RattleType) (r : MutBor RankState) where
  -- once the borrow ends, the array of the node has what was written
  abbrev pub LendsValues : Var → ℕ → MutBor (List ℤ) → Fml
  LendsValues var node lent = Lends (the_row N G) (Array i64 0) r lent (rank_with r.now var node)

  abbrev pub LendsOut : Var → ℕ → Beside → Fml
  LendsOut var node lent = follows (the_row N G) (Array i64 0) r.ghost_name lent.out.ghost_name (rank_with r.now var node)
