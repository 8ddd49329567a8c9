-- What a world becomes as one of its arrays is written.
use Rattle.std.specs.Prelude.{ℕ, List, ℤ}
use Rattle.std.specs.Borrow.{Lends, MutBor, Fml, i64, Array, RattleType, follows}
use Rattle.mesh_model.specs.declared.fields.values.Var.{Var}
use Rattle.mesh_model.specs.Fields.Ranks.{WorldState, world_with}
use Rattle.block_store.specs.declared.store.Beside.{Beside}
use Rattle.rank_world.specs.contracts.world.World.{the_row}

module _ (N G : RattleType) (w : MutBor WorldState) where
  -- once the borrow ends, the array of the node has what was written
  abbrev pub LendsValues : Var → ℕ → MutBor (List ℤ) → Fml
  LendsValues var node lent = Lends (the_row N G) (Array i64 0) w lent (world_with w.now 0 var node)

  abbrev pub LendsOut : Var → ℕ → Beside → Fml
  LendsOut var node lent = follows (the_row N G) (Array i64 0) w.ghost_name lent.out.ghost_name (world_with w.now 0 var node)
