-- Two arrays of a node that change places.
use Rattle.std.specs.Prelude.{◌≡◌, ℕ, length}
use Rattle.mesh_model.specs.declared.fields.values.Var.{Var}
use Rattle.mesh_model.specs.Fields.Ranks.{RankState, WorldState, rank_at}
use Rattle.block_store.specs.Pools.{IsExchanged}

-- all else of the rank that holds them is as it was
pub record IsRankExchanged (old new : RankState) (node : ℕ) (a b : Var) : Type 0 where
  pub id : new.id ≡ old.id
  pub arrays : IsExchanged old.own.values new.own.values node a b

-- and all else of the world
pub record IsWorldExchanged (old new : WorldState) (node : ℕ) (a b : Var) : Type 0 where
  pub told : new.told ≡ old.told
  pub count : length new.ranks ≡ length old.ranks
  pub others : (s : ℕ) → (s ≡ 0 → ⊥) → rank_at new s ≡ rank_at old s
  pub here : IsRankExchanged (rank_at old 0) (rank_at new 0) node a b
