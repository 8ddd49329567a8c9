-- Worlds of ranks as plain data: what every rank knows, and what each rank has of its own.
use Rattle.std.specs.Prelude.{◌≡◌, ℕ, ◌<◌, ◌↔◌, List, [], length, replicate, set, ℤ, pos, slice_index_or}
use Rattle.mesh_model.specs.declared.fields.values.Var.{Var}
use Rattle.mesh_model.specs.declared.geometry.Shape.{Shape}
use Rattle.mesh_model.specs.Fields.Arrays.{AreWhole, Arrays, Counts, HasArray, IsHeld, OnlyArray, array_in, var_length, with_array}
use Rattle.mesh_model.specs.Tree.Order.{nodes}
use Rattle.mesh_model.specs.Tree.Kinds.{Grid}

-- what every rank knows: the grid of the mesh, and how many variables there are
pub record Told : Type 0 where
  pub grid : Grid
  pub counts : Counts

-- what a rank has of its own: the arrays of the nodes that it holds, by their numbers
pub record Own : Type 0 where
  pub values : Arrays

pub record RankState : Type 0 where
  pub id : ℕ
  pub own : Own

pub record WorldState : Type 0 where
  pub told : Told
  pub ranks : List RankState

-- a rank that there is none of
abbrev pub nobody : RankState
nobody = record { id = 0; own = record { values = record { counts = record { cells = 0; faces = 0; edges = 0 }; held = []; blocks = [] } } }

abbrev pub rank_at : WorldState → ℕ → RankState
rank_at w r = slice_index_or w.ranks r nobody

-- a rank, and a world, after an array of a rank's node was written
abbrev pub rank_with : RankState → Var → ℕ → List ℤ → RankState
rank_with r var node xs = record r { own = record (r.own) { values = with_array r.own.values var node xs } }

abbrev pub world_with : WorldState → ℕ → Var → ℕ → List ℤ → WorldState
world_with w r var node xs = record w { ranks = set w.ranks r (rank_with (rank_at w r) var node xs) }

-- the blocks of the grid have n cells along each axis and g guard cells on each side
pub record IsSized (n g : ℕ) (s : Shape) : Type 0 where
  pub cells : s.n ≡ n
  pub guards : s.g ≡ g

-- the world has one rank, which holds all nodes
pub record IsFit (n g : ℕ) (w : WorldState) : Type 0 where
  pub one : length w.ranks ≡ 1
  pub sizes : IsSized n g w.told.grid.shape
  pub counts : (rank_at w 0).own.values.counts ≡ w.told.counts
  pub holds : (node : ℕ) → IsHeld (rank_at w 0).own.values node ↔ (node < length (nodes w.told.grid.leaves))
  pub whole : AreWhole n g (rank_at w 0).own.values

-- all numbers of the arrays that there are are 0
pub record AreZero (n g : ℕ) (a : Arrays) : Type 0 where
  pub each : (var : Var) (key : ℕ) → HasArray a var key → array_in a var key ≡ replicate (var_length n g var) (pos 0)

-- one array of one rank may have other numbers, and all else is as it was
pub record OnlyOf (old new : WorldState) (r : ℕ) (var : Var) (node : ℕ) : Type 0 where
  pub told : new.told ≡ old.told
  pub count : length new.ranks ≡ length old.ranks
  pub others : (s : ℕ) → (s ≡ r → ⊥) → rank_at new s ≡ rank_at old s
  pub here : OnlyArray (rank_at old r).own.values (rank_at new r).own.values var node
