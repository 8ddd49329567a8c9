-- What a pool becomes as one of its arrays is written.
use Rattle.std.specs.Prelude.{◌≡◌, ℕ, ◌<◌, List, ℤ, slice_index_or, length}
use Rattle.std.specs.Borrow.{Lends, MutBor, Fml, i64, Array, RattleType, follows}
use Rattle.mesh_model.specs.declared.fields.values.Var.{Var}
use Rattle.mesh_model.specs.declared.fields.values.Var.TheVariants.{Cell}
use Rattle.mesh_model.specs.Fields.Arrays.{Arrays, HasArray, array_in, var_length, with_array}
use Rattle.block_store.specs.contracts.pool.Pool.{the_row}
use Rattle.block_store.specs.declared.store.Beside.{Beside}

-- the k-th of some variables
abbrev pub var_in : List Var → ℕ → Var
var_in vars k = slice_index_or vars k (Cell 0)

-- arrays to read, and another to write, are there
pub record CanBeside (a : Arrays) (slot : ℕ) (reads : List Var) (write : Var) : Type 0 where
  pub readable : (k : ℕ) → k < 4 → HasArray a (var_in reads k) slot
  pub writable : HasArray a write slot
  pub apart : (k : ℕ) → k < 4 → var_in reads k ≡ write → ⊥

-- they are lent, whole
pub record IsBeside (n g : ℕ) (arrays : Arrays) (slot : ℕ) (reads : List Var) (write : Var) (lent : Beside) : Type 0 where
  pub gives_a : lent.a.now ≡ array_in arrays (var_in reads 0) slot
  pub gives_b : lent.b.now ≡ array_in arrays (var_in reads 1) slot
  pub gives_c : lent.c.now ≡ array_in arrays (var_in reads 2) slot
  pub gives_d : lent.d.now ≡ array_in arrays (var_in reads 3) slot
  pub gives_out : lent.out.now ≡ array_in arrays write slot
  pub sizes : (k : ℕ) → k < 4 → length (array_in arrays (var_in reads k) slot) ≡ var_length n g (var_in reads k)
  pub whole : length lent.out.now ≡ var_length n g write

module _ (N G : RattleType) (p : MutBor Arrays) where
  -- once the borrow ends, the array has what was written
  abbrev pub LendsArray : Var → ℕ → MutBor (List ℤ) → Fml
  LendsArray var slot r = Lends (the_row N G) (Array i64 0) p r (with_array p.now var slot)

  abbrev pub LendsOut : Var → ℕ → Beside → Fml
  LendsOut var slot lent = follows (the_row N G) (Array i64 0) p.ghost_name lent.out.ghost_name (with_array p.now var slot)
