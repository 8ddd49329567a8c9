-- What a store becomes as one of its arrays is written.
use Rattle.std.specs.Prelude.{ℕ, ℤ, List}
use Rattle.std.specs.Borrow.{Lends, MutBor, Fml, Array, i64, follows}
use Rattle.block_store.specs.declared.store.Beside.{Beside}
use Rattle.block_store.specs.contracts.store.Store.{the_row}
use Rattle.mesh_model.specs.Fields.Arrays.{with_block}

module _ (s : MutBor (List (List (List ℤ)))) where
  abbrev pub LendsPlace : ℕ → ℕ → MutBor (List ℤ) → Fml
  LendsPlace slot number r = Lends the_row (Array i64 0) s r (λ w. with_block s.now slot number w)

  abbrev pub LendsBeside : ℕ → ℕ → Beside → Fml
  LendsBeside slot number r = follows the_row (Array i64 0) s.ghost_name r.out.ghost_name (λ w. with_block s.now slot number w)
