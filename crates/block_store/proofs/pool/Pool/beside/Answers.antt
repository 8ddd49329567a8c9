use Rattle.std.proofs.Common.{◌≡◌, ◌<◌, ℕ, ap, sym, subst, ◌∙◌, length, refl, List, ℤ, [], ◌∷◌, arith}
use Rattle.std.specs.Prelude.{slice_index}
use Rattle.mesh_model.specs.Fields.Arrays.{Arrays, array_in, array_number, block_in, with_array, with_block}
use Rattle.mesh_model.proofs.FieldLemmas.BlockArrays.{number_once}
use Rattle.block_store.specs.Held.{pick}
use Rattle.block_store.specs.PoolLends.{var_in}
use Rattle.block_store.specs.Pools.{IsPool}
use Rattle.block_store.proofs.Pooled.{each_of_four, has_there, pool_length, pool_lent, pool_there}
use Rattle.block_store.proofs.pool.Pool.beside.Goals as goal

pub beside-requires-clause-reads : goal.beside-requires-clause-reads
beside-requires-clause-reads g c =
    let p = c.self.inside in
    let a : Arrays = record { counts = p.layout; held = p.taken.items; blocks = p.store } in
    let there : (k m : ℕ) → k < 4 → m ≡ array_number (var_in c.args.reads k) → m < length (block_in p.store c.args.slot) = λ k m h e.
    subst (λ r. r < length (block_in p.store c.args.slot)) (sym e)
    (pool_there g.row.N g.row.G a p.spare p.first c.self.invariant (var_in c.args.reads k) c.args.slot (has_there a _ _ c.args.slot c.self.view_is (c.requires.readable k h))).1 in
    each_of_four
    (λ k. slice_index (c.array_number.result ∷ c.array_number-2.result ∷ c.array_number-3.result ∷ c.array_number-4.result ∷ []) k < length (block_in p.store c.args.slot))
    (there 0 _ (omega arith) c.array_number.ensures) (there 1 _ (omega arith) c.array_number-2.ensures) (there 2 _ (omega arith) c.array_number-3.ensures)
    (there 3 _ (omega arith) c.array_number-4.ensures)

pub beside-requires-clause-write : goal.beside-requires-clause-write
beside-requires-clause-write g c =
    let p = c.self.inside in
    let a : Arrays = record { counts = p.layout; held = p.taken.items; blocks = p.store } in
    subst (λ r. r < length (block_in p.store c.args.slot)) (sym c.array_number-5.ensures)
    (pool_there g.row.N g.row.G a p.spare p.first c.self.invariant c.args.write c.args.slot (has_there a _ _ c.args.slot c.self.view_is c.requires.writable)).1

pub beside-requires-clause-apart : goal.beside-requires-clause-apart
beside-requires-clause-apart g c =
    let apart : (k m : ℕ) → k < 4 → m ≡ array_number (var_in c.args.reads k) → m ≡ c.array_number-5.result → ⊥ = λ k m h e same.
    c.requires.apart k h (number_once (var_in c.args.reads k) c.args.write (sym e ∙ same ∙ c.array_number-5.ensures)) in
    each_of_four
    (λ k. slice_index (c.array_number.result ∷ c.array_number-2.result ∷ c.array_number-3.result ∷ c.array_number-4.result ∷ []) k ≡ c.array_number-5.result → ⊥)
    (apart 0 _ (omega arith) c.array_number.ensures) (apart 1 _ (omega arith) c.array_number-2.ensures) (apart 2 _ (omega arith) c.array_number-3.ensures)
    (apart 3 _ (omega arith) c.array_number-4.ensures)

pub invariant_of-self-lent : goal.invariant_of-self-lent
unfolding with_array
invariant_of-self-lent g c w =
    let p = c.self.inside in
    let a : Arrays = record { counts = p.layout; held = p.taken.items; blocks = p.store } in
    subst (λ m. IsPool g.row.N g.row.G (record { counts = p.layout; held = p.taken.items; blocks = with_block p.store c.args.slot m w }) p.spare p.first)
    (sym c.array_number-5.ensures)
    (pool_lent g.row.N g.row.G a p.spare p.first c.self.invariant c.args.write c.args.slot w (has_there a _ _ c.args.slot c.self.view_is c.requires.writable))

pub returns : goal.returns
unfolding array_in with_array
returns g c =
    let p = c.self.inside in
    let a : Arrays = record { counts = p.layout; held = p.taken.items; blocks = p.store } in
    let read : (k m : ℕ) (r : List ℤ) → m ≡ array_number (var_in c.args.reads k) → r ≡ pick p.store c.args.slot m → r ≡ array_in c.args.self.now (var_in c.args.reads k) c.args.slot =
    λ k m r is e. e ∙ ap (pick p.store c.args.slot) is ∙ ap (λ b. array_in b (var_in c.args.reads k) c.args.slot) c.self.view_is in
    let out = c.beside.ensures.out ∙ ap (pick p.store c.args.slot) c.array_number-5.ensures in (
      (
        refl,
        λ w.
            ap (λ (m : ℕ). record a { blocks = with_block p.store c.args.slot m w }) c.array_number-5.ensures
            ∙ ap (λ b. with_array b c.args.write c.args.slot w) c.self.view_is,
      ),
      record {
        lends = tt;
        reads = record {
          gives_a = read 0 _ _ c.array_number.ensures c.beside.ensures.a;
          gives_b = read 1 _ _ c.array_number-2.ensures c.beside.ensures.b;
          gives_c = read 2 _ _ c.array_number-3.ensures c.beside.ensures.c;
          gives_d = read 3 _ _ c.array_number-4.ensures c.beside.ensures.d;
          gives_out = out ∙ ap (λ b. array_in b c.args.write c.args.slot) c.self.view_is;
          sizes = λ k h.
              ap (λ b. length (array_in b (var_in c.args.reads k) c.args.slot)) (sym c.self.view_is)
              ∙ pool_length g.row.N g.row.G a p.spare p.first c.self.invariant _ c.args.slot (has_there a _ _ c.args.slot c.self.view_is (c.requires.readable k h));
          whole = ap length out ∙ pool_length g.row.N g.row.G a p.spare p.first c.self.invariant c.args.write c.args.slot (has_there a _ _ c.args.slot c.self.view_is c.requires.writable);
        };
      },
    )
