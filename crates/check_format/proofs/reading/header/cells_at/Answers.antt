use Rattle.std.proofs.Common.{◌≡◌, ◌+◌, ◌-◌, suc, [], ◌∷◌, ◌++◌, List, ℕ, sym, ap, ap₂, ◌∙◌, arith, length, Some}
use Rattle.std.proofs.lemmas.List.{length_push}
use Rattle.mesh_model.specs.Fields.VariableNames.{VariableNames, no_names}
use Rattle.mesh_model.specs.Images.Reading.{name}
use Rattle.check_format.specs.Readers.{with_cells}
use Rattle.check_format.proofs.Readers.{told, told_none, told_more, told_fails, told_all}
use Rattle.check_format.proofs.reading.header.cells_at.Goals as goal

pub loop-init : goal.loop-init
loop-init c = record {
  told = let z : c.args.count - 0 ≡ c.args.count = omega arith in ap₂ (λ (v : VariableNames) n. told name.read v.cells n c.args.bytes.now) c.new-names.ensures z ∙ told_none name.read c.args.count c.args.bytes.now;
  alone = c.new-names.ensures ∙ ap (λ (v : VariableNames). record no_names { cells = v.cells }) (sym c.new-names.ensures);
  few = ap (λ (v : VariableNames). length v.cells) c.new-names.ensures;
}

pub returns-in-None : goal.returns-in-None
returns-in-None c =
    let lt = c.loop-test.true in
    ap (with_cells no_names) (told_fails name.read c.loop.names.cells (c.args.count - c.loop.counter) c.loop.rest.now (omega arith) c.in-None.ensures.name ∙ c.loop.invariant.told)

pub add_cell-requires-clause-room : goal.add_cell-requires-clause-room
add_cell-requires-clause-room c = let few = c.loop.invariant.few in let most = c.requires in let lt = c.loop-test.true in omega arith

pub loop-preserved : goal.loop-preserved
loop-preserved c =
    let lt = c.loop-test.true in
    let added = c.in_ok-add_cell-in-Some.ensures.ok in
    let cells_are = ap (λ (v : VariableNames). v.cells) added in
    let few = c.loop.invariant.few in
    record {
      told = ap (λ (u : List (List ℕ)). told name.read u (c.args.count - (c.loop.counter + 1)) c.in-Some.after.now) cells_are
          ∙ told_more name.read c.loop.names.cells (c.args.count - c.loop.counter) (c.args.count - (c.loop.counter + 1)) c.loop.rest.now c.in-Some.name.now c.in-Some.after.now (omega arith) c.in-Some.ensures.name
          ∙ c.loop.invariant.told;
      alone = added ∙ ap (λ (v : VariableNames). record v { cells = c.loop.names.cells ++ c.in-Some.name.now ∷ [] }) c.loop.invariant.alone ∙ ap (λ (u : List (List ℕ)). record no_names { cells = u }) (sym cells_are);
      few = ap length cells_are ∙ length_push c.loop.names.cells c.in-Some.name.now ∙ ap (λ n. n + 1) few;
    }

pub returns : goal.returns
returns c =
    let end = c.loop-test.false in
    ap (λ (v : VariableNames). Some (v, c.loop.rest.now)) c.loop.invariant.alone
    ∙ ap (with_cells no_names) (told_all name.read c.loop.names.cells (c.args.count - c.loop.counter) c.loop.rest.now (omega arith) ∙ c.loop.invariant.told)
