use Rattle.mesh_model.specs.declared.fields.values.Var.TheVariants.{Cell, CellWork}
use Rattle.mesh_model.proofs.FieldLemmas.Worlds.{has_array}
use Rattle.rank_world.proofs.Exchanged.{fit_exchanged}
use Rattle.std.proofs.Common.{arith, refl}
use Rattle.mesh_steps.proofs.settling.take_leaf.Goals as goal

pub exchange-requires : goal.exchange-requires
exchange-requires g c =
    let w = c.args.world.now in
    let there = c.requires.leaf.leaf.there in
    let has_cells = has_array g.row.N g.row.G w (Cell c.args.v) c.args.node c.requires.leaf.fit there c.requires.leaf.variable in
    let has_work = has_array g.row.N g.row.G w CellWork c.args.node c.requires.leaf.fit there tt in (omega arith, (has_cells, (has_work, (refl, λ e. cc))))

pub returns-clause-fit : goal.returns-clause-fit
returns-clause-fit g c =
    let w = c.args.world.now in
    let there = c.requires.leaf.leaf.there in
    let has_cells = has_array g.row.N g.row.G w (Cell c.args.v) c.args.node c.requires.leaf.fit there c.requires.leaf.variable in
    let has_work = has_array g.row.N g.row.G w CellWork c.args.node c.requires.leaf.fit there tt in
    fit_exchanged g.row.N g.row.G w c.exchange.new.self c.args.node (Cell c.args.v) CellWork c.exchange.ensures c.requires.leaf.fit has_cells has_work refl
