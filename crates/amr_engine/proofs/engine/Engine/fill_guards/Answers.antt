use Rattle.std.proofs.Common.{◌≡◌, arith, sym, subst, ◌∙◌}
use Rattle.mesh_model.specs.Fields.Ranks.{Told}
use Rattle.mesh_model.specs.Fields.Valid.{ValidMesh}
use Rattle.guard_fill.specs.Restricting.{IsGroupOf}
use Rattle.rank_world.specs.Holding.{IsOfMesh, IsOfValidMesh}
use Rattle.amr_engine.specs.EngineMesh.{mesh_of}
use Rattle.amr_engine.specs.Guards.{field_of}
use Rattle.mesh_steps.proofs.Guarded.{guards_stay, guards_told, mesh_there, parents_stay, parents_told}
use Rattle.amr_engine.proofs.Made.{field_held, group_counted, laid_same, of_now, same_mesh}
use Rattle.amr_engine.proofs.ValidOut.{mesh_out}
use Rattle.amr_engine.proofs.engine.Engine.fill_guards.Goals as goal

pub restrict_all-requires : goal.restrict_all-requires
restrict_all-requires g c =
    let self = c.args.self.now in
    let m = mesh_of self.names self.world self.outs.items self.marks in
    let valid = mesh_out m self.valid in
    let of : IsOfValidMesh self.world = record { mesh = m; valid = valid; world = of_now self.names self.world self.outs.items self.marks self.laid_out valid } in
    (omega arith, (self.fit, (of, group_counted self.names self.world self.outs.items self.marks self.laid_out valid c.args.group c.requires.group)))

pub fill-requires : goal.fill-requires
fill-requires g c =
    let self = c.args.self.now in
    let m = mesh_of self.names self.world self.outs.items self.marks in
    let valid = mesh_out m self.valid in
    let b = c.restrict_all.new.world in
    let group = c.args.group in
    let of : IsOfMesh b m = parents_stay group self.world b m c.restrict_all.ensures.only (of_now self.names self.world self.outs.items self.marks self.laid_out valid) in
    let there = group_counted self.names self.world self.outs.items self.marks self.laid_out valid group c.requires.group in
    let still : IsGroupOf b.told.counts group = subst (λ (t : Told). IsGroupOf t.counts group) (sym (parents_told group self.world b c.restrict_all.ensures.only)) there in
    (omega arith, (c.restrict_all.ensures.fit, (still, mesh_there group b (record { mesh = m; valid = valid; world = of }))))

pub invariant_of-self : goal.invariant_of-self
invariant_of-self g c =
    let self = c.args.self.now in
    let m = mesh_of self.names self.world self.outs.items self.marks in
    let valid = mesh_out m self.valid in
    let a = self.world in
    let b = c.restrict_all.new.world in
    let d = c.fill.new.world in
    let group = c.args.group in
    let told : d.told ≡ a.told = guards_told group b d c.fill.ensures.only ∙ parents_told group a b c.restrict_all.ensures.only in
    let of : IsOfMesh d m = guards_stay group b d m c.fill.ensures.only (parents_stay group a b m c.restrict_all.ensures.only (of_now self.names self.world self.outs.items self.marks self.laid_out valid)) in
    record {
      room = c.args.self.now.room;
      named = c.args.self.now.named;
      fit = c.fill.ensures.fit;
      laid_out = laid_same self.names self.world self.outs.items self.marks self.laid_out valid d told of;
      valid = ∣ subst ValidMesh (sym (same_mesh self.names self.world self.outs.items self.marks self.laid_out valid d told of)) valid ∣₁;
    }

pub returns-clause-mesh : goal.returns-clause-mesh
returns-clause-mesh g c =
    let self = c.args.self.now in
    let m = mesh_of self.names self.world self.outs.items self.marks in
    let valid = mesh_out m self.valid in
    let a = self.world in
    let b = c.restrict_all.new.world in
    let d = c.fill.new.world in
    let group = c.args.group in
    let told : d.told ≡ a.told = guards_told group b d c.fill.ensures.only ∙ parents_told group a b c.restrict_all.ensures.only in
    let of : IsOfMesh d m = guards_stay group b d m c.fill.ensures.only (parents_stay group a b m c.restrict_all.ensures.only (of_now self.names self.world self.outs.items self.marks self.laid_out valid)) in
    same_mesh self.names self.world self.outs.items self.marks self.laid_out valid d told of

pub returns-clause-told : goal.returns-clause-told
returns-clause-told g c =
    guards_told c.args.group c.restrict_all.new.world c.fill.new.world c.fill.ensures.only ∙ parents_told c.args.group c.args.self.now.world c.restrict_all.new.world c.restrict_all.ensures.only

pub returns-clause-guards : goal.returns-clause-guards
returns-clause-guards g c =
    let self = c.args.self.now in
    let m = mesh_of self.names self.world self.outs.items self.marks in
    let valid = mesh_out m self.valid in
    c.fill.ensures.guards (field_of m c.args.group) (c.restrict_all.ensures.views (field_of m c.args.group) (field_held self.names self.world self.outs.items self.marks self.laid_out valid c.args.group c.requires.group))
