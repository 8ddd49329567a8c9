use Rattle.std.proofs.Common.{◌<◌, arith, sym, subst, ◌∙◌}
use Rattle.mesh_model.specs.Fields.Valid.{ValidMesh}
use Rattle.amr_engine.specs.EngineMesh.{mesh_of}
use Rattle.amr_engine.proofs.Made.{marks_now, where_is, where_valid}
use Rattle.amr_engine.proofs.ValidOut.{mesh_out}
use Rattle.amr_engine.proofs.engine.Engine.mark_where.Goals as goal

pub mark_where-requires : goal.mark_where-requires
mark_where-requires g c =
    let self = c.args.self.now in (
      omega arith,
      (
        self.fit,
        (
          subst (λ m. c.args.var < m) (sym self.laid_out.cells) c.requires.variable,
          marks_now self.names self.world self.outs.items self.marks self.laid_out (mesh_out (mesh_of self.names self.world self.outs.items self.marks) self.valid),
        ),
      ),
    )

pub invariant_of-self : goal.invariant_of-self
invariant_of-self g c =
    let self = c.args.self.now in
    let valid = mesh_out (mesh_of self.names self.world self.outs.items self.marks) self.valid in
    let new = c.mark_where.new.marks in
    let is = where_is self.names self.world self.outs.items self.marks self.laid_out valid c.args.var c.requires.variable new c.args.rule c.mark_where.ensures.marked in
    record {
      room = c.args.self.now.room;
      named = c.args.self.now.named;
      fit = self.fit;
      laid_out = record {
        cells = self.laid_out.cells;
        faces = self.laid_out.faces;
        edges = self.laid_out.edges;
        on_faces = self.laid_out.on_faces;
        on_edges = self.laid_out.on_edges;
        flowed = self.laid_out.flowed;
        room = c.mark_where.ensures.room ∙ self.laid_out.room;
      };
      valid = ∣ subst ValidMesh (sym is) (where_valid self.names self.world self.outs.items self.marks self.laid_out valid c.args.var c.requires.variable new c.args.rule c.requires.number) ∣₁;
    }

pub returns-clause-mesh : goal.returns-clause-mesh
returns-clause-mesh g c =
    let self = c.args.self.now in
    let valid = mesh_out (mesh_of self.names self.world self.outs.items self.marks) self.valid in
    where_is self.names self.world self.outs.items self.marks self.laid_out valid c.args.var c.requires.variable c.mark_where.new.marks c.args.rule c.mark_where.ensures.marked
