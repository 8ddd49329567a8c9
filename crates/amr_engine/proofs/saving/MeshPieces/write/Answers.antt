use Rattle.std.proofs.Common.{◌≡◌, ◌⊎◌, ◌++◌, ℕ, [], Some, sym, subst, ap, ◌∙◌, take, arith}
use Rattle.std.specs.Prelude.{◌↔◌}
use Rattle.std.proofs.Math.Logic.{∥∥₁_elim}
use Rattle.std.proofs.Props.{props}
use Rattle.block_tree.specs.GridOf.{grid_of}
use Rattle.block_tree.specs.Numbered.{block_at}
use Rattle.check_format.specs.Own.{IsOwn}
use Rattle.check_format.specs.Writing.{IsOfGrid, left}
use Rattle.mesh_model.specs.Tree.Kinds.{Grid}
use Rattle.amr_engine.specs.EngineMesh.{mesh_of}
use Rattle.amr_engine.specs.Saving.{HasGiven, Resumes, given_of, turn_of}
use Rattle.amr_engine.proofs.Made.{grid_is, marks_of}
use Rattle.amr_engine.proofs.ValidOut.{mesh_out}
use Rattle.amr_engine.proofs.Writing.{bytes_given, ended, given_now, given_short, known_if, last_known, numbers_there, rest_now, some_given, stands}
use Rattle.amr_engine.proofs.saving.MeshPieces.write.Goals as goal

pub next-size-requires-clause-shape : goal.next-size-requires-clause-shape
next-size-requires-clause-shape g c =
    let self = c.args.self.now in
    let names = self.names.now in
    let w = self.world.now in
    let outs = self.outs.now in
    let marks = self.marks.now in
    let m = mesh_of names w outs marks in
    let valid = mesh_out m self.valid in
    let grid : m.grid ≡ grid_of c.tree-tree.result.now = grid_is names w outs marks self.laid_out valid ∙ sym c.tree-tree.ensures in
    let shape = ap (λ (h : Grid). h.shape) grid ∙ sym c.shape.ensures.value in
    let came = c.resumed-writer.ensures m valid shape (λ x e. self.came x (sym c.take.ensures.value ∙ e)) (subst (λ o. (given_of m o ≡ 0) ⊎ (turn_of o ≡ c.args.turn)) (sym c.take.ensures.value) c.requires.same) in
    let writer = c.resumed-writer.result in
    let on : Resumes m self.writer c.args.turn writer = subst (λ o. Resumes m o c.args.turn writer) c.take.ensures.value came in
    on.shape ∙ ap (λ (h : Grid). h.shape) grid

pub next-size-requires-clause-last : goal.next-size-requires-clause-last
next-size-requires-clause-last g c =
    let self = c.args.self.now in
    let names = self.names.now in
    let w = self.world.now in
    let outs = self.outs.now in
    let marks = self.marks.now in
    let m = mesh_of names w outs marks in
    let valid = mesh_out m self.valid in
    let grid : m.grid ≡ grid_of c.tree-tree.result.now = grid_is names w outs marks self.laid_out valid ∙ sym c.tree-tree.ensures in
    let shape = ap (λ (h : Grid). h.shape) grid ∙ sym c.shape.ensures.value in
    let came = c.resumed-writer.ensures m valid shape (λ x e. self.came x (sym c.take.ensures.value ∙ e)) (subst (λ o. (given_of m o ≡ 0) ⊎ (turn_of o ≡ c.args.turn)) (sym c.take.ensures.value) c.requires.same) in
    let writer = c.resumed-writer.result in
    let on : Resumes m self.writer c.args.turn writer = subst (λ o. Resumes m o c.args.turn writer) c.take.ensures.value came in
    subst (λ h. IsOfGrid h writer.last) grid (last_known m writer on.last)

pub next-size-requires-clause-marks : goal.next-size-requires-clause-marks
next-size-requires-clause-marks g c =
    let self = c.args.self.now in
    let names = self.names.now in
    let w = self.world.now in
    let outs = self.outs.now in
    let marks = self.marks.now in
    let valid = mesh_out (mesh_of names w outs marks) self.valid in
    marks_of names w outs marks self.laid_out valid (grid_of c.tree-tree.result.now) c.tree-tree.ensures

pub next-size-requires-clause-there : goal.next-size-requires-clause-there
next-size-requires-clause-there g c =
    let self = c.args.self.now in
    let names = self.names.now in
    let w = self.world.now in
    let outs = self.outs.now in
    let marks = self.marks.now in
    let valid = mesh_out (mesh_of names w outs marks) self.valid in
    numbers_there g.row.N g.row.G names w outs marks self.fit self.laid_out valid c.tree-tree.result.now c.tree-tree.ensures

pub invariant_of-self : goal.invariant_of-self
invariant_of-self g c =
    let self = c.args.self.now in
    let names = self.names.now in
    let w = self.world.now in
    let outs = self.outs.now in
    let marks = self.marks.now in
    let m = mesh_of names w outs marks in
    let valid = mesh_out m self.valid in
    let grid : m.grid ≡ grid_of c.tree-tree.result.now = grid_is names w outs marks self.laid_out valid ∙ sym c.tree-tree.ensures in
    let shape = ap (λ (h : Grid). h.shape) grid ∙ sym c.shape.ensures.value in
    let came = c.resumed-writer.ensures m valid shape (λ x e. self.came x (sym c.take.ensures.value ∙ e)) (subst (λ o. (given_of m o ≡ 0) ⊎ (turn_of o ≡ c.args.turn)) (sym c.take.ensures.value) c.requires.same) in
    let writer = c.resumed-writer.result in
    let on : Resumes m self.writer c.args.turn writer = subst (λ o. Resumes m o c.args.turn writer) c.take.ensures.value came in
    let s = stands g.row.N g.row.G names w outs marks self.fit self.laid_out valid writer.turn c.tree-tree.result.now c.tree-tree.ensures in
    let after = c.next-size.new.self in
    let r = c.next-size.result in
    let buf = c.next-size.new.buf in
    let wrote : left m writer ≡ take r buf ++ left m after = ∥∥₁_elim on.writer (hlevel props) (λ p. c.next-size.ensures.bytes m s p) in
    let end : (r ≡ 0) ↔ (left m writer ≡ []) = ∥∥₁_elim on.writer (hlevel props) (λ p. c.next-size.ensures.end m s p) in
    let has : HasGiven m after = record {
      writer = ∥∥₁_elim on.writer (hlevel props) (λ p. ∣ c.next-size.ensures.writer m s p ∣₁);
      last = known_if after.last (λ t. IsOwn m.grid (block_at m.grid t.node) t.own) (subst (λ h. IsOfGrid h after.last) (sym grid) c.next-size.ensures.last);
      shape = c.next-size.ensures.shape ∙ on.shape;
      few = (let few = c.requires.few in let turned = c.next-size.ensures.turn ∙ on.turn_is in omega (arith, few, turned));
      some = some_given m self.writer writer after c.args.turn r buf c.requires.few c.requires.same on.turn_is on.rest wrote c.next-size.ensures.size c.next-size.ensures.turn end;
      rest = rest_now m self.writer writer after c.args.turn r buf c.requires.few c.requires.same on.turn_is on.rest wrote c.next-size.ensures.size c.next-size.ensures.turn;
    } in
    record { fit = self.fit; laid_out = self.laid_out; valid = self.valid; came = λ x e. subst (HasGiven m) (cc e) has }

pub returns-clause-bytes : goal.returns-clause-bytes
returns-clause-bytes g c =
    let self = c.args.self.now in
    let names = self.names.now in
    let w = self.world.now in
    let outs = self.outs.now in
    let marks = self.marks.now in
    let m = mesh_of names w outs marks in
    let valid = mesh_out m self.valid in
    let grid : m.grid ≡ grid_of c.tree-tree.result.now = grid_is names w outs marks self.laid_out valid ∙ sym c.tree-tree.ensures in
    let shape = ap (λ (h : Grid). h.shape) grid ∙ sym c.shape.ensures.value in
    let came = c.resumed-writer.ensures m valid shape (λ x e. self.came x (sym c.take.ensures.value ∙ e)) (subst (λ o. (given_of m o ≡ 0) ⊎ (turn_of o ≡ c.args.turn)) (sym c.take.ensures.value) c.requires.same) in
    let writer = c.resumed-writer.result in
    let on : Resumes m self.writer c.args.turn writer = subst (λ o. Resumes m o c.args.turn writer) c.take.ensures.value came in
    let s = stands g.row.N g.row.G names w outs marks self.fit self.laid_out valid writer.turn c.tree-tree.result.now c.tree-tree.ensures in
    let after = c.next-size.new.self in
    let r = c.next-size.result in
    let buf = c.next-size.new.buf in
    let wrote : left m writer ≡ take r buf ++ left m after = ∥∥₁_elim on.writer (hlevel props) (λ p. c.next-size.ensures.bytes m s p) in
    let end : (r ≡ 0) ↔ (left m writer ≡ []) = ∥∥₁_elim on.writer (hlevel props) (λ p. c.next-size.ensures.end m s p) in
    bytes_given m self.writer writer after c.args.turn r buf c.requires.few c.requires.same on.turn_is on.rest wrote c.next-size.ensures.size c.next-size.ensures.turn

pub returns-clause-given : goal.returns-clause-given
returns-clause-given g c =
    let self = c.args.self.now in
    let names = self.names.now in
    let w = self.world.now in
    let outs = self.outs.now in
    let marks = self.marks.now in
    let m = mesh_of names w outs marks in
    let valid = mesh_out m self.valid in
    let grid : m.grid ≡ grid_of c.tree-tree.result.now = grid_is names w outs marks self.laid_out valid ∙ sym c.tree-tree.ensures in
    let shape = ap (λ (h : Grid). h.shape) grid ∙ sym c.shape.ensures.value in
    let came = c.resumed-writer.ensures m valid shape (λ x e. self.came x (sym c.take.ensures.value ∙ e)) (subst (λ o. (given_of m o ≡ 0) ⊎ (turn_of o ≡ c.args.turn)) (sym c.take.ensures.value) c.requires.same) in
    let writer = c.resumed-writer.result in
    let on : Resumes m self.writer c.args.turn writer = subst (λ o. Resumes m o c.args.turn writer) c.take.ensures.value came in
    let s = stands g.row.N g.row.G names w outs marks self.fit self.laid_out valid writer.turn c.tree-tree.result.now c.tree-tree.ensures in
    let after = c.next-size.new.self in
    let r = c.next-size.result in
    let buf = c.next-size.new.buf in
    let wrote : left m writer ≡ take r buf ++ left m after = ∥∥₁_elim on.writer (hlevel props) (λ p. c.next-size.ensures.bytes m s p) in
    let end : (r ≡ 0) ↔ (left m writer ≡ []) = ∥∥₁_elim on.writer (hlevel props) (λ p. c.next-size.ensures.end m s p) in
    given_now m self.writer writer after c.args.turn r buf c.requires.few c.requires.same on.turn_is on.rest wrote c.next-size.ensures.size c.next-size.ensures.turn

pub returns-clause-size : goal.returns-clause-size
returns-clause-size g c =
    let self = c.args.self.now in
    let names = self.names.now in
    let w = self.world.now in
    let outs = self.outs.now in
    let marks = self.marks.now in
    let m = mesh_of names w outs marks in
    let valid = mesh_out m self.valid in
    let grid : m.grid ≡ grid_of c.tree-tree.result.now = grid_is names w outs marks self.laid_out valid ∙ sym c.tree-tree.ensures in
    let shape = ap (λ (h : Grid). h.shape) grid ∙ sym c.shape.ensures.value in
    let came = c.resumed-writer.ensures m valid shape (λ x e. self.came x (sym c.take.ensures.value ∙ e)) (subst (λ o. (given_of m o ≡ 0) ⊎ (turn_of o ≡ c.args.turn)) (sym c.take.ensures.value) c.requires.same) in
    let writer = c.resumed-writer.result in
    let on : Resumes m self.writer c.args.turn writer = subst (λ o. Resumes m o c.args.turn writer) c.take.ensures.value came in
    let s = stands g.row.N g.row.G names w outs marks self.fit self.laid_out valid writer.turn c.tree-tree.result.now c.tree-tree.ensures in
    let after = c.next-size.new.self in
    let r = c.next-size.result in
    let buf = c.next-size.new.buf in
    let wrote : left m writer ≡ take r buf ++ left m after = ∥∥₁_elim on.writer (hlevel props) (λ p. c.next-size.ensures.bytes m s p) in
    let end : (r ≡ 0) ↔ (left m writer ≡ []) = ∥∥₁_elim on.writer (hlevel props) (λ p. c.next-size.ensures.end m s p) in
    given_short m self.writer writer after c.args.turn r buf c.requires.few c.requires.same on.turn_is on.rest wrote c.next-size.ensures.size c.next-size.ensures.turn

pub returns-clause-end : goal.returns-clause-end
returns-clause-end g c =
    let self = c.args.self.now in
    let names = self.names.now in
    let w = self.world.now in
    let outs = self.outs.now in
    let marks = self.marks.now in
    let m = mesh_of names w outs marks in
    let valid = mesh_out m self.valid in
    let grid : m.grid ≡ grid_of c.tree-tree.result.now = grid_is names w outs marks self.laid_out valid ∙ sym c.tree-tree.ensures in
    let shape = ap (λ (h : Grid). h.shape) grid ∙ sym c.shape.ensures.value in
    let came = c.resumed-writer.ensures m valid shape (λ x e. self.came x (sym c.take.ensures.value ∙ e)) (subst (λ o. (given_of m o ≡ 0) ⊎ (turn_of o ≡ c.args.turn)) (sym c.take.ensures.value) c.requires.same) in
    let writer = c.resumed-writer.result in
    let on : Resumes m self.writer c.args.turn writer = subst (λ o. Resumes m o c.args.turn writer) c.take.ensures.value came in
    let s = stands g.row.N g.row.G names w outs marks self.fit self.laid_out valid writer.turn c.tree-tree.result.now c.tree-tree.ensures in
    let after = c.next-size.new.self in
    let r = c.next-size.result in
    let buf = c.next-size.new.buf in
    let wrote : left m writer ≡ take r buf ++ left m after = ∥∥₁_elim on.writer (hlevel props) (λ p. c.next-size.ensures.bytes m s p) in
    let end : (r ≡ 0) ↔ (left m writer ≡ []) = ∥∥₁_elim on.writer (hlevel props) (λ p. c.next-size.ensures.end m s p) in
    ended m self.writer writer after c.args.turn r buf c.requires.few c.requires.same on.turn_is on.rest wrote c.next-size.ensures.size c.next-size.ensures.turn end

pub returns-clause-turn : goal.returns-clause-turn
returns-clause-turn g c =
    let self = c.args.self.now in
    let names = self.names.now in
    let w = self.world.now in
    let outs = self.outs.now in
    let marks = self.marks.now in
    let m = mesh_of names w outs marks in
    let valid = mesh_out m self.valid in
    let grid : m.grid ≡ grid_of c.tree-tree.result.now = grid_is names w outs marks self.laid_out valid ∙ sym c.tree-tree.ensures in
    let shape = ap (λ (h : Grid). h.shape) grid ∙ sym c.shape.ensures.value in
    let came = c.resumed-writer.ensures m valid shape (λ x e. self.came x (sym c.take.ensures.value ∙ e)) (subst (λ o. (given_of m o ≡ 0) ⊎ (turn_of o ≡ c.args.turn)) (sym c.take.ensures.value) c.requires.same) in
    let writer = c.resumed-writer.result in
    let on : Resumes m self.writer c.args.turn writer = subst (λ o. Resumes m o c.args.turn writer) c.take.ensures.value came in
    c.next-size.ensures.turn ∙ on.turn_is
