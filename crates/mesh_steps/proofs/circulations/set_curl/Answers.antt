use Rattle.std.proofs.Common.{◌≡◌, false, ℤ, pos, Err, IfErr, Some, ap, sym, subst, ◌∙◌, arith}
use Rattle.std.proofs.lemmas.Result.{err_from_is_err_and}
use Rattle.staggered.specs.Facing.{walked_above}
use Rattle.amr_num.specs.declared.EdgeAt.{EdgeAt}
use Rattle.amr_num.specs.declared.FaceAt.{FaceAt}
use Rattle.mesh_model.specs.Fields.Induct.{curled}
use Rattle.mesh_model.specs.Fields.Ranks.{Told, WorldState}
use Rattle.mesh_steps.specs.Circulations.{LeavesShow}
use Rattle.mesh_steps.specs.declared.circulations.Step.TheVariants.{Curl}
use Rattle.rank_world.specs.Holding.{LeavesHoldEdges, LeavesHoldFaces}
use Rattle.mesh_steps.proofs.circulations.set_curl.Goals as goal

-- no face is read
no_faces : FaceAt → ℤ
no_faces f = pos 0

shown : (w : WorldState) (edges : EdgeAt → ℤ) → LeavesHoldEdges false w edges → LeavesShow Curl w no_faces edges
shown w edges holds node leaf = record { on_edges = holds node leaf; on_faces = λ is. absurd cc }

pub step_leaves-requires : goal.step_leaves-requires
step_leaves-requires g c = (omega arith, (c.requires.fit, (c.requires.edges, λ node leaf. record { edges = c.requires.small node leaf; faces = λ is. absurd cc })))

pub returns-clause-holds : goal.returns-clause-holds
returns-clause-holds g c edges holds =
    subst (λ (t : Told). LeavesHoldFaces c.take_faces.new.world (curled t.grid edges)) c.step_leaves.ensures.only.told
    (c.take_faces.ensures.holds Curl no_faces edges (c.in_ok-step_leaves.ensures.has no_faces edges (shown c.args.world.now edges holds)))

pub returns-clause-in_range : goal.returns-clause-in_range
returns-clause-in_range g c edges holds = c.in_ok-step_leaves.ensures.in_range no_faces edges (shown c.args.world.now edges holds)

pub returns-in_err-step_leaves-clause-stop : goal.returns-in_err-step_leaves-clause-stop
returns-in_err-step_leaves-clause-stop g c edges holds =
    let grid = c.args.world.now.told.grid in
    let err = err_from_is_err_and c.from_residual.result c.from_residual.ensures.1 in
    subst (λ r. IfErr r (λ told. walked_above grid (curled grid edges) ≡ Some told)) (sym (err.1 ∙ ap Err err.2)) (c.in_err-step_leaves.ensures.refused no_faces edges (shown c.args.world.now edges holds))
