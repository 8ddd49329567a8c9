-- What uniform and curl make has no net flux.
use Rattle.std.proofs.Common.{All, List, sym, subst, inl, inr}
use Rattle.mesh_model.specs.declared.language.script.Command.{Command}
use Rattle.mesh_model.specs.Fields.Advect.{three}
use Rattle.mesh_model.specs.Fields.Balance.{Balanced}
use Rattle.mesh_model.specs.Fields.Plain.{Mesh}
use Rattle.mesh_model.specs.Fields.Valid.{ValidMesh}
use Rattle.mesh_model.specs.declared.language.script.Line.{Line}
use Rattle.mesh_model.specs.Language.Commands.{IsLineOf}
use Rattle.mesh_model.specs.Run.Runs.{AtEachCommand, declared_in, done, mesh_after}
use Rattle.mesh_model.proofs.RunLemmas.RunLaws.{along}
use Rattle.mesh_model.proofs.FieldLemmas.Divergence.{curl_balances, uniform_balances}
use Rattle.mesh_model.specs.Run.Runs.{MakesBalance}

pub makes_balance : (m : Mesh) (command : Command) → ValidMesh m → MakesBalance m command (mesh_after m command)
makes_balance m command valid (inl is) = subst (λ k. Balanced (mesh_after m k).grid (mesh_after m k).faces) (sym is) (curl_balances m.grid valid.grid m.edges)
makes_balance m command valid (inr (b, is)) = subst (λ k. Balanced (mesh_after m k).grid (mesh_after m k).faces) (sym is) (uniform_balances m.grid valid.grid (three b))

-- along a run, too
pub runs_make_balance : (m : Mesh) (lines : List Line) → ValidMesh m → All (IsLineOf (declared_in m)) lines → AtEachCommand MakesBalance m (done m lines)
runs_make_balance = along MakesBalance (λ m command valid none. makes_balance m command valid)
