use Rattle.std.proofs.Common.{◌≡◌, ℕ, List, Ok, Err, subst, ◌∙◌}
use Rattle.std.proofs.lemmas.Option.{IfSome_then}
use Rattle.mesh_model.specs.Images.Held.{read_mesh}
use Rattle.mesh_model.specs.Images.Image.{mesh_of}
use Rattle.check_format.specs.ReadImages.{stored_in}
use Rattle.check_disk.proofs.BehindGates.{damaged_there, found_there}
use Rattle.check_disk.proofs.newest.image_in.Goals as goal

pub returns-in-Ok-clause-mesh : goal.returns-in-Ok-clause-mesh
returns-in-Ok-clause-mesh g c =
    IfSome_then (g.D.Disk.holds c.args.disk.now) c.in_ok-bytes.ensures.bytes (λ areas is.
    subst (λ (bytes : List ℕ). read_mesh bytes ≡ Ok (mesh_of (stored_in c.in-Ok.image))) (c.deref.ensures.value ∙ is) (found_there c.deref.result.now c.in-Ok.image c.in-Ok.ensures.image))

pub returns-in-Err-Bad-clause-mesh : goal.returns-in-Err-Bad-clause-mesh
returns-in-Err-Bad-clause-mesh g c =
    IfSome_then (g.D.Disk.holds c.args.disk.now) c.in_ok-bytes.ensures.bytes (λ areas is.
    subst (λ (bytes : List ℕ). read_mesh bytes ≡ Err c.in-Err-Bad.bad) (c.deref.ensures.value ∙ is) (damaged_there c.deref.result.now c.in-Err-Bad.bad (rw c.in-Err-Bad.field-0-is at c.in-Err-Bad.ensures.stop)))
