-- What a step makes of the face variable of a world, or why it is not made.
use Rattle.std.specs.Prelude.{◌≡◌, true, false, None, Some, Result, Ok, Err, List, ℤ}
use Rattle.mesh_model.specs.Fields.Advect.{keeps_courant, three}
use Rattle.mesh_model.specs.Fields.Induct.{induct, inducted}
use Rattle.mesh_model.specs.Fields.Plain.{Mesh}
use Rattle.mesh_model.specs.Fields.Ranks.{WorldState}
use Rattle.rank_world.specs.Holding.{IsOfMesh}
use Rattle.staggered.specs.Facing.{walked_above}
use Rattle.mesh_steps.specs.declared.hindrance.FaceHindrance.{FaceHindrance}
use Rattle.mesh_steps.specs.declared.hindrance.FaceHindrance.TheVariants.{Number, TooFast}

-- a step is made, and no leaf face is out of range; or the speeds are too great; or a leaf face would be out of range, and the first in the walk is
-- told
abbrev pub Inducts : Mesh → List ℤ → WorldState → Result (Unit {0}) FaceHindrance → Type 0
Inducts m speeds new (Ok done) =
    (keeps_courant m.grid.shape (three speeds) ≡ true) × (walked_above m.grid (inducted m.grid m.faces (three speeds)) ≡ None) × IsOfMesh new (induct m (three speeds))
Inducts m speeds new (Err TooFast) = (keeps_courant m.grid.shape (three speeds) ≡ false) × IsOfMesh new m
Inducts m speeds new (Err (Number found)) =
    (keeps_courant m.grid.shape (three speeds) ≡ true) × (walked_above m.grid (inducted m.grid m.faces (three speeds)) ≡ Some found) × IsOfMesh new m
