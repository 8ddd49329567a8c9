-- What a step makes of a world, or why it is not made.
use Rattle.std.specs.Prelude.{◌≡◌, ℕ, true, false, Option, None, Some, find, Result, Ok, Err, ℤ, List}
use Rattle.amr_num.specs.Numbers.{number_range, outflow_range}
use Rattle.amr_num.specs.declared.CellAt.{CellAt}
use Rattle.mesh_model.specs.Fields.Advect.{advect, advected, keeps_courant, three}
use Rattle.mesh_model.specs.Fields.Plain.{Mesh}
use Rattle.mesh_model.specs.Fields.Ranks.{WorldState}
use Rattle.mesh_model.specs.Fields.RangeWalk.{cells_walked, is_above}
use Rattle.rank_world.specs.Holding.{IsOfMesh}
use Rattle.mesh_steps.specs.declared.hindrance.Hindrance.{Hindrance}
use Rattle.mesh_steps.specs.declared.hindrance.Hindrance.TheVariants.{Content, FlowedOut, TooFast}

-- each mesh of which the world was it is of still
abbrev pub KeepsMeshes : WorldState → WorldState → Type 0
KeepsMeshes old new = (m : Mesh) → IsOfMesh old m → IsOfMesh new m

-- the content of a cell after advect
abbrev pub content_after : Mesh → ℕ → List ℤ → CellAt → ℤ
content_after m v speeds = advected m.grid (m.cells v) (three speeds)

-- the first cell in the walk whose content would be out of range
abbrev pub first_above : Mesh → ℕ → List ℤ → Option CellAt
first_above m v speeds = find (λ c. is_above number_range (content_after m v speeds c)) (cells_walked m.grid)

-- what has flowed out in all after advect
abbrev pub out_after : Mesh → ℕ → List ℤ → ℤ
out_after m v speeds = (advect m v (three speeds)).outs v

-- no content would be out of range
pub record IsCalm (m : Mesh) (v : ℕ) (speeds : List ℤ) : Type 0 where
  pub courant : keeps_courant m.grid.shape (three speeds) ≡ true
  pub none : first_above m v speeds ≡ None

-- a step is made, and this has flowed out in all; or the speeds are too great; or a content or what has flowed out would be out of range
abbrev pub Steps : Mesh → ℕ → List ℤ → WorldState → Result ℤ Hindrance → Type 0
Steps m v speeds new (Ok out) = IsCalm m v speeds × (out ≡ out_after m v speeds) × (is_above outflow_range out ≡ false) × IsOfMesh new (advect m v (three speeds))
Steps m v speeds new (Err TooFast) = (keeps_courant m.grid.shape (three speeds) ≡ false) × IsOfMesh new m
Steps m v speeds new (Err (Content above)) =
    (keeps_courant m.grid.shape (three speeds) ≡ true) × (first_above m v speeds ≡ Some above.cell) × (above.value ≡ content_after m v speeds above.cell) × IsOfMesh new m
Steps m v speeds new (Err (FlowedOut out)) = IsCalm m v speeds × (out ≡ out_after m v speeds) × (is_above outflow_range out ≡ true) × IsOfMesh new m
