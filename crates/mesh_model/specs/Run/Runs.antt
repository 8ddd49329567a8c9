-- What commands print and make of a mesh, one after the other, up to the first that is refused.
use Rattle.std.specs.Prelude.{◌≡◌, ◌⊎◌, ℕ, true, List, [], ◌∷◌, ◌++◌, Option, Some, None, ℤ, pos, ◌+ℤ◌, ◌≤ℤ◌}
use Rattle.amr_num.specs.declared.CellAt.{CellAt}
use Rattle.amr_num.specs.declared.FaceAt.{FaceAt}
use Rattle.mesh_model.specs.declared.language.script.Command.{Command}
use Rattle.mesh_model.specs.declared.language.script.Command.TheVariants.{FillAll, FillBox, FaceSet, EdgeSet, Uniform, MarkRefine, MarkDerefine, RefineWhere, DerefineWhere, Regrid, Advect, Curl, Induct, Checkpoint, PrintSize, PrintMesh, PrintTree, PrintRanks, PrintTrace, PrintVar, PrintGuards, Total, NetFlux}
use Rattle.mesh_model.specs.declared.language.script.Declared.{Declared}
use Rattle.mesh_model.specs.declared.language.script.Line.{Line}
use Rattle.mesh_model.specs.declared.run.stops.Refusal.{Refusal}
use Rattle.mesh_model.specs.Fields.Advect.{advect, three}
use Rattle.mesh_model.specs.Language.Commands.{PlainScript}
use Rattle.mesh_model.specs.Fields.Fill.{fill_all, fill_box}
use Rattle.mesh_model.specs.Fields.Induct.{curl, induct, uniform}
use Rattle.mesh_model.specs.Fields.Balance.{Balanced}
use Rattle.mesh_model.specs.Fields.Plain.{Mesh}
use Rattle.mesh_model.specs.Tree.Kinds.{is_leaf}
use Rattle.mesh_model.specs.Fields.Regrid.{regrid}
use Rattle.mesh_model.specs.Fields.Setting.{derefine_where, mark_derefine, mark_refine, refine_where, set_edge, set_face}
use Rattle.mesh_model.specs.Fields.Start.{start_mesh}
use Rattle.mesh_model.specs.Run.Stops.{refusal}
use Rattle.mesh_model.specs.Run.Texts.{guards_text, mesh_text, netflux_text, size_text, total_text, variable_text}
use Rattle.mesh_model.specs.Fields.Totals.{total}
use Rattle.mesh_model.specs.Run.TreeText.{tree_text}

-- what a command prints; the texts of ranks and of a trace are not given yet, and no built script asks for them
abbrev pub text_of : Mesh → Command → List ℕ
text_of m (FillAll var value) = []
text_of m (FillBox var level low high value) = []
text_of m (FaceSet at value) = []
text_of m (EdgeSet at value) = []
text_of m (Uniform b) = []
text_of m (MarkRefine at) = []
text_of m (MarkDerefine at) = []
text_of m (RefineWhere var above) = []
text_of m (DerefineWhere var below) = []
text_of m Regrid = []
text_of m (Advect var speeds) = []
text_of m Curl = []
text_of m (Induct speeds) = []
text_of m Checkpoint = []
text_of m PrintSize = size_text m.grid
text_of m PrintMesh = mesh_text m.grid
text_of m PrintTree = tree_text m.grid
text_of m PrintRanks = []
text_of m PrintTrace = []
text_of m (PrintVar group) = variable_text m group
text_of m (PrintGuards group at) = guards_text m group at
text_of m (Total var) = total_text m var
text_of m NetFlux = netflux_text m

-- what a command may need beside the mesh, and what may fail it then
pub data Resource : Type 0 where
  MeshAlone : Resource
  TheSink : Resource
  TheMemory : Resource
  TheDisk : Resource

-- a report needs the sink that takes its text, a regrid memory, a checkpoint the disk
abbrev pub needs : Command → Resource
needs (FillAll var value) = MeshAlone
needs (FillBox var level low high value) = MeshAlone
needs (FaceSet at value) = MeshAlone
needs (EdgeSet at value) = MeshAlone
needs (Uniform b) = MeshAlone
needs (MarkRefine at) = MeshAlone
needs (MarkDerefine at) = MeshAlone
needs (RefineWhere var above) = MeshAlone
needs (DerefineWhere var below) = MeshAlone
needs Regrid = TheMemory
needs (Advect var speeds) = MeshAlone
needs Curl = MeshAlone
needs (Induct speeds) = MeshAlone
needs Checkpoint = TheDisk
needs PrintSize = TheSink
needs PrintMesh = TheSink
needs PrintTree = TheSink
needs PrintRanks = TheSink
needs PrintTrace = TheSink
needs (PrintVar group) = TheSink
needs (PrintGuards group at) = TheSink
needs (Total var) = TheSink
needs NetFlux = TheSink

-- the mesh after it, where it is not refused
abbrev pub mesh_after : Mesh → Command → Mesh
mesh_after m (FillAll var value) = fill_all m var value
mesh_after m (FillBox var level low high value) = fill_box m var level low high value
mesh_after m (FaceSet at value) = set_face m at value
mesh_after m (EdgeSet at value) = set_edge m at value
mesh_after m (Uniform b) = uniform m (three b)
mesh_after m (MarkRefine at) = mark_refine m at
mesh_after m (MarkDerefine at) = mark_derefine m at
mesh_after m (RefineWhere var above) = refine_where m var above
mesh_after m (DerefineWhere var below) = derefine_where m var below
mesh_after m Regrid = regrid m
mesh_after m (Advect var speeds) = advect m var (three speeds)
mesh_after m Curl = curl m
mesh_after m (Induct speeds) = induct m (three speeds)
mesh_after m Checkpoint = m
mesh_after m PrintSize = m
mesh_after m PrintMesh = m
mesh_after m PrintTree = m
mesh_after m PrintRanks = m
mesh_after m PrintTrace = m
mesh_after m (PrintVar group) = m
mesh_after m (PrintGuards group at) = m
mesh_after m (Total var) = m
mesh_after m NetFlux = m

-- what the commands print, in order
abbrev pub texts : Mesh → List Line → List ℕ
texts m [] = []
texts m (line ∷ lines) = text_of m line.command ++ texts (mesh_after m line.command) lines

-- the mesh with which a script's commands begin
abbrev pub first_mesh : PlainScript → Mesh
first_mesh s = start_mesh s.declared.shape s.declared.names

-- what is declared of a mesh
abbrev pub declared_in : Mesh → Declared
declared_in m = record { shape = m.grid.shape; names = m.names }

-- R holds at each of the commands: of the mesh before it, the command and the mesh after it
abbrev pub AtEachCommand : (Mesh → Command → Mesh → Type 0) → Mesh → List Line → Type 0
AtEachCommand R m [] = Unit {0}
AtEachCommand R m (line ∷ lines) = R m line.command (mesh_after m line.command) × AtEachCommand R (mesh_after m line.command) lines

-- the mesh after the commands, in order
abbrev pub mesh_after_all : Mesh → List Line → Mesh
mesh_after_all m [] = m
mesh_after_all m (line ∷ lines) = mesh_after_all (mesh_after m line.command) lines

-- the meshes that a command saves: at a checkpoint the one that stands
abbrev pub saved_by : Mesh → Command → List Mesh
saved_by m Checkpoint = m ∷ []
saved_by m other = []

-- the meshes that stand at the checkpoints among the commands, in order
abbrev pub checkpoints : Mesh → List Line → List Mesh
checkpoints m [] = []
checkpoints m (line ∷ lines) = saved_by m line.command ++ checkpoints (mesh_after m line.command) lines

-- ---- up to the first command that is refused

-- the lines whose commands are done: those before the first that is refused
abbrev pub done : Mesh → List Line → List Line
done m [] = []
done m (line ∷ lines) = elim (refusal m line.command) [
  | None ↦ line ∷ done (mesh_after m line.command) lines
  | Some why ↦ []
]

-- a command that is refused: the number of its line, and why
pub record Refused : Type 0 where
  pub line : ℕ
  pub why : Refusal

-- the first command that is refused, where one is
abbrev pub stop : Mesh → List Line → Option Refused
stop m [] = None
stop m (line ∷ lines) = elim (refusal m line.command) [
  | None ↦ stop (mesh_after m line.command) lines
  | Some why ↦ Some (record { line = line.number; why = why })
]

-- ---- what commands keep

-- the command fills the variable
abbrev pub Fills : Command → ℕ → Type 0
Fills (FillAll var value) v = var ≡ v
Fills (FillBox var level low high value) v = var ≡ v
Fills (FaceSet at value) v = ⊥
Fills (EdgeSet at value) v = ⊥
Fills (Uniform b) v = ⊥
Fills (MarkRefine at) v = ⊥
Fills (MarkDerefine at) v = ⊥
Fills (RefineWhere var above) v = ⊥
Fills (DerefineWhere var below) v = ⊥
Fills Regrid v = ⊥
Fills (Advect var speeds) v = ⊥
Fills Curl v = ⊥
Fills (Induct speeds) v = ⊥
Fills Checkpoint v = ⊥
Fills PrintSize v = ⊥
Fills PrintMesh v = ⊥
Fills PrintTree v = ⊥
Fills PrintRanks v = ⊥
Fills PrintTrace v = ⊥
Fills (PrintVar group) v = ⊥
Fills (PrintGuards group at) v = ⊥
Fills (Total var) v = ⊥
Fills NetFlux v = ⊥

-- the command moves what has flowed out of the variable
abbrev pub Advects : Command → ℕ → Type 0
Advects command v = (speeds : List ℤ) × (command ≡ Advect v speeds)

-- the total of a variable and what has flowed out of it are together what they were, unless the command filled it
abbrev pub KeepsTotals : Mesh → Command → Mesh → Type 0
KeepsTotals before command after = (v : ℕ) → ¬ Fills command v → total after.grid (after.cells v) +ℤ after.outs v ≡ total before.grid (before.cells v) +ℤ before.outs v

-- and what has flowed out of it is what it was, unless the command advects it
abbrev pub KeepsOuts : Mesh → Command → Mesh → Type 0
KeepsOuts before command after = (v : ℕ) → ¬ Advects command v → after.outs v ≡ before.outs v

-- no leaf cell of the variable has a content below 0
abbrev pub NoneNegative : Mesh → ℕ → Type 0
NoneNegative m v = (c : CellAt) → is_leaf m.grid c ≡ true → pos 0 ≤ℤ m.cells v c

-- an advect leaves no content below 0 where none was
abbrev pub StaysPositive : Mesh → Command → Mesh → Type 0
StaysPositive before command after = (v : ℕ) → Advects command v → NoneNegative before v → NoneNegative after v

-- where each leaf cell has net flux 0 it has it afterwards, unless the command set a single face
abbrev pub SetsFace : Command → Type 0
SetsFace command = (at : FaceAt) × (value : ℤ) × (command ≡ FaceSet at value)

abbrev pub KeepsBalance : Mesh → Command → Mesh → Type 0
KeepsBalance before command after = ¬ SetsFace command → Balanced before.grid before.faces → Balanced after.grid after.faces

-- after a command that sets all faces, to one flux by area or to circulations, no leaf cell has a net flux
abbrev pub SetsAllFaces : Command → Type 0
SetsAllFaces command = (command ≡ Curl) ⊎ ((b : List ℤ) × (command ≡ Uniform b))

abbrev pub MakesBalance : Mesh → Command → Mesh → Type 0
MakesBalance before command after = SetsAllFaces command → Balanced after.grid after.faces
