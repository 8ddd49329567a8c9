-- What readers give.
use Rattle.std.specs.Prelude.{ℕ, List, Option, Some, None}
use Rattle.mesh_model.specs.Fields.VariableNames.{VariableNames}
use Rattle.mesh_model.specs.Images.Image as plain
use Rattle.mesh_model.specs.Images.Reading.{first}
use Rattle.check_format.specs.declared.reading.header.Header.{Header}

-- what a header says
abbrev pub head_in : Header → plain.Head
head_in h = record { turn = h.turn; shape = h.declared.shape; names = h.declared.names }

-- the names with those of the cell variables, or with that of the face or the edge variable, where such were read
abbrev pub with_cells : VariableNames → Option (List (List ℕ) × List ℕ) → Option (VariableNames × List ℕ)
with_cells v None = None
with_cells v (Some x) = Some (record v { cells = x.0 }, x.1)

abbrev pub with_face : VariableNames → Option (List (List ℕ) × List ℕ) → Option (VariableNames × List ℕ)
with_face v None = None
with_face v (Some x) = Some (record v { face = first x.0 }, x.1)

abbrev pub with_edge : VariableNames → Option (List (List ℕ) × List ℕ) → Option (VariableNames × List ℕ)
with_edge v None = None
with_edge v (Some x) = Some (record v { edge = first x.0 }, x.1)
