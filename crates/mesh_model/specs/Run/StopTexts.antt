-- How a refusal is told.
use Rattle.std.specs.Prelude.{ℕ, List, [], ◌∷◌, ◌++◌, map, codes, decimal}
use Rattle.std.specs.Fmt.{signed_decimal}
use Rattle.mesh_model.specs.declared.run.stops.Refusal.{Refusal}
use Rattle.mesh_model.specs.declared.run.stops.Refusal.TheVariants.{Range, Courant, Level, Place, PlaceBlock, Blocks}
use Rattle.mesh_model.specs.declared.fields.spot.Spot.{Spot}
use Rattle.mesh_model.specs.declared.fields.spot.Spot.TheVariants.{Cell, Face, Edge, Out}
use Rattle.mesh_model.specs.Run.Texts.{axis_name, block_words, group_name, text_line}
use Rattle.mesh_model.specs.Fields.VariableNames.{VariableNames}

-- how a place is named
abbrev pub spot_words : Spot → List (List ℕ)
spot_words (Cell c) = codes "cell" ∷ decimal c.level ∷ decimal c.x ∷ decimal c.y ∷ decimal c.z ∷ []
spot_words (Face f) = codes "face" ∷ axis_name f.axis ∷ decimal f.level ∷ decimal f.x ∷ decimal f.y ∷ decimal f.z ∷ []
spot_words (Edge e) = codes "edge" ∷ axis_name e.axis ∷ decimal e.level ∷ decimal e.x ∷ decimal e.y ∷ decimal e.z ∷ []
spot_words Out = codes "out" ∷ []

-- why a command is refused, with the names of the variables
abbrev pub refusal_words : VariableNames → Refusal → List (List ℕ)
refusal_words names (Range stop) = codes "range" ∷ group_name names stop.var ∷ spot_words stop.spot ++ signed_decimal stop.value ∷ []
refusal_words names (Courant speeds) = codes "courant" ∷ map signed_decimal speeds
refusal_words names (Level stop) = codes "level" ∷ decimal stop.level ∷ codes "limit" ∷ decimal stop.limit ∷ []
refusal_words names (Place spot) = codes "place" ∷ spot_words spot
refusal_words names (PlaceBlock at) = codes "place" ∷ block_words at
refusal_words names (Blocks count) = codes "blocks" ∷ decimal count ∷ []

-- the line that a run ends with, where the command of a line is refused
unfoldable pub stop_line : VariableNames → ℕ → Refusal → List ℕ
stop_line names line why = text_line (codes "error:" ∷ codes "line" ∷ (decimal line ++ codes ":") ∷ refusal_words names why)
