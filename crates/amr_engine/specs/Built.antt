-- What is built: scripts that ask for anything else are not run.
use Rattle.std.specs.Prelude.{◌≡◌, ◌⊎◌, ℕ, Bool, true, false, ◌&&◌, nat_le}
use Rattle.std.specs.List.{list_all}
use Rattle.mesh_model.specs.declared.language.script.Command.{Command}
use Rattle.mesh_model.specs.declared.language.script.Command.TheVariants.{FillAll, FillBox, FaceSet, EdgeSet, Uniform, MarkRefine, MarkDerefine, RefineWhere, DerefineWhere, Regrid, Advect, Curl, Induct, Checkpoint, PrintSize, PrintMesh, PrintTree, PrintRanks, PrintTrace, PrintVar, PrintGuards, Total, NetFlux}
use Rattle.mesh_model.specs.declared.language.script.Line.{Line}
use Rattle.mesh_model.specs.Language.Commands.{PlainScript}

-- the command is built
abbrev pub is_built_command : Command → Bool
is_built_command (FillAll var value) = true
is_built_command (FillBox var level low high value) = true
is_built_command (FaceSet at value) = true
is_built_command (EdgeSet at value) = true
is_built_command (Uniform b) = true
is_built_command (MarkRefine at) = true
is_built_command (MarkDerefine at) = true
is_built_command (RefineWhere var above) = true
is_built_command (DerefineWhere var below) = true
is_built_command Regrid = true
is_built_command (Advect var speeds) = true
is_built_command Curl = true
is_built_command (Induct speeds) = true
is_built_command Checkpoint = true
is_built_command PrintSize = true
is_built_command PrintMesh = true
is_built_command PrintTree = true
is_built_command PrintRanks = false
is_built_command PrintTrace = false
is_built_command (PrintVar group) = true
is_built_command (PrintGuards group at) = true
is_built_command (Total var) = true
is_built_command NetFlux = true

-- the script is built for so many ranks and workers: for one rank and one worker, where all its commands are
unfoldable pub is_built : PlainScript → ℕ → ℕ → Bool
is_built s ranks workers = nat_le ranks 1 && nat_le workers 1 && list_all (λ line. is_built_command line.command) s.lines

-- the line is one that a built script may have
abbrev pub IsBuiltLine : Line → Type 0
IsBuiltLine line = is_built_command line.command ≡ true

-- no definition says yet what the command prints
abbrev pub IsUndefined : Command → Type 0
IsUndefined command = (command ≡ PrintRanks) ⊎ (command ≡ PrintTrace)
