-- The last lines that a run writes.
use Rattle.std.specs.Prelude.{ℕ, List, ◌∷◌, ◌++◌, codes, decimal, flat_map}
use Rattle.hex.specs.Hex.{encode_lower}
use Rattle.mesh_model.specs.Language.Reasons.{reason_text}
use Rattle.mesh_model.specs.declared.images.BadImage.{BadImage}
use Rattle.mesh_model.specs.declared.images.Part.{Part}
use Rattle.mesh_model.specs.declared.images.Part.TheVariants.{Length, Digest, Header, Tree, Values, Ending}
use Rattle.outside_io.specs.declared.disk.Area.{Area}
use Rattle.outside_io.specs.declared.disk.Area.TheVariants.{A, B}
use Rattle.amr_program.specs.declared.not_run.NotRun.{NotRun}
use Rattle.amr_program.specs.declared.not_run.NotRun.TheVariants.{Words, NoCheckpoint, Damaged, Fault, NotBuilt}

abbrev pub words_line : List ℕ
words_line = codes "error: words; usage: amr [--ranks R] [--order K] [--workers W] [--restart | --sample K]\n"

abbrev pub area_name : Area → List ℕ
area_name A = codes "A"
area_name B = codes "B"

abbrev pub part_name : Part → List ℕ
part_name Length = codes "length"
part_name Digest = codes "digest"
part_name Header = codes "header"
part_name Tree = codes "tree"
part_name Values = codes "values"
part_name Ending = codes "ending"

-- digests are told by hexadecimal digits
abbrev pub damaged_line : Area → BadImage → List ℕ
damaged_line area bad =
    codes "error: damaged area " ++ area_name area ++ codes " part " ++ part_name bad.part ++ codes " kept " ++ encode_lower bad.kept ++ codes " found " ++ encode_lower bad.found ++ codes "\n"

-- why nothing is run
abbrev pub not_run_line : NotRun → List ℕ
not_run_line Words = words_line
not_run_line NoCheckpoint = codes "error: no checkpoint\n"
not_run_line (Damaged area bad) = damaged_line area bad
not_run_line (Fault line reason) = codes "error: script line " ++ decimal line ++ codes ": " ++ reason_text reason ++ codes "\n"
not_run_line NotBuilt = codes "error: not built\n"

abbrev pub read_line : List ℕ
read_line = codes "error: read failed\n"

abbrev pub disk_line : List ℕ
disk_line = codes "error: disk failed\n"

abbrev pub memory_line : List ℕ
memory_line = codes "error: out of memory\n"

-- words, a space before each
abbrev pub more_words : List (List ℕ) → List ℕ
more_words = flat_map (λ word. 32 ∷ word)
