-- How runs begin: from declarations, or from the image that a disk holds.
use Rattle.std.proofs.Common.{◌≡◌, ◌⊎◌, inl, inr, ℕ, ◌+◌, ◌<◌, Bool, true, false, if◌then◌else◌, All, List, drop, Option, Some, None, IfSome, Result, Ok, Err, refl, sym, subst, arith}
use Rattle.std.proofs.lemmas.List.{get_or-drop, get_or_default, length-drop}
use Rattle.script_lang.proofs.Scripts.{script_fits, script_in_limits, script_keeps}
use Rattle.outside_io.specs.Areas.{Areas}
use Rattle.outside_io.specs.declared.disk.Area.{Area}
use Rattle.outside_io.specs.declared.disk.Area.TheVariants.{A, B}
use Rattle.check_disk.specs.Images.{image_exact}
use Rattle.check_disk.specs.Newest.{damaged}
use Rattle.check_format.specs.ReadImages.{stored_in}
use Rattle.check_format.specs.declared.reading.images.Image.{Image}
use Rattle.mesh_model.specs.Fields.Plain.{Mesh}
use Rattle.mesh_model.specs.Fields.Valid.{ValidMesh}
use Rattle.mesh_model.specs.Geometry.Limits.{IsShape}
use Rattle.mesh_model.specs.Images.Codec.{IsBytes}
use Rattle.mesh_model.specs.Images.Held.{DamagedA, DamagedB, Found, Held, Nothing, b_is_newer, held, held_by, is_open, read_mesh}
use Rattle.mesh_model.specs.Images.Image.{grid_by, mesh_of}
use Rattle.mesh_model.specs.Images.Reading.{NamesFit}
use Rattle.mesh_model.specs.Language.Commands.{InLimits, IsLineOf, PlainScript}
use Rattle.mesh_model.specs.Language.Grammar.{Fault, script_of}
use Rattle.mesh_model.specs.Run.Runs.{AtEachCommand, declared_in, done, first_mesh}
use Rattle.mesh_model.specs.declared.images.BadImage.{BadImage}
use Rattle.mesh_model.specs.declared.language.script.Command.{Command}
use Rattle.mesh_model.specs.declared.language.script.Declared.{Declared}
use Rattle.mesh_model.specs.declared.language.script.Line.{Line}
use Rattle.mesh_model.proofs.FieldLemmas.Start.{start_mesh_valid}
use Rattle.amr_engine.specs.Built.{is_built}
use Rattle.amr_program.specs.declared.not_run.NotRun.TheVariants as reasons
use Rattle.amr_program.specs.declared.words.Asked.{Asked}
use Rattle.amr_program.specs.declared.words.Start.{Start}
use Rattle.amr_program.specs.declared.words.Start.TheVariants.{New, Restart, Sample}
use Rattle.amr_program.specs.Answer.{AlongRun, HasBytes, HasBytesAt, held_in, job_at, job_from, job_of, restarted}
use Rattle.amr_program.specs.Origins.{CanDeclare, mesh_in}
use Rattle.amr_program.proofs.Naming.{are_different, are_names, names_fit}

-- what was declared within the limits of the language can be begun with
pub can_declare : (d : Declared) → InLimits d → CanDeclare d
can_declare d limits = record { shape = limits.shape; names = names_fit d.names limits.names limits.different }

-- the declarations of the mesh of an image are the image's
pub declared_read : (im : Image) → declared_in (mesh_in im) ≡ im.declared
unfolding mesh_of stored_in grid_by
declared_read im = refl

-- and within the limits
pub limits_read : (im : Image) → ValidMesh (mesh_in im) → NamesFit im.declared.names → InLimits im.declared
limits_read im valid names = record { shape = subst (λ (d : Declared). IsShape d.shape) (declared_read im) valid.grid.shape; names = are_names im.declared.names names; different = are_different im.declared.names names }

-- an area that is open and holds no image keeps a run from being restarted
pub damaged_job : (asked : Asked) (says : Option Declared → Result PlainScript Fault) (area : Area) (bad : BadImage) → restarted asked (damaged area bad) says ≡ Err (reasons.Damaged area bad)
damaged_job asked says A bad = refl
damaged_job asked says B bad = refl

-- ---- what is held is the mesh of an image

held_read : {M F : Type 0} (oa ob newer : Bool) (ma mb : Result M F) (m : M) → ◌≡◌ {A = Held M F} (held_by oa ma ob mb newer) (Found m) → (ma ≡ Ok m) ⊎ (mb ≡ Ok m)
held_read false false newer ma mb m e = cc e
held_read false true newer ma (Err fault) m e = cc e
held_read false true newer ma (Ok k) m e = inr (cc e)
held_read true ob newer (Err fault) mb m e = cc e
held_read true false newer (Ok j) mb m e = inl (cc e)
held_read true true newer (Ok j) (Err fault) m e = cc e
held_read true true true (Ok j) (Ok k) m e = inr (cc e)
held_read true true false (Ok j) (Ok k) m e = inl (cc e)

bytes_behind : (area : List ℕ) → IsBytes area → All (λ byte. byte < 256) (drop 1 area)
bytes_behind area are i d within =
    let inside = length-drop 1 area in
    subst (λ b. b < 256) (sym (get_or-drop 1 area i d)) (subst (λ b. b < 256) (get_or_default area (1 + i) 0 d (omega (arith, within, inside))) (are (1 + i)))

read_valid : (area : List ℕ) (m : Mesh) → IsBytes area → read_mesh (drop 1 area) ≡ Ok m → ValidMesh m
read_valid area m are is = (image_exact (drop 1 area) m (bytes_behind area are) is).2.valid

held_valid : (areas : Areas) (m : Mesh) → IsBytes areas.a → IsBytes areas.b → held areas.a areas.b ≡ Found m → ValidMesh m
held_valid areas m a b is = elim (held_read (is_open areas.a) (is_open areas.b) (b_is_newer areas.a areas.b) (read_mesh (drop 1 areas.a)) (read_mesh (drop 1 areas.b)) m is) [
  | inl read ↦ read_valid areas.a m a read
  | inr read ↦ read_valid areas.b m b read
]

-- ---- laws along a run

-- what holds at each command of a run from a valid mesh holds along a job
module _ (R : Mesh → Command → Mesh → Type 0) (law : (m : Mesh) (lines : List Line) → ValidMesh m → All (IsLineOf (declared_in m)) lines → AtEachCommand R m (done m lines)) where
  kept_by : (built : Bool) (m : Mesh) (s : PlainScript) → ValidMesh m → All (IsLineOf (declared_in m)) s.lines → AlongRun R (if built then Ok (record { mesh = m; lines = s.lines }) else Err reasons.NotBuilt)
  kept_by true m s valid fit = law m s.lines valid fit
  kept_by false m s valid fit = tt

  module _ (asked : Asked) where
    kept_new : (read : Result PlainScript Fault) (bytes : List ℕ) → script_of None bytes ≡ read → AlongRun R (job_from asked first_mesh read)
    kept_new (Ok s) bytes e =
        let limits = script_in_limits None bytes s tt e in
        kept_by (is_built s asked.ranks asked.workers) (first_mesh s) s (start_mesh_valid s.declared.shape s.declared.names limits.shape limits.names.few) (script_fits None bytes s e)
    kept_new (Err fault) bytes e = tt

    kept_from : (m : Mesh) → ValidMesh m → (read : Result PlainScript Fault) (bytes : List ℕ) → script_of (Some (declared_in m)) bytes ≡ read → AlongRun R (job_from asked (λ s. m) read)
    kept_from m valid (Ok s) bytes e = kept_by (is_built s asked.ranks asked.workers) m s valid (subst (λ (d : Declared). All (IsLineOf d) s.lines) (script_keeps (declared_in m) bytes s e) (script_fits (Some (declared_in m)) bytes s e))
    kept_from m valid (Err fault) bytes e = tt

    kept_held : (h : Held Mesh BadImage) → ((m : Mesh) → h ≡ Found m → ValidMesh m) → (bytes : List ℕ) → AlongRun R (restarted asked h (λ given. script_of given bytes))
    kept_held Nothing valid bytes = tt
    kept_held (DamagedA bad) valid bytes = tt
    kept_held (DamagedB bad) valid bytes = tt
    kept_held (Found m) valid bytes = kept_from m (valid m refl) _ bytes refl

    no_areas : (m : Mesh) → ◌≡◌ {A = Held Mesh BadImage} Nothing (Found m) → ValidMesh m
    no_areas m e = cc e

    along_at : (start : Start) (disk : Option Areas) → HasBytesAt start disk → (script : List ℕ) → AlongRun R (job_at start asked (held_in disk) (λ given. script_of given script))
    along_at New disk are script = kept_new _ _ refl
    along_at (Sample seed) disk are script = kept_new _ _ refl
    along_at Restart None are script = kept_held Nothing no_areas script
    along_at Restart (Some areas) are script = kept_held (held areas.a areas.b) (λ m is. held_valid areas m are.0 are.1 is) script

  along : (asked : Option Asked) (disk : Option Areas) → HasBytes asked disk → (script : List ℕ) → AlongRun R (job_of asked (held_in disk) script)
  along None disk are script = tt
  along (Some asked) disk are script = along_at asked asked.start disk are script

  pub along_run : (script : Option (List ℕ)) (asked : Option Asked) (disk : Option Areas) → HasBytes asked disk → IfSome script (λ bytes. AlongRun R (job_of asked (held_in disk) bytes))
  along_run None asked disk are = tt
  along_run (Some bytes) asked disk are = along asked disk are bytes
