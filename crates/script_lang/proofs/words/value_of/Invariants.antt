use Rattle.std.proofs.Common.{◌≡◌, ◌^◌, min, take}
use Rattle.mesh_model.specs.Language.Words.{digits_value}
use Rattle.script_lang.proofs.words.value_of.Given as goal

abbrev pub invariant-loop-d : goal.invariant-loop-d
invariant-loop-d l = l.value ≡ min (digits_value (take l.d-index l.digits)) (2 ^ 41)
