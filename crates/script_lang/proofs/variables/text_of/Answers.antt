use Rattle.std.proofs.Common.{ap, arith, length}
use Rattle.std.proofs.lemmas.Str.{IsUtf8-from_ascii}
use Rattle.mesh_model.proofs.LanguageLemmas.Names.{name_is_ascii, name_is_short}
use Rattle.script_lang.proofs.variables.text_of.Goals as goal

pub unreachable-requires : goal.unreachable-requires
unreachable-requires c = c.in-Err.ensures.cases.0 (IsUtf8-from_ascii _ (name_is_ascii _ c.requires))

pub returns-clause-short : goal.returns-clause-short
returns-clause-short c =
    let short = name_is_short c.args.name.now c.requires in
    let same = ap length c.in-Ok.ensures.cases.0 in
    omega arith
