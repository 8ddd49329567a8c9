use Rattle.std.proofs.Common.{ap, sym, ◌∙◌, arith, length}
use Rattle.std.proofs.lemmas.Str.{IsUtf8-from_ascii}
use Rattle.mesh_model.proofs.LanguageLemmas.Names.{name_is_ascii, name_is_short}
use Rattle.check_format.proofs.reading.header.name_in.Goals as goal

pub returns-in-Ok-clause-short : goal.returns-in-Ok-clause-short
returns-in-Ok-clause-short c =
    let short = name_is_short c.args.bytes.now (sym c.is_name.ensures ∙ c.if-not-is_name.false) in
    let same = ap length c.in-Ok.ensures.cases.0 in
    omega arith

pub returns-in-Err-clause-text : goal.returns-in-Err-clause-text
returns-in-Err-clause-text c = absurd (c.in-Err.ensures.cases.0 (IsUtf8-from_ascii _ (name_is_ascii _ (sym c.is_name.ensures ∙ c.if-not-is_name.false))))
