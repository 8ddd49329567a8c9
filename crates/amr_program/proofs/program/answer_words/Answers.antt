use Rattle.std.proofs.Common.{◌∙◌, Err, ap, inl, inr, refl}
use Rattle.amr_program.proofs.Keeping.{not_touched}
use Rattle.amr_program.proofs.program.answer_words.Goals as goal

pub returns-in-Err-Failed-clause-outcome : goal.returns-in-Err-Failed-clause-outcome
returns-in-Err-Failed-clause-outcome g c =
    let d = g.D.Disk in
    let laws = g.met.D.Disk in
    let failed = c.script_text.ensures.failed (c.in-Err-Failed.is ∙ ap Err c.in-Err-Failed.field-0-is) in
    inr (inr (
      c.in-Ok.asked,
      c.in-Ok.ensures,
      inl (record {
        reads = failed.0;
        rose = failed.1;
        ended = c.end-in-Err-Failed.ensures;
        untouched = not_touched d.holds d.may_leave d.moment d.left_since laws.only_now c.args.disk.now;
        disk_calm = refl;
      }),
    ))
