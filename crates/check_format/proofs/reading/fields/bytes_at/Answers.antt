use Rattle.std.proofs.Common.{rules, sym, ap₂, ◌∙◌, arith, Some}
use Rattle.check_format.proofs.Readers.{any_times, any_wants}
use Rattle.check_format.proofs.reading.fields.bytes_at.Goals as goal

pub returns-then-bytes-count-clause-read : goal.returns-then-bytes-count-clause-read
returns-then-bytes-count-clause-read c = sym (any_wants c.args.count c.args.bytes.now (omega arith))

pub returns-clause-read : goal.returns-clause-read
returns-clause-read c = ap₂ (λ u v. Some (u, v)) c.split_at.ensures.front c.split_at.ensures.back ∙ sym (any_times c.args.count c.args.bytes.now (omega arith))
