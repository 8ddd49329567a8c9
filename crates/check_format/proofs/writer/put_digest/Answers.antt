use Rattle.std.proofs.Common.{length, drop, sym, ap, ◌∙◌, arith}
use Rattle.std.proofs.lemmas.List.{length-take-le, take_at}
use Rattle.check_format.proofs.writer.put_digest.Goals as goal

pub slice_bounds-copy_from_slice-end-2 : goal.slice_bounds-copy_from_slice-end-2
slice_bounds-copy_from_slice-end-2 c = sym (length-take-le 32 c.args.buf.now (let h = c.requires in omega arith))

pub copy_from_slice-requires : goal.copy_from_slice-requires
copy_from_slice-requires c = length-take-le 32 c.args.buf.now (let h = c.requires in omega arith) ∙ sym c.told-digest

pub returns : goal.returns
returns c = take_at c.copy_from_slice.new.self (drop 32 c.args.buf.now) 32 (ap length c.copy_from_slice.ensures.after ∙ c.told-digest) ∙ c.copy_from_slice.ensures.after
