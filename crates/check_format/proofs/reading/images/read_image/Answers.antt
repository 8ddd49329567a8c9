use Rattle.std.proofs.Common.{◌≡◌, Bool, not, bytes_eq, sym, ap, ap₂, ◌∙◌}
use Rattle.mesh_model.specs.Images.Reading.{digest_found, digest_kept}
use Rattle.mesh_model.proofs.TreeLemmas.Tests.{not_true}
use Rattle.check_format.proofs.ReadImages.{digests_are, not_false, read_digest, read_front, read_length}
use Rattle.check_format.proofs.reading.images.read_image.Goals as goal

pub returns-then-not-has_size-clause-stop : goal.returns-then-not-has_size-clause-stop
returns-then-not-has_size-clause-stop c =
    let bytes = c.args.bytes.now in
    record {
      part = read_length bytes (not_false _ (sym c.has_size.ensures ∙ c.if-not-has_size.true));
      kept = c.digest_kept-kept.ensures;
      found = c.digest_found-found.ensures;
    }

pub returns-then-ne-clause-stop : goal.returns-then-ne-clause-stop
returns-then-ne-clause-stop c =
    let bytes = c.args.bytes.now in
    let size = not_true _ (sym c.has_size.ensures ∙ c.if-not-has_size.false) in
    let same = sym (digests_are bytes size) ∙ sym (ap₂ bytes_eq c.digest_kept-kept.ensures c.digest_found-found.ensures) in
    record {
      part = read_digest bytes size (same ∙ not_true _ (sym c.ne.ensures ∙ c.if-ne.true));
      kept = c.digest_kept-kept.ensures;
      found = c.digest_found-found.ensures;
    }

pub returns-in-Ok-clause-image : goal.returns-in-Ok-clause-image
returns-in-Ok-clause-image c =
    let bytes = c.args.bytes.now in
    let size = not_true _ (sym c.has_size.ensures ∙ c.if-not-has_size.false) in
    let same = sym (digests_are bytes size) ∙ sym (ap₂ bytes_eq c.digest_kept-kept.ensures c.digest_found-found.ensures) in
    read_front bytes size (same ∙ not_false _ (sym c.ne.ensures ∙ c.if-ne.false)) ∙ c.in-Ok.ensures.image

pub returns-in-Ok-clause-read : goal.returns-in-Ok-clause-read
returns-in-Ok-clause-read c = record {
  bytes = c.args.bytes.now;
  are = λ i. (c.type_inv.bytes i).fits;
  read = returns-in-Ok-clause-image c;
  whole = c.in-Ok.ensures.whole;
}

pub returns-in-Err-Bad-clause-stop : goal.returns-in-Err-Bad-clause-stop
returns-in-Err-Bad-clause-stop c =
    let bytes = c.args.bytes.now in
    let size = not_true _ (sym c.has_size.ensures ∙ c.if-not-has_size.false) in
    let same = sym (digests_are bytes size) ∙ sym (ap₂ bytes_eq c.digest_kept-kept.ensures c.digest_found-found.ensures) in
    record {
      part = read_front bytes size (same ∙ not_false _ (sym c.ne.ensures ∙ c.if-ne.false)) ∙ rw c.in-Err-Bad.field-0-is at c.in-Err-Bad.ensures.stop;
      kept = c.digest_kept-kept.ensures;
      found = c.digest_found-found.ensures;
    }
