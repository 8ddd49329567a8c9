use Rattle.std.proofs.Common.{◌≡◌, ◌≤◌, ◌++◌, [], take, refl, sym, ap, ap₂, subst, ◌∙◌, arith, append-nil}
use Rattle.std.proofs.lemmas.List.{length-take-le}
use Rattle.sha2.specs.Sha256.{sha256}
use Rattle.sha2.specs.Hashers.{Holds256}
use Rattle.check_format.specs.declared.writer.ImageWriter.{ImageWriter}
use Rattle.check_format.specs.Numbered.{whole}
use Rattle.check_format.specs.Written as written
use Rattle.check_format.specs.Writing.{IsWriterOf, first_pieces, handed, left}
use Rattle.check_format.proofs.Next.{all_before, given, left_is, no_bytes, nothing, step, taken_in, within_all}
use Rattle.check_format.proofs.SamePieces.{pieces_agree}
use Rattle.check_format.proofs.writer.ImageWriter.next.Goals as goal

pub returns-then-size-gt0-clause-bytes : goal.returns-then-size-gt0-clause-bytes
returns-then-size-gt0-clause-bytes g c = λ m stands writer.
    let old = c.args.self.now in
    let new = c.fill-size.new.self in
    let h = handed old.turn c.args.tree.now c.args.marks.now c.args.names.now c.args.outs.now (g.V.BlockValues.number c.args.values.now) in
    let start : old.next ≤ (written.image_pieces h).count = subst (λ n. old.next ≤ n) (sym (pieces_agree m h stands).count) writer.within in
    let all = c.fill-size.ensures.all in
    left_is m old old.turn old.next c.if-self.false refl refl
    ∙ step m h stands old.next new.next c.fill-size.ensures.on (c.fill-size.ensures.within start)
    ∙ ap₂ (λ u w. u ++ w) (sym c.fill-size.ensures.bytes)
    (sym (left_is m (record new { hasher = c.update.new.self }) old.turn new.next (ap (λ (w : ImageWriter). w.ended) all ∙ c.if-self.false) (ap (λ (w : ImageWriter). w.turn) all) refl))

pub returns-then-size-gt0-clause-end : goal.returns-then-size-gt0-clause-end
returns-then-size-gt0-clause-end g c = λ m stands writer.
    let all = returns-then-size-gt0-clause-bytes g c m stands writer in
    let some = c.if-size-gt0.true in (
      λ z. absurd (omega (arith, z, some)),
      λ e.
          let none = no_bytes (take c.fill-size.result c.fill-size.new.buf) (left m (record c.fill-size.new.self { hasher = c.update.new.self })) (sym all ∙ e) in
          let many = length-take-le c.fill-size.result c.fill-size.new.buf c.fill-size.ensures.size in
          omega (arith, none, many),
    )

pub returns-then-size-gt0-clause-writer : goal.returns-then-size-gt0-clause-writer
returns-then-size-gt0-clause-writer g c = λ m stands writer.
    let old = c.args.self.now in
    let new = c.fill-size.new.self in
    let h = handed old.turn c.args.tree.now c.args.marks.now c.args.names.now c.args.outs.now (g.V.BlockValues.number c.args.values.now) in
    let q = written.image_pieces (written.of_mesh m old.turn) in
    let start : old.next ≤ (written.image_pieces h).count = subst (λ n. old.next ≤ n) (sym (pieces_agree m h stands).count) writer.within in
    let within = c.fill-size.ensures.within start in
    let all = c.fill-size.ensures.all in
    let unended = ap (λ (w : ImageWriter). w.ended) all ∙ c.if-self.false in
    let held : Holds256 new.hasher (first_pieces q old.next) = subst (λ k. Holds256 k (first_pieces q old.next)) (sym (ap (λ (w : ImageWriter). w.hasher) all)) (writer.hasher c.if-self.false) in
    subst (λ t. IsWriterOf (written.image_pieces (written.of_mesh m t)) (record new { hasher = c.update.new.self })) (sym (ap (λ (w : ImageWriter). w.turn) all)) (record {
      within = within_all m h stands old.next new.next c.fill-size.ensures.on within;
      ended = λ e. absurd (let f = sym unended ∙ e in cc);
      hasher = λ e. subst (λ u. Holds256 c.update.new.self u) (ap (λ u. first_pieces q old.next ++ u) c.fill-size.ensures.bytes ∙ taken_in m h stands old.next new.next c.fill-size.ensures.on within) (c.update.ensures (first_pieces q old.next) held);
    })

pub returns-clause-bytes : goal.returns-clause-bytes
returns-clause-bytes g c = λ m stands writer.
    let old = c.args.self.now in
    let new = c.fill-size.new.self in
    let h = handed old.turn c.args.tree.now c.args.marks.now c.args.names.now c.args.outs.now (g.V.BlockValues.number c.args.values.now) in
    let q = written.image_pieces (written.of_mesh m old.turn) in
    let start : old.next ≤ (written.image_pieces h).count = subst (λ n. old.next ≤ n) (sym (pieces_agree m h stands).count) writer.within in
    let within = c.fill-size.ensures.within start in
    let all = c.fill-size.ensures.all in
    let zero : c.fill-size.result ≡ 0 = let z = c.if-size-gt0.false in omega (arith, z) in
    let none : given m h stands old.next new.next c.fill-size.ensures.on ≡ [] = sym c.fill-size.ensures.bytes ∙ ap (λ n. take n c.fill-size.new.buf) zero in
    let past = c.fill-size.ensures.end zero in
    let held : Holds256 new.hasher (first_pieces q old.next) = subst (λ k. Holds256 k (first_pieces q old.next)) (sym (ap (λ (w : ImageWriter). w.hasher) all)) (writer.hasher c.if-self.false) in
    let digest = c.finalize_reset-digest.ensures.digest (first_pieces q old.next) held in
    left_is m old old.turn old.next c.if-self.false refl refl
    ∙ ap (λ u. u ++ sha256 (whole q)) (nothing m h stands old.next new.next c.fill-size.ensures.on within past none)
    ∙ ap sha256 (sym (all_before m h stands old.next new.next c.fill-size.ensures.on within past none))
    ∙ sym (c.put_digest.ensures ∙ digest) ∙ sym (append-nil (take 32 c.put_digest.new.buf))

pub returns-clause-end : goal.returns-clause-end
returns-clause-end g c = λ m stands writer.
    let all = returns-clause-bytes g c m stands writer in (
      λ z. absurd (omega (arith, z)),
      λ e.
          let none = no_bytes (take 32 c.put_digest.new.buf) [] (sym all ∙ e) in
          let long = c.put_digest.auto.buf in
          let same = c.fill-size.auto.buf in
          let room = c.requires.room in
          let many = length-take-le 32 c.put_digest.new.buf (omega (arith, long, same, room)) in
          omega (arith, none, many),
    )
