use Rattle.std.proofs.Common.{ℕ, List, [], ◌∷◌, ◌++◌, length, ap, ◌∙◌, arith, length-append, take_all}
use Rattle.outside_io.specs.declared.history.Event.{Event}
use Rattle.outside_io.specs.declared.history.Kind.TheVariants.{Writes}
use Rattle.outside_io.specs.Log.{Wrote, logged, HistoryState, with_entry}
use Rattle.outside_io.proofs.Logged.{length-logged, logged-more, total_kept, view_more}
use Rattle.outside_io.proofs.history.History.write.Goals as goal

pub invariant_of-self-in-Ok : goal.invariant_of-self-in-Ok
invariant_of-self-in-Ok c =
    let e : Event = record { area = c.args.area; kind = Writes c.args.place (length c.args.piece.now) } in
    let added = c.in-Ok.ensures.added in
    let is = c.self.invariant in
    let more = c.add.ensures.capacity in
    let more_bytes = c.put.ensures.capacity in
    let long = ap (λ (l : List ℕ). length l) c.in_ok-put.ensures.added in
    let total = length-append c.self.inside.bytes.items c.args.piece.now in
    (total_kept c.self.inside.events.items c.add.new.events.items c.self.inside.bytes.items c.put.new.bytes.items e added is.0 (omega arith), omega arith, omega arith, is.3, is.4, length-logged c.add.new.events.items c.put.new.bytes.items)

pub returns-in-Ok-clause-kept : goal.returns-in-Ok-clause-kept
returns-in-Ok-clause-kept c =
    let piece = c.args.piece.now in
    let e : Event = record { area = c.args.area; kind = Writes c.args.place (length piece) } in
    let inside = c.self.inside in
    let was : HistoryState = record { first = record { a = inside.first_a.items; b = inside.first_b.items }; log = logged inside.events.items inside.bytes.items; written = length inside.bytes.items; room = inside.room } in
    let long = ap (λ (l : List ℕ). length l) c.in_ok-put.ensures.added in
    let total = length-append inside.bytes.items piece in
    let entries = ap (λ (es : List Event). logged es c.put.new.bytes.items) c.in-Ok.ensures.added
    ∙ ap (λ (bs : List ℕ). logged (inside.events.items ++ e ∷ []) bs) c.in_ok-put.ensures.added
    ∙ logged-more inside.events.items inside.bytes.items piece e c.self.invariant.0
    ∙ ap (λ (p : List ℕ). logged inside.events.items inside.bytes.items ++ (record { area = c.args.area; change = Wrote c.args.place p }) ∷ []) (take_all (length piece) piece (omega arith)) in
    view_more was c.args.area (Wrote c.args.place piece) (length piece) (logged c.add.new.events.items c.put.new.bytes.items) (length c.put.new.bytes.items) entries (omega arith)
    ∙ ap (with_entry c.args.area (Wrote c.args.place piece) (length piece)) c.self.view_is
