use Rattle.std.proofs.Common.{List, length, ap, ◌∙◌, arith}
use Rattle.outside_io.specs.declared.history.Event.{Event}
use Rattle.outside_io.specs.declared.history.Kind.TheVariants.{Cuts}
use Rattle.outside_io.specs.Log.{CutTo, logged, HistoryState, with_entry}
use Rattle.outside_io.proofs.Logged.{length-logged, logged-mark, total_kept, view_more}
use Rattle.outside_io.proofs.history.History.cut.Goals as goal

pub invariant_of-self-2 : goal.invariant_of-self-2
invariant_of-self-2 c =
    let e : Event = record { area = c.args.area; kind = Cuts c.args.most } in
    let added = c.in_ok-add.ensures.added in
    let is = c.self.invariant in
    let more = c.add.ensures.capacity in
    (total_kept c.self.inside.events.items c.add.new.events.items c.self.inside.bytes.items c.self.inside.bytes.items e added is.0 (omega arith), omega arith, omega arith, is.3, is.4, length-logged c.add.new.events.items c.self.inside.bytes.items)

pub returns-clause-kept : goal.returns-clause-kept
returns-clause-kept c =
    let e : Event = record { area = c.args.area; kind = Cuts c.args.most } in
    let inside = c.self.inside in
    let was : HistoryState = record { first = record { a = inside.first_a.items; b = inside.first_b.items }; log = logged inside.events.items inside.bytes.items; written = length inside.bytes.items; room = inside.room } in
    view_more was c.args.area (CutTo c.args.most) 0 (logged c.add.new.events.items inside.bytes.items) (length inside.bytes.items)
    (ap (λ (es : List Event). logged es inside.bytes.items) c.in_ok-add.ensures.added ∙ logged-mark inside.events.items inside.bytes.items e (omega arith) c.self.invariant.0) (omega arith)
    ∙ ap (with_entry c.args.area (CutTo c.args.most) 0) c.self.view_is
