-- One call more.
use Rattle.std.proofs.Common.{◌≡◌, ℕ, ◌+◌, ◌≤◌, List, [], ◌∷◌, ◌++◌, length, drop, refl, sym, ap, ◌∙◌, arith, length-append, length-drop, append-nil}
use Rattle.std.proofs.lemmas.List.{take-append-le, drop-append-le}
use Rattle.outside_io.specs.declared.disk.Area.{Area}
use Rattle.outside_io.specs.declared.disk.Area.TheVariants.{A, B}
use Rattle.outside_io.specs.declared.history.Kind.{Kind}
use Rattle.outside_io.specs.declared.history.Kind.TheVariants.{Writes, Cuts, Syncs}
use Rattle.outside_io.specs.declared.history.Event.{Event}
use Rattle.outside_io.specs.Log.{Change, Wrote, CutTo, Synced, Entry, Stands, after_change, Both, change_of, count_of, total_count, logged, changed, after_all, HistoryState, with_entry}

pub total-more : (es : List Event) (e : Event) → total_count (es ++ e ∷ []) ≡ total_count es + count_of e.kind
total-more [] e = omega arith
total-more (x ∷ es) e = omega (arith, total-more es e)

pub length-logged : (es : List Event) (bytes : List ℕ) → length (logged es bytes) ≡ length es
length-logged [] bytes = refl
length-logged (e ∷ es) bytes = omega (arith, length-logged es (drop (count_of e.kind) bytes))

pub after_all-more : (both : Both) (es : List Entry) (e : Entry) → after_all both (es ++ e ∷ []) ≡ changed e.area e.change (after_all both es)
after_all-more both [] e = refl
after_all-more both (x ∷ es) e = after_all-more (changed x.area x.change both) es e

change_front : (kind : Kind) (bytes piece : List ℕ) → count_of kind ≤ length bytes → change_of kind (bytes ++ piece) ≡ change_of kind bytes
change_front (Writes place count) bytes piece few = ap (Wrote place) (take-append-le count bytes piece few)
change_front (Cuts most) bytes piece few = refl
change_front Syncs bytes piece few = refl

pub logged-more : (es : List Event) (bytes piece : List ℕ) (e : Event) → total_count es ≡ length bytes → logged (es ++ e ∷ []) (bytes ++ piece) ≡ logged es bytes ++ (record { area = e.area; change = change_of e.kind piece }) ∷ []
logged-more [] [] piece e is = refl
logged-more [] (y ∷ bytes) piece e is = absurd (omega arith)
logged-more (x ∷ es) bytes piece e is =
    let n = count_of x.kind in
    let rest : total_count es ≡ length (drop n bytes) = (let l = length-drop n bytes in omega arith) in
    ap (λ (ch : Change). (record { area = x.area; change = ch }) ∷ logged (es ++ e ∷ []) (drop n (bytes ++ piece))) (change_front x.kind bytes piece (omega arith))
    ∙ ap (λ (l : List ℕ). (record { area = x.area; change = change_of x.kind bytes }) ∷ logged (es ++ e ∷ []) l) (drop-append-le n bytes piece (omega arith))
    ∙ ap (λ (l : List Entry). (record { area = x.area; change = change_of x.kind bytes }) ∷ l) (logged-more es (drop n bytes) piece e rest)

-- a call that writes no bytes
pub logged-mark : (es : List Event) (bytes : List ℕ) (e : Event) → count_of e.kind ≡ 0 → total_count es ≡ length bytes → logged (es ++ e ∷ []) bytes ≡ logged es bytes ++ (record { area = e.area; change = change_of e.kind [] }) ∷ []
logged-mark es bytes e none is = ap (λ (l : List ℕ). logged (es ++ e ∷ []) l) (sym (append-nil bytes)) ∙ logged-more es bytes [] e is

pub total_kept : (es es' : List Event) (bytes bytes' : List ℕ) (e : Event) → es' ≡ es ++ e ∷ [] → total_count es ≡ length bytes → length bytes' ≡ length bytes + count_of e.kind → total_count es' ≡ length bytes'
total_kept es es' bytes bytes' e added is more = let l = ap total_count added in let m = total-more es e in omega arith

pub view_more : (h : HistoryState) (area : Area) (change : Change) (more : ℕ) (log : List Entry) (written : ℕ) → log ≡ h.log ++ (record { area = area; change = change }) ∷ [] → written ≡ h.written + more
    → ◌≡◌ {A = HistoryState} (record { first = h.first; log = log; written = written; room = h.room }) (with_entry area change more h)
view_more h area change more log written is more_is = λ i. record { first = h.first; log = is i; written = more_is i; room = h.room }

-- no more ranges are pending than there were calls
spans_change : (change : Change) (s : Stands) → length (after_change change s).pending.spans ≤ length s.pending.spans + 1
spans_change (Wrote place piece) s = let l = length-append s.pending.spans ((record { place = place; count = length piece }) ∷ []) in omega arith
spans_change (CutTo most) s = omega arith
spans_change Synced s = omega arith

spans_changed : (area : Area) (change : Change) (both : Both) →
    (length (changed area change both).a.pending.spans ≤ length both.a.pending.spans + 1) × (length (changed area change both).b.pending.spans ≤ length both.b.pending.spans + 1)
spans_changed A change both = (spans_change change both.a, omega arith)
spans_changed B change both = (omega arith, spans_change change both.b)

pub spans_few : (es : List Entry) (both : Both) →
    (length (after_all both es).a.pending.spans ≤ length both.a.pending.spans + length es) × (length (after_all both es).b.pending.spans ≤ length both.b.pending.spans + length es)
spans_few [] both = (omega arith, omega arith)
spans_few (e ∷ es) both =
    let first = spans_changed e.area e.change both in
    let rest = spans_few es (changed e.area e.change both) in
    let a = first.0 in
    let b = first.1 in
    let more_a = rest.0 in
    let more_b = rest.1 in
    (omega arith, omega arith)
