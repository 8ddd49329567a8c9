-- The commands of a run, one after the other.
use Rattle.std.proofs.Common.{◌≡◌, ◌≢◌, ℕ, ◌≤◌, zero, suc, ◌+◌, ◌<◌, ◌++◌, List, [], ◌∷◌, Option, Some, None, IfSome, length, get_or, take, drop, refl, sym, ap, subst, ◌∙◌, arith, append_assoc, append-nil, length-append}
use Rattle.std.proofs.Math.Seq.{take-append-add, take-length, take-suc}
use Rattle.std.proofs.lemmas.List.{length-take-le, take-append-le}
use Rattle.mesh_model.specs.declared.language.script.Command.{Command}
use Rattle.mesh_model.specs.declared.language.script.Command.TheVariants as commands
use Rattle.mesh_model.specs.declared.run.stops.Refusal as stops
use Rattle.mesh_model.specs.Run.Stops.{refusal}
use Rattle.mesh_model.specs.declared.language.script.Line.{Line}
use Rattle.outside_io.specs.Areas.{Areas}
use Rattle.amr_engine.specs.declared.cause.StoppedBy.{StoppedBy}
use Rattle.amr_engine.specs.declared.cause.StoppedBy.TheVariants as by
use Rattle.amr_engine.specs.Saving.{CountsFault, HasSaved, StaysWhole}
use Rattle.amr_engine.specs.Stopping.{Leaves, MayStop, WrotePart}
use Rattle.mesh_model.specs.Fields.Plain.{Mesh}
use Rattle.outside_io.specs.Moved.{Rose, Takes, TakesPrefix}
use Rattle.outside_io.proofs.Moving.{takes_more}
use Rattle.amr_program.specs.Lasting.{DiskRun, LeavesLastTwo, TookBetween, disk_run}
use Rattle.amr_program.specs.Outcome.{BrokeOff, RunStops, WereBegun, WereDone}
use Rattle.amr_engine.proofs.Saved.{nothing_saved, saves_mesh, stays_whole}
use Rattle.amr_program.proofs.Keeping.{more_saved, more_stay, one_begun}
use Rattle.mesh_model.specs.Run.Runs.{TheDisk, checkpoints, done, mesh_after, mesh_after_all, needs, saved_by, stop, text_of, texts}

-- ---- commands after others

texts_append : (m : Mesh) (xs ys : List Line) → texts m (xs ++ ys) ≡ texts m xs ++ texts (mesh_after_all m xs) ys
texts_append m [] ys = refl
texts_append m (line ∷ xs) ys = ap (λ t. text_of m line.command ++ t) (texts_append (mesh_after m line.command) xs ys) ∙ sym (append_assoc (text_of m line.command) (texts (mesh_after m line.command) xs) (texts (mesh_after_all (mesh_after m line.command) xs) ys))

mesh_append : (m : Mesh) (xs ys : List Line) → mesh_after_all m (xs ++ ys) ≡ mesh_after_all (mesh_after_all m xs) ys
mesh_append m [] ys = refl
mesh_append m (line ∷ xs) ys = mesh_append (mesh_after m line.command) xs ys

-- a run that has done the first i commands: the mesh is the one after them, and it goes on with the others
pub record Progress (m : Mesh) (lines : List Line) (i : ℕ) (now : Mesh) : Type 0 where
  pub mesh : now ≡ mesh_after_all m (take i lines)
  pub done_so_far : done m lines ≡ take i lines ++ done now (drop i lines)
  pub stops_later : stop m lines ≡ stop now (drop i lines)

pub begun : (m : Mesh) (lines : List Line) → Progress m lines 0 m
begun m lines = record { mesh = refl; done_so_far = refl; stops_later = refl }

-- what a refusal, or none, makes of the commands that are left
done_by : (now : Mesh) (line : Line) (rest : List Line) → refusal now line.command ≡ None → (done now (line ∷ rest) ≡ line ∷ done (mesh_after now line.command) rest) × (stop now (line ∷ rest) ≡ stop (mesh_after now line.command) rest)
done_by now line rest none = (
  ap (λ o. elim o [ None ↦ line ∷ done (mesh_after now line.command) rest | Some w ↦ [] ]) none,
  ap (λ o. elim o [ None ↦ stop (mesh_after now line.command) rest | Some w ↦ Some (record { line = line.number; why = w }) ]) none,
)

stopped_by : (now : Mesh) (line : Line) (rest : List Line) (reason : stops.Refusal) → refusal now line.command ≡ Some reason → (done now (line ∷ rest) ≡ []) × (stop now (line ∷ rest) ≡ Some (record { line = line.number; why = reason }))
stopped_by now line rest reason some = (
  ap (λ o. elim o [ None ↦ line ∷ done (mesh_after now line.command) rest | Some w ↦ [] ]) some,
  ap (λ o. elim o [ None ↦ stop (mesh_after now line.command) rest | Some w ↦ Some (record { line = line.number; why = w }) ]) some,
)

left_from : (lines : List Line) (i : ℕ) (d : Line) → i < length lines → drop i lines ≡ get_or lines i d ∷ drop (i + 1) lines
left_from [] i d h = absurd (omega arith)
left_from (line ∷ lines) zero d h = refl
left_from (line ∷ lines) (suc i) d h = let next : suc i + 1 ≡ suc (i + 1) = omega arith in left_from lines i d (omega arith) ∙ ap (λ k. get_or lines i d ∷ drop k (line ∷ lines)) (sym next)

-- one more command is done
pub goes_on : (m now after : Mesh) (lines : List Line) (i : ℕ) (d : Line) → i < length lines → Progress m lines i now → refusal now (get_or lines i d).command ≡ None → after ≡ mesh_after now (get_or lines i d).command → Progress m lines (i + 1) after
goes_on m now after lines i d h so_far none made =
    let line = get_or lines i d in
    let rest = drop (i + 1) lines in
    let more : take (i + 1) lines ≡ take i lines ++ line ∷ [] = take-suc_of lines i d h in
    let here = done_by now line rest none in
    record {
      mesh = made ∙ ap (λ x. mesh_after x line.command) so_far.mesh ∙ sym (mesh_append m (take i lines) (line ∷ [])) ∙ ap (mesh_after_all m) (sym more);
      done_so_far = so_far.done_so_far ∙ ap (λ ls. take i lines ++ done now ls) (left_from lines i d h) ∙ ap (λ ls. take i lines ++ ls) (here.0 ∙ ap (λ x. line ∷ done x rest) (sym made)) ∙ sym (append_assoc (take i lines) (line ∷ []) (done after rest)) ∙ ap (λ ls. ls ++ done after rest) (sym more);
      stops_later = so_far.stops_later ∙ ap (stop now) (left_from lines i d h) ∙ here.1 ∙ ap (λ x. stop x rest) (sym made);
    }
  where
    take-suc_of : (lines : List Line) (i : ℕ) (d : Line) → i < length lines → take (i + 1) lines ≡ take i lines ++ get_or lines i d ∷ []
    take-suc_of lines i d h = let e : i + 1 ≡ suc i = omega arith in ap (λ k. take k lines) e ∙ take-suc lines i d h

-- all commands are done
pub all_done : (m now : Mesh) (lines : List Line) (i : ℕ) → length lines ≤ i → Progress m lines i now → (done m lines ≡ take i lines) × (stop m lines ≡ None)
all_done m now lines i far so_far =
    let none : drop i lines ≡ [] = nothing_left lines i far in
    (so_far.done_so_far ∙ ap (λ ls. take i lines ++ done now ls) none ∙ append-nil (take i lines), so_far.stops_later ∙ ap (stop now) none)
  where
    nothing_left : (lines : List Line) (i : ℕ) → length lines ≤ i → drop i lines ≡ []
    nothing_left [] zero h = refl
    nothing_left [] (suc i) h = refl
    nothing_left (line ∷ lines) zero h = absurd (omega arith)
    nothing_left (line ∷ lines) (suc i) h = nothing_left lines i (omega arith)

-- the texts with one more command
pub more_taken : (m now : Mesh) (lines : List Line) (i : ℕ) (d : Line) (a b c : Option (List ℕ)) → i < length lines → Progress m lines i now → Takes a (texts m (take i lines)) b → Takes b (text_of now (get_or lines i d).command) c → Takes a (texts m (take (i + 1) lines)) c
more_taken m now lines i d a b c h so_far before here =
    let line = get_or lines i d in
    let next : i + 1 ≡ suc i = omega arith in
    let texts_next : texts m (take i lines) ++ text_of now line.command ≡ texts m (take (i + 1) lines) =
    ap (λ x. texts m (take i lines) ++ text_of x line.command) so_far.mesh
    ∙ ap (λ t. texts m (take i lines) ++ t) (sym (append-nil (text_of (mesh_after_all m (take i lines)) line.command)))
    ∙ sym (texts_append m (take i lines) (line ∷ []))
    ∙ ap (texts m) (sym (ap (λ k. take k lines) next ∙ take-suc lines i d h)) in
    subst (λ t. Takes a t c) texts_next (takes_more a b c (texts m (take i lines)) (text_of now line.command) before here)

-- ---- pieces of texts

-- a first part of a text after another
pub cut_within : (a b c : Option (List ℕ)) (xs ys zs whole : List ℕ) → whole ≡ xs ++ ys ++ zs → Takes a xs b → TakesPrefix b ys c → TookBetween (length xs) (length (xs ++ ys)) whole a c
cut_within None b c xs ys zs whole is takes part = tt
cut_within (Some bytes) b c xs ys zs whole is takes part =
    let here = subst (λ o. IfSome o (λ so_far. (n : ℕ) × (n ≤ length ys) × (c ≡ Some (so_far ++ take n ys)))) takes part in
    let n = here.0 in
    let taken : take (length xs + n) whole ≡ xs ++ take n ys = ap (take (length xs + n)) (is ∙ append_assoc xs ys zs) ∙ take-append-add xs (ys ++ zs) n ∙ ap (λ t. xs ++ t) (take-append-le n ys zs here.1) in
    (length xs + n, omega arith, (let l = here.1 in let long = length-append xs ys in omega arith), here.2 ∙ ap Some (append_assoc bytes xs (take n ys) ∙ ap (λ t. bytes ++ t) (sym taken)))

-- a first part of a text from where nothing was taken
pub cut_line : (a c : Option (List ℕ)) (line : List ℕ) → TakesPrefix a line c → TookBetween 0 (length line) line a c
cut_line None c line part = tt
cut_line (Some bytes) c line part = (part.0, omega arith, part.1, part.2)

pub wider : (a c : Option (List ℕ)) (least most more : ℕ) (text whole : List ℕ) → ((n : ℕ) → n ≤ most → take n whole ≡ take n text) → most ≤ more → TookBetween least most text a c → TookBetween least more whole a c
wider None c least most more text whole same le took = tt
wider (Some bytes) c least most more text whole same le took = (took.0, took.1, (let l = took.2 in omega arith), took.3 ∙ ap (λ t. Some (bytes ++ t)) (sym (same took.0 took.2)))

-- all that a sink took between is a first part
pub took_part : (a c : Option (List ℕ)) (least most : ℕ) (text : List ℕ) → most ≤ length text → TookBetween least most text a c → TakesPrefix a text c
took_part None c least most text le took = tt
took_part (Some bytes) c least most text le took = (took.0, (let l = took.2 in omega arith), took.3)

-- ---- checkpoints

pub checkpoints_append : (m : Mesh) (xs ys : List Line) → checkpoints m (xs ++ ys) ≡ checkpoints m xs ++ checkpoints (mesh_after_all m xs) ys
checkpoints_append m [] ys = refl
checkpoints_append m (line ∷ xs) ys = ap (λ t. saved_by m line.command ++ t) (checkpoints_append (mesh_after m line.command) xs ys) ∙ sym (append_assoc (saved_by m line.command) (checkpoints (mesh_after m line.command) xs) (checkpoints (mesh_after_all (mesh_after m line.command) xs) ys))

-- those among the first commands and one more
pub checkpoints_next : (m now : Mesh) (xs : List Line) (line : Line) → now ≡ mesh_after_all m xs → checkpoints m (xs ++ line ∷ []) ≡ checkpoints m xs ++ saved_by now line.command
checkpoints_next m now xs line is = checkpoints_append m xs (line ∷ []) ∙ ap (λ t. checkpoints m xs ++ t) (append-nil (saved_by (mesh_after_all m xs) line.command) ∙ ap (λ n. saved_by n line.command) (sym is))

-- a command that the mesh refuses does not need the disk
unneeded : (m : Mesh) (command : Command) (why : stops.Refusal) → refusal m command ≡ Some why → needs command ≢ TheDisk
unfolding refusal
unneeded m commands.Checkpoint why some = absurd (cc some)
unneeded m other why some = λ e. cc e

-- and the mesh does not refuse what needs it
not_refused : (m : Mesh) (command : Command) → needs command ≡ TheDisk → refusal m command ≡ None
unfolding refusal
not_refused m commands.Checkpoint is = refl
not_refused m other is = absurd (cc is)

-- ---- a run by its commands

module _ {D : Type 0} (holds : D → Option Areas) (may_leave : D → Areas → Type 0) (moment : D → ℕ) (left_since : D → ℕ → Areas → Type 0) (faults : D → ℕ) where
  -- the meshes of the first i commands were saved
  pub record Kept (m : Mesh) (lines : List Line) (i : ℕ) (old now : D) : Type 0 where
    pub calm : faults now ≡ faults old
    pub stays : StaysWhole holds may_leave moment left_since (checkpoints m (take i lines)) old now
    pub has : HasSaved holds may_leave (checkpoints m (take i lines)) old now

  abbrev run_of : D → D → DiskRun
  run_of = disk_run holds may_leave moment left_since faults

  pub kept_first : ((disk : D) (c : Areas) → left_since disk (moment disk) c → may_leave disk c) → (m : Mesh) (lines : List Line) (disk : D) → Kept m lines 0 disk disk
  kept_first only_now m lines disk = record { calm = refl; stays = stays_whole holds may_leave moment left_since only_now disk; has = nothing_saved holds may_leave moment left_since only_now disk }

  kept_done : (m : Mesh) (lines first : List Line) (i : ℕ) (old now : D) → take i lines ≡ first → Kept m lines i old now → (k : ℕ) → take k (done m lines) ≡ first → WereDone k m lines (run_of old now)
  kept_done m lines first i old now is kept k same =
      let e : checkpoints m (take i lines) ≡ checkpoints m (take k (done m lines)) = ap (checkpoints m) (is ∙ sym same) in
      record { calm = kept.calm; saved = (subst (λ ms. StaysWhole holds may_leave moment left_since ms old now) e kept.stays, subst (λ ms. HasSaved holds may_leave ms old now) e kept.has) }

  module _ (m now : Mesh) (lines : List Line) (i : ℕ) (d : Line) (old mid new : D) (here : i < length lines) (so_far : Progress m lines i now) (kept : Kept m lines i old mid) where
    the_line : Line
    the_line = get_or lines i d

    one_more : take (i + 1) lines ≡ take i lines ++ the_line ∷ []
    unfolding the_line
    one_more = let e : i + 1 ≡ suc i = omega arith in ap (λ k. take k lines) e ∙ take-suc lines i d here

    next_meshes : checkpoints m (take i lines ++ the_line ∷ []) ≡ checkpoints m (take i lines) ++ saved_by now the_line.command
    next_meshes = checkpoints_next m now (take i lines) the_line so_far.mesh

    -- one command more is done
    pub kept_on : StaysWhole holds may_leave moment left_since (saved_by now (get_or lines i d).command) mid new → HasSaved holds may_leave (saved_by now (get_or lines i d).command) mid new → faults new ≡ faults mid
        → Kept m lines (i + 1) old new
    unfolding the_line
    kept_on stays has calm =
        let e : checkpoints m (take i lines) ++ saved_by now the_line.command ≡ checkpoints m (take (i + 1) lines) = sym next_meshes ∙ ap (checkpoints m) (sym one_more) in
        record {
          calm = calm ∙ kept.calm;
          stays = subst (λ ms. StaysWhole holds may_leave moment left_since ms old new) e (more_stay holds may_leave moment left_since (checkpoints m (take i lines)) (saved_by now the_line.command) old mid new kept.stays kept.has stays);
          has = subst (λ ms. HasSaved holds may_leave ms old new) e (more_saved holds may_leave moment left_since (checkpoints m (take i lines)) (saved_by now the_line.command) old mid new kept.stays kept.has stays has);
        }

    kept_same : new ≡ mid → Kept m lines i old new
    kept_same same = subst (Kept m lines i old) (sym same) kept

    size_of_first : length (take i lines) ≡ i
    size_of_first = length-take-le i lines (omega (arith, here))

    firsts : take i (done m lines) ≡ take i lines
    firsts = ap (take i) so_far.done_so_far ∙ subst (λ n. take n (take i lines ++ done now (drop i lines)) ≡ take i lines) size_of_first (take-append-le (length (take i lines)) (take i lines) (done now (drop i lines)) (omega arith) ∙ take-length (take i lines))

    reached_here : i ≤ length (done m lines)
    reached_here = let long = ap length so_far.done_so_far ∙ length-append (take i lines) (done now (drop i lines)) in let first = size_of_first in omega arith

    -- the command is not refused by the mesh: it and the first are done
    module _ (free : refusal now (get_or lines i d).command ≡ None) where
      rest_done : List Line
      rest_done = done (mesh_after now the_line.command) (drop (i + 1) lines)

      all_of_it : done m lines ≡ (take i lines ++ the_line ∷ []) ++ rest_done
      unfolding the_line rest_done
      all_of_it = so_far.done_so_far ∙ ap (λ ls. take i lines ++ done now ls) (left_from lines i d here) ∙ ap (λ ls. take i lines ++ ls) (done_by now the_line (drop (i + 1) lines) free).0 ∙ sym (append_assoc (take i lines) (the_line ∷ []) rest_done)

      long_first : length (take i lines ++ the_line ∷ []) ≡ i + 1
      long_first = let first = size_of_first in let both = length-append (take i lines) (the_line ∷ []) in omega arith

      next_firsts : take (i + 1) (done m lines) ≡ take i lines ++ the_line ∷ []
      next_firsts =
          ap (take (i + 1)) all_of_it
          ∙ subst (λ n. take n ((take i lines ++ the_line ∷ []) ++ rest_done) ≡ take i lines ++ the_line ∷ []) long_first
          (take-append-le (length (take i lines ++ the_line ∷ [])) (take i lines ++ the_line ∷ []) rest_done (omega arith) ∙ take-length (take i lines ++ the_line ∷ []))

      below_done : i < length (done m lines)
      below_done = let all = ap length all_of_it ∙ length-append (take i lines ++ the_line ∷ []) rest_done in let first = long_first in omega arith

      -- the sink failed within its text
      broke : (a b c : Option (List ℕ)) (f g h : ℕ) → Takes a (texts m (take i lines)) b → g ≡ f → WrotePart (text_of now (get_or lines i d).command) (record { before = b; after = c; faults = g; new_faults = h })
          → BrokeOff i m lines (record { before = a; after = c; faults = f; new_faults = h })
      unfolding the_line
      broke a b c f g h before calm part =
          let first = texts m (take i lines) in
          let mine = text_of now the_line.command in
          let both : texts m (take i lines ++ the_line ∷ []) ≡ first ++ mine = texts_append m (take i lines) (the_line ∷ []) ∙ ap (λ t. first ++ t) (append-nil (text_of (mesh_after_all m (take i lines)) the_line.command) ∙ ap (λ n. text_of n the_line.command) (sym so_far.mesh)) in
          let later = texts (mesh_after_all m (take i lines ++ the_line ∷ [])) rest_done in
          let all : texts m (done m lines) ≡ first ++ mine ++ later = ap (texts m) all_of_it ∙ texts_append m (take i lines ++ the_line ∷ []) rest_done ∙ ap (λ t. t ++ later) both in
          let least : length first ≡ length (texts m (take i (done m lines))) = ap (λ ls. length (texts m ls)) (sym firsts) in
          let most : length (first ++ mine) ≡ length (texts m (take (i + 1) (done m lines))) = ap length (sym both) ∙ ap (λ ls. length (texts m ls)) (sym next_firsts) in
          record {
            there = below_done;
            took = subst (λ n. TookBetween (length (texts m (take i (done m lines)))) n (texts m (done m lines)) a c) most (subst (λ n. TookBetween n (length (first ++ mine)) (texts m (done m lines)) a c) least (cut_within a b c first mine later (texts m (done m lines)) all before part.takes));
            rose = subst (λ n. Rose n h) calm part.rose;
          }

      -- the disk failed at it
      begun_here : ((disk : D) (t : ℕ) (c : Areas) → t ≤ moment disk → may_leave disk c → left_since disk t c) → needs (get_or lines i d).command ≡ TheDisk → StaysWhole holds may_leave moment left_since (saved_by now (get_or lines i d).command) mid new → Rose (faults mid) (faults new) → WereBegun i m lines (run_of old new)
      unfolding the_line
      begun_here counts_now disk stays rose =
          let ms = checkpoints m (take i lines) in
          let step : StaysWhole holds may_leave moment left_since (now ∷ []) mid new = subst (λ x. StaysWhole holds may_leave moment left_since x mid new) (saves_mesh now the_line.command disk) stays in
          let e : ms ++ now ∷ [] ≡ checkpoints m (take (i + 1) (done m lines)) = ap (λ x. ms ++ x) (sym (saves_mesh now the_line.command disk)) ∙ sym next_meshes ∙ ap (checkpoints m) (sym next_firsts) in
          record {
            rose = subst (λ n. Rose n (faults new)) kept.calm rose;
            begun = (
              subst (λ x. StaysWhole holds may_leave moment left_since x old new) e (more_stay holds may_leave moment left_since ms (now ∷ []) old mid new kept.stays kept.has step),
              subst (λ x. LeavesLastTwo holds may_leave moment left_since x old new) e (one_begun holds may_leave moment left_since ms now old mid new (counts_now new) kept.stays kept.has step),
            );
            one = ap length (sym e) ∙ length-append ms (now ∷ []) ∙ ap (λ x. length (checkpoints m x) + 1) (sym firsts);
          }

    -- the command at which a run stands is refused
    stopped_here : (number : ℕ) (reason : stops.Refusal) → number ≡ (get_or lines i d).number → refusal now (get_or lines i d).command ≡ Some reason → (stop m lines ≡ Some (record { line = number; why = reason })) × (done m lines ≡ take i lines)
    stopped_here number reason number_is some =
        let line = get_or lines i d in
        let refused = stopped_by now line (drop (i + 1) lines) reason some in (
          so_far.stops_later ∙ ap (stop now) (left_from lines i d here) ∙ refused.1 ∙ ap (λ n. Some (record { line = n; why = reason })) (sym number_is),
          so_far.done_so_far ∙ ap (λ ls. take i lines ++ done now ls) (left_from lines i d here) ∙ ap (λ ls. take i lines ++ ls) refused.0 ∙ append-nil (take i lines),
        )

    -- a command was stopped
    module _ (counts_now : (disk : D) (t : ℕ) (c : Areas) → t ≤ moment disk → may_leave disk c → left_since disk t c) (a b c : Option (List ℕ)) (f g h : ℕ) (number : ℕ) (number_is : number ≡ (get_or lines i d).number) (before : Takes a (texts m (take i lines)) b) (calm : g ≡ f)
        (stays : StaysWhole holds may_leave moment left_since (saved_by now (get_or lines i d).command) mid new) (alone : needs (get_or lines i d).command ≢ TheDisk → new ≡ mid) where
      pub run_stops : (stopper : StoppedBy) → MayStop stopper now (get_or lines i d).command → Leaves stopper (text_of now (get_or lines i d).command) (record { before = b; after = c; faults = g; new_faults = h }) → CountsFault stopper (faults mid) (faults new)
          → RunStops stopper number m lines (record { before = a; after = c; faults = f; new_faults = h }) (run_of old new)
      run_stops (by.Mesh reason) may leaves counts =
          let at = stopped_here number reason number_is may in
          let same = alone (unneeded now (get_or lines i d).command reason may) in (
            at.0,
            record { takes = subst (λ x. Takes a (texts m (done m lines)) x) (sym leaves.taken) (subst (λ t. Takes a t b) (ap (texts m) (sym at.1)) before); calm = leaves.calm ∙ calm },
            kept_done m lines (take i lines) i old new refl (kept_same same) (length (done m lines)) (take-length (done m lines) ∙ at.1),
          )
      run_stops by.Sink may leaves counts = (
        i,
        broke may.1 a b c f g h before calm leaves,
        kept_done m lines (take i lines) i old new refl (kept_same (alone (λ e. cc (sym may.0 ∙ e)))) i firsts,
      )
      run_stops by.Disk may leaves counts = (
        i,
        record { line = get_or lines i d; rest = drop (i + 1) lines; reached = reached_here; next = left_from lines i d here; wants = may },
        record { takes = subst (λ t. Takes a t c) (ap (texts m) (sym firsts)) (subst (λ x. Takes a (texts m (take i lines)) x) (sym leaves.taken) before); calm = leaves.calm ∙ calm },
        begun_here (not_refused now (get_or lines i d).command may) counts_now may stays counts,
      )
      run_stops by.Memory may leaves counts = (
        i,
        record { line = get_or lines i d; rest = drop (i + 1) lines; reached = reached_here; next = left_from lines i d here; wants = may },
        record { takes = subst (λ t. Takes a t c) (ap (texts m) (sym firsts)) (subst (λ x. Takes a (texts m (take i lines)) x) (sym leaves.taken) before); calm = leaves.calm ∙ calm },
        kept_done m lines (take i lines) i old new refl (kept_same (alone (λ e. cc (sym may ∙ e)))) i firsts,
      )

  -- all commands were done
  pub kept_to_end : (m now : Mesh) (lines : List Line) (i : ℕ) (old new : D) → length lines ≤ i → Progress m lines i now → Kept m lines i old new → WereDone (length (done m lines)) m lines (run_of old new)
  kept_to_end m now lines i old new far so_far kept =
      kept_done m lines (take i lines) i old new refl kept (length (done m lines)) (take-length (done m lines) ∙ (all_done m now lines i far so_far).0)

  -- nothing was done
  pub none_done : ((disk : D) (c : Areas) → left_since disk (moment disk) c → may_leave disk c) → (m : Mesh) (lines : List Line) (disk : D) → WereDone 0 m lines (run_of disk disk)
  none_done only_now m lines disk = let first = kept_first only_now m lines disk in record { calm = first.calm; saved = (first.stays, first.has) }
