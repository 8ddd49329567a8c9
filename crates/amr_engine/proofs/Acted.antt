-- What a command does, as one fact.
use Rattle.std.proofs.Common.{◌≡◌, ◌≢◌, ℕ, List, [], Option, None, Some, Result, MatchResult, append-nil, Ok, Err, refl, sym, ap, subst, ◌∙◌}
use Rattle.mesh_model.specs.declared.language.script.Command.{Command}
use Rattle.mesh_model.specs.declared.run.stops.Refusal.{Refusal}
use Rattle.mesh_model.specs.Fields.Plain.{Mesh}
use Rattle.mesh_model.specs.Run.Runs.{TheSink, mesh_after, needs, text_of}
use Rattle.mesh_model.specs.Run.Stops.{refusal}
use Rattle.mesh_model.proofs.RunLemmas.RunLaws.{prints_nothing}
use Rattle.outside_io.specs.Moved.{Takes}
use Rattle.outside_io.specs.declared.Failed.{Failed}
use Rattle.amr_engine.specs.declared.cause.Cause.{Cause}
use Rattle.amr_engine.specs.declared.cause.Cause.TheVariants as causes
use Rattle.amr_engine.specs.declared.cause.StoppedBy.{StoppedBy}
use Rattle.amr_engine.specs.declared.cause.StoppedBy.TheVariants as by
use Rattle.amr_report.specs.Printing.{Prints}
use Rattle.amr_engine.specs.Stopping.{Acts, Changes, Leaves, MayStop, Written, stopped_by}

-- nothing was written
abbrev quiet : Option (List ℕ) → ℕ → Written
quiet taken faults = record { before = taken; after = taken; faults = faults; new_faults = faults }

-- a command that prints nothing and is not refused
acts_quietly : (m after : Mesh) (command is : Command) (taken : Option (List ℕ)) (faults : ℕ) → command ≡ is → refusal m is ≡ None → text_of m is ≡ [] → after ≡ mesh_after m is → Acts (Ok tt) m command after (quiet taken faults)
acts_quietly m after command is taken faults e none silent made =
    subst (λ k. Acts (Ok tt) m k after (quiet taken faults)) (sym e) (none, made, record { takes = subst (λ t. Takes taken t taken) (sym silent) (nothing_more taken); calm = refl })
  where
    nothing_more : (taken : Option (List ℕ)) → Takes taken [] taken
    nothing_more None = tt
    nothing_more (Some bytes) = ap Some (sym (append-nil bytes))

-- a command that does not need the sink leaves it
leaves_quiet : (stopper : StoppedBy) (m : Mesh) (command : Command) (text : List ℕ) (taken : Option (List ℕ)) (faults : ℕ) → needs command ≢ TheSink → MayStop stopper m command → Leaves stopper text (quiet taken faults)
leaves_quiet (by.Mesh why) m command text taken faults silent may = record { taken = refl; calm = refl }
leaves_quiet by.Sink m command text taken faults silent may = absurd (silent may.0)
leaves_quiet by.Disk m command text taken faults silent may = record { taken = refl; calm = refl }
leaves_quiet by.Memory m command text taken faults silent may = record { taken = refl; calm = refl }

-- a command that prints nothing
pub acts_changing : (result : Result (Unit {0}) Cause) (m after : Mesh) (command is : Command) (taken : Option (List ℕ)) (faults : ℕ) → command ≡ is → needs is ≢ TheSink → Changes result m is after →
    Acts result m command after (quiet taken faults)
acts_changing (Ok done) m after command is taken faults e silent changes = acts_quietly m after command is taken faults e changes.0 (prints_nothing m is silent) changes.1
acts_changing (Err cause) m after command is taken faults e silent changes =
    subst (λ k. Acts (Err cause) m k after (quiet taken faults)) (sym e) (changes.1, (changes.0, leaves_quiet (stopped_by cause) m is (text_of m is) taken faults silent changes.0))

-- a command that prints
pub acts_printing : (printed : Result (Unit {0}) Failed) (result : Result (Unit {0}) Cause) (m after : Mesh) (command is : Command) (w : Written) → command ≡ is → needs is ≡ TheSink → refusal m is ≡ None → mesh_after m is ≡ m →
    Prints printed w.before (text_of m is) w.after w.faults w.new_faults → MatchResult printed (λ done. result ≡ Ok tt) (λ failed. result ≡ Err causes.WriteFault) → after ≡ m → Acts result m command after w
acts_printing (Ok done) result m after command is w e sink none same prints told stays = subst (λ k. Acts result m k after w) (sym e) (subst (λ r. Acts r m is after w) (sym told) (none, stays ∙ sym same, record { takes = prints.0; calm = prints.1 }))
acts_printing (Err failed) result m after command is w e sink none same prints told stays = subst (λ k. Acts result m k after w) (sym e) (subst (λ r. Acts r m is after w) (sym told) (stays, ((sink, none), record { takes = prints.0; rose = prints.1 })))

-- a command that the mesh refuses
pub acts_refused : (cause : Cause) (why : Refusal) (m : Mesh) (command is : Command) (taken : Option (List ℕ)) (faults : ℕ) → command ≡ is → stopped_by cause ≡ by.Mesh why → refusal m is ≡ Some why → Acts (Err cause) m command m (quiet taken faults)
acts_refused cause why m command is taken faults e stopped refused =
    subst (λ k. Acts (Err cause) m k m (quiet taken faults)) (sym e)
    (refl, (subst (λ s. MayStop s m is) (sym stopped) refused, subst (λ s. Leaves s (text_of m is) (quiet taken faults)) (sym stopped) (record { taken = refl; calm = refl })))
