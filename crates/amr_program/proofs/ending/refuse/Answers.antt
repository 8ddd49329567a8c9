use Rattle.std.proofs.Common.{refl, ◌∙◌}
use Rattle.amr_program.proofs.Parts.{said}
use Rattle.amr_program.proofs.ending.refuse.Goals as goal

pub returns-in-Words : goal.returns-in-Words
returns-in-Words g c = said _ _ _ _ _ _ c.in-Words.is c.status-status.ensures refl c.end.ensures

pub returns-in-NoCheckpoint : goal.returns-in-NoCheckpoint
returns-in-NoCheckpoint g c = said _ _ _ _ _ _ c.in-NoCheckpoint.is c.status-status.ensures refl c.end-in-NoCheckpoint.ensures

pub returns-in-Ok : goal.returns-in-Ok
returns-in-Ok g c = said _ _ _ _ _ _ c.in-Damaged.is c.status-status.ensures (c.as_bytes.ensures ∙ c.in-Ok.ensures) c.end_with.ensures

pub returns-in-Fault : goal.returns-in-Fault
returns-in-Fault g c = said _ _ _ _ _ _ c.in-Fault.is c.status-status.ensures (c.as_bytes-in-Fault.ensures ∙ c.fault_line.ensures) c.end_with-in-Fault.ensures

pub returns-in-NotBuilt : goal.returns-in-NotBuilt
returns-in-NotBuilt g c = said _ _ _ _ _ _ c.in-NotBuilt.is c.status-status.ensures refl c.end-in-NotBuilt.ensures
