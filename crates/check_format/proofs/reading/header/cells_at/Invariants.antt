use Rattle.std.proofs.Common.{◌≡◌, ◌-◌, ◌≤◌, length}
use Rattle.mesh_model.specs.Fields.VariableNames.{no_names}
use Rattle.mesh_model.specs.Images.Codec.{times}
use Rattle.mesh_model.specs.Images.Reading.{name}
use Rattle.check_format.proofs.Readers.{told}
use Rattle.check_format.proofs.reading.header.cells_at.Given as goal

-- the names so far, and those that are still to be read
abbrev pub invariant-loop : goal.invariant-loop
invariant-loop l = record {
  told : told name.read l.names.cells (l.count - l.counter) l.rest ≡ (times l.count name).read l.bytes;
  alone : l.names ≡ record no_names { cells = l.names.cells };
  few : length l.names.cells ≡ l.counter;
}
