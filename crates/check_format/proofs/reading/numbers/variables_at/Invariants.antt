use Rattle.std.proofs.Common.{◌≡◌, ◌-◌}
use Rattle.mesh_model.specs.Images.Codec.{times}
use Rattle.check_format.specs.Numbers.{HasVariables, variable, variables_in}
use Rattle.check_format.proofs.Readers.{told}
use Rattle.check_format.proofs.reading.numbers.variables_at.Given as goal

-- the variables so far, and those that are still to be read
abbrev pub invariant-loop : goal.invariant-loop
invariant-loop l = record {
  told : told (variable l.counts.cells).read (variables_in l.variables) (l.counts.variables - l.counter) l.rest ≡ (times l.counts.variables (variable l.counts.cells)).read l.bytes;
  many : HasVariables l.counter l.variables;
}
