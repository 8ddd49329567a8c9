use Rattle.std.proofs.Common.{◌≡◌, ◌-◌}
use Rattle.mesh_model.specs.Images.Codec.{times}
use Rattle.mesh_model.specs.Images.Reading.{content}
use Rattle.check_format.proofs.Readers.{told}
use Rattle.check_format.proofs.reading.numbers.contents_at.Given as goal

-- the contents so far, and those that are still to be read
abbrev pub invariant-loop : goal.invariant-loop
invariant-loop l = told content.read l.contents.items (l.count - l.counter) l.rest ≡ (times l.count content).read l.bytes
