use Rattle.std.proofs.Common.{◌≡◌, drop, length}
use Rattle.mesh_model.specs.Images.Reading.{all_differ}
use Rattle.check_format.specs.Written.{all_names}
use Rattle.check_format.proofs.reading.header.names_differ.Given as goal

-- none of the names passed stands later too
abbrev pub invariant-loop-i : goal.invariant-loop-i
invariant-loop-i l = (all_differ (drop l.i (all_names l.names)) ≡ all_differ (all_names l.names)) × (l.end ≡ length (all_names l.names))
