use Rattle.outside_io.proofs.Outcomes.{of_same}
use Rattle.outside_io.proofs.std_source.StdSourceSource.read.Goals as goal

pub returns-clause-bytes : goal.returns-clause-bytes
returns-clause-bytes g c = of_same _ _ _ _ c.read_again.ensures.bytes c.counting.ensures.value c.counting.ensures.error
