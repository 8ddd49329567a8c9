use Rattle.outside_io.proofs.Outcomes.{of_same}
use Rattle.outside_io.proofs.std_sink.StdSinkSink.write.Goals as goal

pub returns-in_default-3-clause-bytes : goal.returns-in_default-3-clause-bytes
returns-in_default-3-clause-bytes g c = of_same _ _ _ _ c.write_again.ensures.bytes c.counting.ensures.value c.counting.ensures.error
