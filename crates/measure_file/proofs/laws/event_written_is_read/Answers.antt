use Rattle.measure_file.proofs.ForthFile.{event_written_read}
use Rattle.measure_file.proofs.laws.event_written_is_read.Goals as goal

pub returns : goal.returns
returns c = event_written_read
