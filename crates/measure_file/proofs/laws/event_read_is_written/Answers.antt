use Rattle.measure_file.proofs.BackFile.{event_read_measurable, event_read_bytes}
use Rattle.measure_file.proofs.laws.event_read_is_written.Goals as goal

pub returns-clause-measurable : goal.returns-clause-measurable
returns-clause-measurable c = event_read_measurable

pub returns-clause-bytes : goal.returns-clause-bytes
returns-clause-bytes c = event_read_bytes
