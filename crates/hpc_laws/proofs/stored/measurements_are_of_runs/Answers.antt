use Rattle.hpc_laws.proofs.Ran.{stores_measurement}
use Rattle.hpc_laws.proofs.stored.measurements_are_of_runs.Goals as goal

pub returns : goal.returns
returns c = stores_measurement c.samples_are_of_instructions.ensures c.paths_have_frames.ensures.frames c.paths_have_frames.ensures.words c.event_written_is_read.ensures c.samples_are_measured.ensures c.samples_are_counted.ensures.columns
