use Rattle.hpc_laws.proofs.TracesStored.{stores_trace}
use Rattle.hpc_laws.proofs.traces.traces_are_of_runs.Goals as goal

pub returns-clause-stored : goal.returns-clause-stored
returns-clause-stored c =
    stores_trace c.samples_are_of_instructions.ensures c.paths_have_frames.ensures.frames c.paths_have_frames.ensures.words c.retired_samples_are_counted.ensures c.trace_written_is_read.ensures
