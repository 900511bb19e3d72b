use Rattle.hpc_laws.proofs.TracesStored.{traces_run}
use Rattle.hpc_laws.proofs.traces.trace_puts_what_run_puts.Goals as goal

pub returns : goal.returns
returns c = traces_run
