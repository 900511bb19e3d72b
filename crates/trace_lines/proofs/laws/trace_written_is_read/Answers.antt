use Rattle.trace_lines.proofs.ForthFile.{written_read}
use Rattle.trace_lines.proofs.laws.trace_written_is_read.Goals as goal

pub returns : goal.returns
returns c = written_read
