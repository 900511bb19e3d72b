use Rattle.trace_lines.proofs.BackFile.{read_bytes, read_storable}
use Rattle.trace_lines.proofs.laws.trace_read_is_written.Goals as goal

pub returns-clause-storable : goal.returns-clause-storable
returns-clause-storable c = read_storable

pub returns-clause-bytes : goal.returns-clause-bytes
returns-clause-bytes c = read_bytes
