use Rattle.measure_file.proofs.BackFile.{read_measurable, read_bytes}
use Rattle.measure_file.proofs.laws.read_is_written.Goals as goal

pub returns-clause-measurable : goal.returns-clause-measurable
returns-clause-measurable c = read_measurable

pub returns-clause-bytes : goal.returns-clause-bytes
returns-clause-bytes c = read_bytes
