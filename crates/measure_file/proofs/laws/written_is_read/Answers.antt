use Rattle.measure_file.proofs.ForthFile.{written_read}
use Rattle.measure_file.proofs.laws.written_is_read.Goals as goal

pub returns : goal.returns
returns c = written_read
