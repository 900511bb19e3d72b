use Rattle.measure_file.proofs.EachSample.{samples_distinct, samples_many, samples_own}
use Rattle.measure_file.proofs.laws.measurements_count_samples.Goals as goal

pub returns-clause-distinct : goal.returns-clause-distinct
returns-clause-distinct c = samples_distinct

pub returns-clause-many : goal.returns-clause-many
returns-clause-many c = samples_many

pub returns-clause-columns : goal.returns-clause-columns
returns-clause-columns c = samples_own
