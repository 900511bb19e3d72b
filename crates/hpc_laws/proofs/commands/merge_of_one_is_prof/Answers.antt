use Rattle.hpc_laws.proofs.StoredRuns.{merge_of_one, one_is_prof}
use Rattle.hpc_laws.proofs.commands.merge_of_one_is_prof.Goals as goal

pub returns-clause-merge : goal.returns-clause-merge
returns-clause-merge c =
    merge_of_one (record {
      measurable = c.event_read_is_written.ensures.measurable;
      again = c.measurements_count_samples.ensures.distinct;
      many = c.measurements_count_samples.ensures.many;
      columns = c.measurements_count_samples.ensures.columns;
    })

pub returns-clause-prof : goal.returns-clause-prof
returns-clause-prof c = one_is_prof
