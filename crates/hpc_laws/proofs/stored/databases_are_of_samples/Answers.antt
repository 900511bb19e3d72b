use Rattle.hpc_laws.proofs.StoredRuns.{runs_stored}
use Rattle.hpc_laws.proofs.StoredSamples.{profiles_stored, profs_stored}
use Rattle.hpc_laws.proofs.stored.databases_are_of_samples.Goals as goal

pub returns-clause-profile : goal.returns-clause-profile
returns-clause-profile c =
    profiles_stored (record {
      shown = c.views_are_of_call_paths.ensures.stored;
      summed = c.summaries_are_of_call_paths.ensures.stored;
      read = c.event_call_paths_are_stored.ensures.read;
      call_paths = c.call_paths_are_stored.ensures.paths;
      samples_alike = c.samples_are_counted.ensures.alike;
      nodes_alike = c.counts_decide.ensures.nodes;
      nodes_few = c.nodes_are_few.ensures;
    }) c.samples_are_of_instructions.ensures c.paths_have_frames.ensures.frames c.paths_have_frames.ensures.words

pub returns-clause-prof : goal.returns-clause-prof
returns-clause-prof c =
    profs_stored (record {
      shown = c.views_are_of_call_paths.ensures.stored;
      summed = c.summaries_are_of_call_paths.ensures.stored;
      read = c.event_call_paths_are_stored.ensures.read;
      call_paths = c.call_paths_are_stored.ensures.paths;
      samples_alike = c.samples_are_counted.ensures.alike;
      nodes_alike = c.counts_decide.ensures.nodes;
      nodes_few = c.nodes_are_few.ensures;
    }) (record {
      measurable = c.event_read_is_written.ensures.measurable;
      again = c.measurements_count_samples.ensures.distinct;
      many = c.measurements_count_samples.ensures.many;
      columns = c.measurements_count_samples.ensures.columns;
    })

pub returns-clause-merge : goal.returns-clause-merge
returns-clause-merge c =
    runs_stored (record {
      shown = c.views_are_of_call_paths.ensures.stored;
      summed = c.summaries_are_of_call_paths.ensures.stored;
      read = c.event_call_paths_are_stored.ensures.read;
      call_paths = c.call_paths_are_stored.ensures.paths;
      samples_alike = c.samples_are_counted.ensures.alike;
      nodes_alike = c.counts_decide.ensures.nodes;
      nodes_few = c.nodes_are_few.ensures;
    }) (record {
      measurable = c.event_read_is_written.ensures.measurable;
      again = c.measurements_count_samples.ensures.distinct;
      many = c.measurements_count_samples.ensures.many;
      columns = c.measurements_count_samples.ensures.columns;
    })
