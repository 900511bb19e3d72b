use Rattle.hpc_laws.proofs.SummedTables.{summed_of_stored}
use Rattle.hpc_laws.proofs.summaries.summaries_are_of_call_paths.Goals as goal

pub returns : goal.returns
returns c = record {
  stored = summed_of_stored c.stats_are_of_call_paths.ensures.table c.event_contents_have_parts.ensures.part c.event_paths_are_paths.ensures.some c.event_paths_are_paths.ensures.below c.event_paths_are_paths.ensures.nodes
      c.event_call_paths_are_stored.ensures.read;
}
