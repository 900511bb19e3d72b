use Rattle.hpc_laws.proofs.Apart.{apart}
use Rattle.hpc_laws.proofs.commands.profile_is_run_then_prof.Goals as goal

pub returns : goal.returns
returns c =
    apart c.samples_are_of_instructions.ensures c.paths_have_frames.ensures.frames c.paths_have_frames.ensures.words c.event_written_is_read.ensures c.samples_are_measured.ensures c.measurements_count_samples.ensures.distinct c.samples_are_counted.ensures.columns c.samples_are_counted.ensures.alike
    c.event_content_holds_its_paths.ensures.alike c.counts_decide.ensures.table c.event_paths_are_paths.ensures.alike
