use Rattle.hpc_laws.proofs.Refused.{refused_for_paths}
use Rattle.hpc_laws.proofs.drills.drills_are_refused_for_long_paths_alone.Goals as goal

pub returns : goal.returns
returns c =
    refused_for_paths c.guest_schedules_are_read.ensures c.guest_programs_are_read.ensures.image c.guest_frames_are_read.ensures.read c.guests_have_no_debug_information.ensures
    c.absent_debug_information_is_read.ensures.entries c.absent_debug_information_is_read.ensures.lines c.absent_debug_information_is_read.ensures.structure c.guests_have_few_samples.ensures
