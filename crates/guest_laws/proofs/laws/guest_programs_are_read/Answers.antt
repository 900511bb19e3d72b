use Rattle.guest_laws.proofs.Programs.{guest_sections_are, guest_segments_are, programs_are_read}
use Rattle.guest_laws.proofs.laws.guest_programs_are_read.Goals as goal

pub returns-clause-image : goal.returns-clause-image
returns-clause-image c = programs_are_read

pub returns-clause-segments : goal.returns-clause-segments
returns-clause-segments c = guest_segments_are

pub returns-clause-sections : goal.returns-clause-sections
returns-clause-sections c = guest_sections_are
