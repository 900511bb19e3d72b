use Rattle.guest_laws.proofs.Sections.{frames_of_guests, no_eh_frame}
use Rattle.guest_laws.proofs.laws.guest_frames_are_read.Goals as goal

pub returns-clause-read : goal.returns-clause-read
returns-clause-read c = frames_of_guests

pub returns-clause-none : goal.returns-clause-none
returns-clause-none c = no_eh_frame
