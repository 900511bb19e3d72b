use Rattle.guest_laws.proofs.Sections.{no_debug_information}
use Rattle.guest_laws.proofs.laws.guests_have_no_debug_information.Goals as goal

pub returns : goal.returns
returns c = no_debug_information
