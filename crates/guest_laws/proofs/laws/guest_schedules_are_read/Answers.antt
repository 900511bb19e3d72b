use Rattle.guest_laws.proofs.Schedules.{schedules_are_read}
use Rattle.guest_laws.proofs.laws.guest_schedules_are_read.Goals as goal

pub returns : goal.returns
returns c = schedules_are_read
