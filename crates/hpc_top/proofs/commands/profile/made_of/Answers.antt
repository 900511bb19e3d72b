use Rattle.std.proofs.Common.{refl}
use Rattle.hpc_top.proofs.commands.profile.made_of.Goals as goal

pub returns : goal.returns
returns g c m told = record { made_of = c.in_ok-made.ensures m told; crew = refl }
