use Rattle.std.proofs.Common.{◌∙◌}
use Rattle.hpc_top.proofs.Products.{report_is}
use Rattle.hpc_top.proofs.commands.profile.report_of.Goals as goal

pub returns : goal.returns
returns g c m told =
    report_is m c.args.content _ c.in_ok-stored.ensures.0 c.in_ok-stored.ensures.1 told.lines (c.as_slice.ensures.value ∙ told.event_lines)
