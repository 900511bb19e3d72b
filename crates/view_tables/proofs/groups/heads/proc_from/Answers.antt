use Rattle.view_tables.proofs.grouping.Searches.{caller_is}
use Rattle.view_tables.proofs.groups.heads.proc_from.Goals as goal

pub returns-in-Proc : goal.returns-in-Proc
returns-in-Proc c =
    caller_is c.args.content.now c.args.heads.now c.args.number c.in_ok-here.here.now c.requires.profile c.requires.long c.in_ok-here.ensures.0 c.in_ok-here.ensures.1 c.in-Proc.id c.requires.heads c.in-Proc.is
