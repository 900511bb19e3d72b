use Rattle.std.proofs.Common.{◌∙◌}
use Rattle.command_line.proofs.Named.{named_all}
use Rattle.command_line.proofs.words.parts.are_named.Goals as goal

pub returns : goal.returns
returns c = c.have_names.ensures ∙ named_all c.args.reads.now
