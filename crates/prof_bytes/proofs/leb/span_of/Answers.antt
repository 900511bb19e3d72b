use Rattle.std.proofs.Common.{length}
use Rattle.prof_bytes.proofs.Spans.{shifted}
use Rattle.prof_bytes.proofs.leb.span_of.Goals as goal

pub returns-clause-value : goal.returns-clause-value
returns-clause-value c = shifted (length c.args.group.now) c.requires
