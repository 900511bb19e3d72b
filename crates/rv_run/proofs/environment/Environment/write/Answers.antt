use Rattle.std.proofs.Common.{sym, ◌∙◌, arith}
use Rattle.rv_run.proofs.Ranges.{fewer-readable}
use Rattle.rv_run.proofs.environment.Environment.write.Goals as goal

pub copied-requires : goal.copied-requires
copied-requires c = fewer-readable c.self.inside.space c.args.at c.args.count c.min-taken.result (omega (arith, c.min-taken.ensures)) (sym c.are_readable.ensures ∙ c.if-not-are_readable.false)
