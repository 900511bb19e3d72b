use Rattle.std.proofs.Common.{◌∙◌, arith}
use Rattle.elf_image.proofs.Counted.{some_counts, none_counts}
use Rattle.elf_image.proofs.segments.counts.Goals as goal

pub returns-then-from-high-clause-counts : goal.returns-then-from-high-clause-counts
returns-then-from-high-clause-counts c = c.is_code.ensures ∙ some_counts c.args.low c.args.high c.args.segments.now c.in-Some.segment c.requires c.in-Some.ensures (let lt = c.if-from-high.true in omega arith)

pub returns-in-None-clause-counts : goal.returns-in-None-clause-counts
returns-in-None-clause-counts c = none_counts c.args.low c.args.high c.args.segments.now c.in-None.ensures
