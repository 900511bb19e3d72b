use Rattle.std.proofs.Common.{◌∙◌, rules}
use Rattle.elf_image.proofs.Counted.{some_counts, none_counts}
use Rattle.dwarf_line.proofs.code.Segments.counts.Goals as goal

pub returns-then-low-high : goal.returns-then-low-high
returns-then-low-high c =
    c.is_code.ensures ∙ rw (← c.self.view_is) (some_counts c.args.low c.args.high c.self.inside.ranges c.in-Some.segment.now c.self.invariant c.in-Some.ensures c.if-low-high.true)

pub returns-in-None : goal.returns-in-None
returns-in-None c = none_counts c.args.low c.args.high c.args.self.now (search rules)
