use Rattle.std.proofs.Common.{sym, ◌∙◌, rules}
use Rattle.dwarf_line.proofs.CodeAround.{code_around, data_around, nothing_around}
use Rattle.dwarf_line.proofs.code.Segments.code_around.Goals as goal

pub returns-then-is_executable : goal.returns-then-is_executable
returns-then-is_executable c = λ low high le lt.
    rw (← c.self.view_is) (code_around low c.args.address high c.self.inside.ranges c.in-Some.segment.now le lt c.self.invariant c.in-Some.ensures (sym c.is_executable.ensures ∙ c.if-is_executable.true))

pub returns-else-is_executable : goal.returns-else-is_executable
returns-else-is_executable c = λ low high le lt.
    rw (← c.self.view_is) (data_around low c.args.address high c.self.inside.ranges c.in-Some.segment.now le lt c.self.invariant c.in-Some.ensures (sym c.is_executable.ensures ∙ c.if-is_executable.false))

pub returns-in-None : goal.returns-in-None
returns-in-None c = λ low high le lt. nothing_around low c.args.address high c.args.self.now le lt (search rules) (search rules)
