use Rattle.std.proofs.Common.{◌≡◌, length, arith}
use Rattle.rv_run.specs.Schedule.{lines}
use Rattle.rv_run.proofs.Lining.{no-lines, line-first, line-rest, none-first, none-rest}
use Rattle.rv_run.proofs.lines.Lines.next_line.Goals as goal

pub returns-then-is_empty-clause-line : goal.returns-then-is_empty-clause-line
returns-then-is_empty-clause-line c =
    let empty : length c.self.inside.left.now ≡ 0 = grind (arith, c.is_empty.ensures, c.if-is_empty.true) in
    rw (← c.self.view_is) (none-first c.self.inside.done (lines c.self.inside.left.now) (no-lines c.self.inside.left.now empty))

pub returns-then-is_empty-clause-rest : goal.returns-then-is_empty-clause-rest
returns-then-is_empty-clause-rest c =
    let empty : length c.self.inside.left.now ≡ 0 = grind (arith, c.is_empty.ensures, c.if-is_empty.true) in
    rw (← c.self.view_is) (none-rest c.self.inside.done (lines c.self.inside.left.now) (no-lines c.self.inside.left.now empty))

pub returns-then-is_empty-clause-end : goal.returns-then-is_empty-clause-end
returns-then-is_empty-clause-end c _ =
    let empty : length c.self.inside.left.now ≡ 0 = grind (arith, c.is_empty.ensures, c.if-is_empty.true) in
    rw (← c.self.view_is) (no-lines c.self.inside.left.now empty)

pub returns-clause-line : goal.returns-clause-line
returns-clause-line c =
    rw (← c.self.view_is)
    (line-first c.self.inside.done (lines c.self.inside.left.now) c.split_line.result.0.now (lines c.split_line.result.1.now) c.split_line.ensures.lines)

pub returns-clause-rest : goal.returns-clause-rest
returns-clause-rest c =
    rw (← c.self.view_is)
    (line-rest c.self.inside.done (lines c.self.inside.left.now) c.split_line.result.0.now (lines c.split_line.result.1.now) c.split_line.ensures.lines)
