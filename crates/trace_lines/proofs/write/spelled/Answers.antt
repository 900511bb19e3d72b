use Rattle.std.proofs.Common.{rules, ◌≡◌}
use Rattle.trace_lines.specs.Spelling.{trace_spelling}
use Rattle.trace_lines.proofs.Lengths.{trace_short}
use Rattle.trace_lines.proofs.write.spelled.Goals as goal

pub returns-clause-short : goal.returns-clause-short
unfolding trace_spelling
returns-clause-short c =
    let is : c.from_vec.result ≡ trace_spelling c.args.trace.now = search rules in
    trace_short _ _ c.in_ok-put_head.ensures.trace is
