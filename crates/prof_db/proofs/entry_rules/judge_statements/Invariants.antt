use Rattle.std.proofs.Common.{◌≡◌, ◌-◌, length}
use Rattle.prof_db.specs.Broken.{first_broken}
use Rattle.prof_db.specs.ValueRules.{statement_breaks, statements_kept}
use Rattle.prof_db.specs.NodeRules.{raw_node_at}
use Rattle.prof_db.proofs.entry_rules.judge_statements.Given as goal

abbrev pub invariant-loop-i : goal.invariant-loop-i
invariant-loop-i l = first_broken 6 (statement_breaks l.nodes l.numbers) (λ i. (raw_node_at l.raws i).offset) l.i (length l.nodes - l.i) ≡ statements_kept l.raws l.nodes l.numbers
