use Rattle.std.proofs.Common.{◌≡◌, ◌-◌, length}
use Rattle.prof_db.specs.Broken.{first_broken}
use Rattle.prof_db.specs.NodeRules.{node_breaks, nodes_kept, raw_node_at}
use Rattle.prof_db.proofs.node_rules.judge_nodes.Given as goal

abbrev pub invariant-loop-i : goal.invariant-loop-i
invariant-loop-i l = first_broken 5 (node_breaks l.procs l.files l.raws l.nodes) (λ i. (raw_node_at l.raws i).offset) l.i (length l.nodes - l.i) ≡ nodes_kept l.procs l.files l.raws l.nodes
