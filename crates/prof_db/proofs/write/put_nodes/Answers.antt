use Rattle.std.proofs.lemmas.List.{get_or_default}
use Rattle.prof_db.specs.Spelling.{node_bytes}
use Rattle.prof_bytes.proofs.Appending.{append_more}
use Rattle.prof_db.proofs.write.put_nodes.Goals as goal

pub loop-n-preserved : goal.loop-n-preserved
loop-n-preserved c = append_more (node_bytes c.args.names.now) _ _ _ _ _ _ c.loop-n-test.true (get_or_default _ _ _ _ c.loop-n-test.true) c.loop-n.invariant c.in_ok-put_node.ensures
