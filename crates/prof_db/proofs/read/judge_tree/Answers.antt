use Rattle.prof_db.proofs.Preorder.{preorder_of_copy}
use Rattle.prof_db.proofs.read.judge_tree.Goals as goal

pub judge_values-requires-clause-preorder : goal.judge_values-requires-clause-preorder
judge_values-requires-clause-preorder c = preorder_of_copy _ _ _ _ _ c.as_slice.ensures.value c.requires.few c.in_ok-judge_nodes.ensures
