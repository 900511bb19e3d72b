use Rattle.view_tables.proofs.NodeLabels.{label_again}
use Rattle.view_tables.proofs.laws.labels_are_of_call_paths.Goals as goal

pub returns : goal.returns
returns c = label_again
