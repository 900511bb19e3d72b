use Rattle.view_tables.proofs.RowSums.{add_up}
use Rattle.view_tables.proofs.ViewSums.{callers_add_up, flat_adds_up, paths_have_frames, row_adds_up}
use Rattle.view_tables.proofs.laws.exclusive_values_add_up.Goals as goal

pub returns-clause-under : goal.returns-clause-under
returns-clause-under c = add_up

pub returns-clause-callers : goal.returns-clause-callers
returns-clause-callers c = callers_add_up

pub returns-clause-row : goal.returns-clause-row
returns-clause-row c period naming paths chain short = row_adds_up naming period paths chain short

pub returns-clause-flat : goal.returns-clause-flat
returns-clause-flat c period naming paths level all short = flat_adds_up naming period paths level all short

pub returns-clause-paths : goal.returns-clause-paths
returns-clause-paths c = paths_have_frames
