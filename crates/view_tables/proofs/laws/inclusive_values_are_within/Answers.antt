use Rattle.view_tables.proofs.RowSums.{exclusive_within, inclusive_most, inclusive_within}
use Rattle.view_tables.proofs.laws.inclusive_values_are_within.Goals as goal

pub returns-clause-exclusive : goal.returns-clause-exclusive
returns-clause-exclusive c = exclusive_within

pub returns-clause-chain : goal.returns-clause-chain
returns-clause-chain c = inclusive_within

pub returns-clause-total : goal.returns-clause-total
returns-clause-total c = inclusive_most
