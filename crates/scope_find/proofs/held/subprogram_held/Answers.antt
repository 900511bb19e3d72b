use Rattle.scope_find.proofs.Procedures.{procedure_within, procedure_at}
use Rattle.scope_find.proofs.held.subprogram_held.Goals as goal

pub returns-clause-within : goal.returns-clause-within
returns-clause-within c = procedure_within c.args.structure.now c.args.held.now.keys c.requires c.first_held.result c.first_held.ensures

pub returns-clause-procedure : goal.returns-clause-procedure
returns-clause-procedure c = λ address o. procedure_at c.args.structure.now c.args.held.now.keys address o c.first_held.result c.first_held.ensures
