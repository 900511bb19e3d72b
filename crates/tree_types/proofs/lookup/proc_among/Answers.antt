use Rattle.std.proofs.Common.{rules, Ok, Err, sym}
use Rattle.std.proofs.lemmas.List.Sorted.{answers_always}
use Rattle.scope_types.specs.declared.scope.ProcId.{ProcId}
use Rattle.tree_types.specs.declared.content.ProcName.{ProcName}
use Rattle.tree_types.proofs.NamePlaces.{found_proc}
use Rattle.tree_types.proofs.lookup.proc_among.Goals as goal

pub returns-in-Ok-clause-index : goal.returns-in-Ok-clause-index
returns-in-Ok-clause-index c =
    let key : ProcName → ProcId = λ p. p.id in
    sym (found_proc c.args.procs.now c.args.id (Ok c.in-Ok.index) c.requires c.in-Ok.ensures.bound (c.in-Ok.ensures.position key (answers_always _ _ _ (λ f a r g called. search rules))))

pub returns-in-Err-clause-index : goal.returns-in-Err-clause-index
returns-in-Err-clause-index c =
    let key : ProcName → ProcId = λ p. p.id in
    sym (found_proc c.args.procs.now c.args.id (Err c.in-Err.field-0) c.requires c.in-Err.ensures.bound (c.in-Err.ensures.position key (answers_always _ _ _ (λ f a r g called. search rules))))
