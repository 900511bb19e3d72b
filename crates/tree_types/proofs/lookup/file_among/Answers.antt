use Rattle.std.proofs.Common.{rules, Ok, Err, ℕ, sym}
use Rattle.std.proofs.lemmas.List.Sorted.{answers_always}
use Rattle.tree_types.specs.declared.content.FileName.{FileName}
use Rattle.tree_types.proofs.NamePlaces.{found_file}
use Rattle.tree_types.proofs.lookup.file_among.Goals as goal

pub returns-in-Ok-clause-index : goal.returns-in-Ok-clause-index
returns-in-Ok-clause-index c =
    let key : FileName → ℕ × ℕ = λ f. (f.table, f.file) in
    sym (found_file c.args.files.now c.args.file (Ok c.in-Ok.index) c.requires c.in-Ok.ensures.bound (c.in-Ok.ensures.position key (answers_always _ _ _ (λ f a r g called. search rules))))

pub returns-in-Err-clause-index : goal.returns-in-Err-clause-index
returns-in-Err-clause-index c =
    let key : FileName → ℕ × ℕ = λ f. (f.table, f.file) in
    sym (found_file c.args.files.now c.args.file (Err c.in-Err.field-0) c.requires c.in-Err.ensures.bound (c.in-Err.ensures.position key (answers_always _ _ _ (λ f a r g called. search rules))))
