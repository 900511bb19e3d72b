use Rattle.std.proofs.Common.{rules, Some, Ok, Err, sym, ap, ◌∙◌}
use Rattle.std.proofs.lemmas.List.Sorted.{answers_always}
use Rattle.cfi_table.proofs.Rising.{searched}
use Rattle.eh_frame.proofs.known_eh_cie.cie_at.Goals as goal

pub returns-in-Ok : goal.returns-in-Ok
returns-in-Ok c =
    let by_offset = c.in-Ok.ensures.position (λ cie. cie.offset) (answers_always _ _ _ (λ f a r g called. search rules)) in
    let found = searched (λ cie. cie.offset) c.args.cies.now c.args.offset (Ok c.in-Ok.index) c.requires c.in-Ok.ensures.bound by_offset in
    sym (found c.index-cies-index.result ∙ ap (λ cie. Some cie) (sym c.index-cies-index.is))

pub returns-in-Err : goal.returns-in-Err
returns-in-Err c =
    let by_offset = c.in-Err.ensures.position (λ cie. cie.offset) (answers_always _ _ _ (λ f a r g called. search rules)) in
    sym (searched (λ cie. cie.offset) c.args.cies.now c.args.offset (Err c.in-Err.field-0) c.requires c.in-Err.ensures.bound by_offset)
