use Rattle.std.proofs.Common.{rules, sym, subst, ◌∙◌}
use Rattle.std.specs.Prelude.{Result}
use Rattle.prof_bytes.specs.Outcome.{FailsBy}
use Rattle.cfi_table.specs.declared.fault.FrameFault.{FrameFault}
use Rattle.cfi_table.specs.Entries.{after_cie}
use Rattle.cfi_table.specs.private.Checking.{CfaForms, forms_after}
use Rattle.cfi_table.proofs.Entries.{cie_forms}
use Rattle.cfi_table.proofs.known_cie.run_cie.Goals as goal

pub returns-in_err-run : goal.returns-in_err-run
returns-in_err-run c =
    let P : Result CfaForms FrameFault → Type 0 = λ r. FailsBy c.in_err-run.field-0.0 r in
    let failed : FailsBy c.in_err-run.field-0.0 (forms_after (after_cie c.args.section.now c.args.cie.now)) =
    subst P (sym (cie_forms c.args.section.now c.args.cie.now)) (rw (c.instructions-reader.ensures.reader, c.new-checker.ensures) at c.in_err-run.ensures) in
    search rules

pub returns : goal.returns
returns c = cie_forms c.args.section.now c.args.cie.now ∙ (rw (c.instructions-reader.ensures.reader, c.new-checker.ensures) at c.in_ok-run.ensures)
