use Rattle.std.proofs.Common.{rules}
use Rattle.prof_bytes.specs.Outcome.{FailsBy}
use Rattle.cfi_table.specs.Entries.{after_cie, checked_fde}
use Rattle.cfi_table.specs.private.KnownCies.{forms_seen}
use Rattle.cfi_table.proofs.Entries.{fde_runs, fde_fails}
use Rattle.cfi_table.proofs.entry.checked_fde.Goals as goal

pub returns-in_err-run-clause-entry : goal.returns-in_err-run-clause-entry
returns-in_err-run-clause-entry c =
    let failed : FailsBy c.in_err-run.field-0.0 (checked_fde c.args.section.now c.args.fde (after_cie c.args.section.now c.args.fde.cie)) =
    fde_fails c.args.section.now c.args.fde (forms_seen c.in-Ok.forms) c.in_err-run.field-0.0 (after_cie c.args.section.now c.args.fde.cie) (rw c.in-Ok.is at c.requires.known)
    (rw (c.instructions-reader.ensures.reader, c.after-checker.ensures) at c.in_err-run.ensures) in
    search rules

pub returns-in_ok-run-clause-entry : goal.returns-in_ok-run-clause-entry
returns-in_ok-run-clause-entry c =
    fde_runs c.args.section.now c.args.fde (forms_seen c.in-Ok.forms) c.run.new.self (after_cie c.args.section.now c.args.fde.cie) (rw c.in-Ok.is at c.requires.known)
    (rw (c.instructions-reader.ensures.reader, c.after-checker.ensures) at c.in_ok-run.ensures)
