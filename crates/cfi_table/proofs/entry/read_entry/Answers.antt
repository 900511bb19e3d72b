use Rattle.std.proofs.Common.{◌≡◌, ◌==◌, rules, Err, sym, ◌∙◌}
use Rattle.cfi_table.specs.Entries.{body_of, read_entry}
use Rattle.cfi_table.specs.private.KnownCies.{IsKnown}
use Rattle.cfi_table.proofs.Chains.{number_read, number_fault}
use Rattle.cfi_table.proofs.Entries.{without_id, of_cie, of_no_cie, of_fde, copied_holds}
use Rattle.cfi_table.proofs.entry.read_entry.Goals as goal

pub returns-in_err-id-clause-entry : goal.returns-in_err-id-clause-entry
returns-in_err-id-clause-entry c extents own each =
    let is = number_fault c.body-reader.result (body_of c.args.section.now c.args.extent.now) c.u32.new.self c.u32.result c.in_err-id.field-0.0 c.body-reader.ensures c.u32.ensures c.in_err-id.was in
    let failed : read_entry c.args.section.now extents c.args.extent.now ≡ Err c.in_err-id.field-0.0 = without_id c.args.section.now extents c.args.extent.now c.in_err-id.field-0.0 is in
    search rules

pub returns-in-None-clause-entry : goal.returns-in-None-clause-entry
returns-in-None-clause-entry c extents own each =
    let is = number_read c.body-reader.result (body_of c.args.section.now c.args.extent.now) c.u32.new.self c.u32.result c.in_ok-id.id c.body-reader.ensures c.u32.ensures c.in_ok-id.was in
    of_no_cie c.args.section.now extents c.args.extent.now c.in_ok-id.id c.cie_offset.result c.u32.new.self c.args.cies.now c.cie_at.result is c.cie_offset.ensures own c.cie_at.ensures c.in-None.is each

pub returns-in_err-checked_cie-in-Some-clause-entry : goal.returns-in_err-checked_cie-in-Some-clause-entry
returns-in_err-checked_cie-in-Some-clause-entry c extents own each =
    let is = number_read c.body-reader.result (body_of c.args.section.now c.args.extent.now) c.u32.new.self c.u32.result c.in_ok-id.id c.body-reader.ensures c.u32.ensures c.in_ok-id.was in
    let kept = copied_holds (IsKnown c.args.section.now) (λ cie. cie.offset == c.cie_offset.result) c.args.cies.now c.cie_at.result c.in-Some.known c.cie_at.ensures c.in-Some.is c.requires.known in
    let failed : read_entry c.args.section.now extents c.args.extent.now ≡ Err c.in_err-checked_cie-in-Some.field-0.0 =
    of_cie c.args.section.now extents c.args.extent.now c.in_ok-id.id c.cie_offset.result c.u32.new.self c.args.cies.now c.cie_at.result c.in-Some.known is c.if-id.true c.cie_offset.ensures own c.cie_at.ensures c.in-Some.is each
    ∙ sym (c.checked_cie.ensures.entry c.args.section.now kept) ∙ c.in_err-checked_cie-in-Some.was in
    search rules

pub returns-in_ok-checked_cie-in-Some-clause-entry : goal.returns-in_ok-checked_cie-in-Some-clause-entry
returns-in_ok-checked_cie-in-Some-clause-entry c extents own each =
    let is = number_read c.body-reader.result (body_of c.args.section.now c.args.extent.now) c.u32.new.self c.u32.result c.in_ok-id.id c.body-reader.ensures c.u32.ensures c.in_ok-id.was in
    let kept = copied_holds (IsKnown c.args.section.now) (λ cie. cie.offset == c.cie_offset.result) c.args.cies.now c.cie_at.result c.in-Some.known c.cie_at.ensures c.in-Some.is c.requires.known in
    of_cie c.args.section.now extents c.args.extent.now c.in_ok-id.id c.cie_offset.result c.u32.new.self c.args.cies.now c.cie_at.result c.in-Some.known is c.if-id.true c.cie_offset.ensures own c.cie_at.ensures c.in-Some.is each
    ∙ sym (c.in_ok-checked_cie-in-Some.ensures.entry c.args.section.now kept)

pub read_fde-requires-clause-known : goal.read_fde-requires-clause-known
read_fde-requires-clause-known c = copied_holds (IsKnown c.args.section.now) (λ cie. cie.offset == c.cie_offset.result) c.args.cies.now c.cie_at.result c.in-Some.known c.cie_at.ensures c.in-Some.is c.requires.known

pub returns-in-Some-2-clause-entry : goal.returns-in-Some-2-clause-entry
returns-in-Some-2-clause-entry c extents own each =
    let is = number_read c.body-reader.result (body_of c.args.section.now c.args.extent.now) c.u32.new.self c.u32.result c.in_ok-id.id c.body-reader.ensures c.u32.ensures c.in_ok-id.was in
    rw (of_fde c.args.section.now extents c.args.extent.now c.in_ok-id.id c.cie_offset.result c.u32.new.self c.args.cies.now c.cie_at.result c.in-Some.known is c.if-id.false c.cie_offset.ensures c.cie_at.ensures c.in-Some.is each) c.read_fde.ensures.entry

pub returns-in_ok-checked_cie-in-Some-clause-within : goal.returns-in_ok-checked_cie-in-Some-clause-within
returns-in_ok-checked_cie-in-Some-clause-within c = c.in_ok-checked_cie-in-Some.ensures.placed c.args.section.now
