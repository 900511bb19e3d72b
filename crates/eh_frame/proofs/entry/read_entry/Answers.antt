use Rattle.std.proofs.Common.{◌≡◌, ◌==◌, ◌+◌, rules, Ok, Err, Some, None, cond, sym, ap, ◌∙◌, arith}
use Rattle.std.specs.Prelude.{Result, option_map}
use Rattle.prof_bytes.specs.Outcome.{FailsBy, viewed}
use Rattle.cfi_table.specs.declared.fault.FrameFault.{FrameFault}
use Rattle.cfi_table.specs.Entries.{body_of}
use Rattle.cfi_table.proofs.Chains.{number_read, number_fault}
use Rattle.cfi_table.proofs.Entries.{copied_holds}
use Rattle.eh_frame.specs.declared.entry.ReadEntry.{ReadEntry}
use Rattle.eh_frame.specs.Entries.{EhContent, is_eh_cie, entry_content}
use Rattle.eh_frame.specs.Translation.{entry_body}
use Rattle.eh_frame.specs.private.Checked.{known_eh, seen_eh_cie, IsKnownEh}
use Rattle.eh_frame.proofs.Entries.{without_id, of_cie_fault, of_cie, of_no_cie, of_fde, known_by, ok_more}
use Rattle.eh_frame.proofs.entry.read_entry.Goals as goal

pub returns-in_err-id-clause-content : goal.returns-in_err-id-clause-content
returns-in_err-id-clause-content c extents each =
    let is = number_fault c.body-reader.result (body_of c.args.section.now c.args.extent.now) c.u32.new.self c.u32.result c.in_err-id.field-0.0 c.body-reader.ensures c.u32.ensures c.in_err-id.was in
    let failed : viewed (entry_body c.args.base) (entry_content c.args.section.now c.args.address extents c.args.extent.now) ≡ Err c.in_err-id.field-0.0 =
    ap (λ (r : Result EhContent FrameFault). viewed (entry_body c.args.base) r) (without_id c.args.section.now c.args.address extents c.args.extent.now c.in_err-id.field-0.0 is) in
    search rules

pub returns-in_err-cie-clause-content : goal.returns-in_err-cie-clause-content
returns-in_err-cie-clause-content c extents each =
    let is = number_read c.body-reader.result (body_of c.args.section.now c.args.extent.now) c.u32.new.self c.u32.result c.in_ok-id.id c.body-reader.ensures c.u32.ensures c.in_ok-id.was in
    let failed : viewed (entry_body c.args.base) (entry_content c.args.section.now c.args.address extents c.args.extent.now) ≡ Err c.in_err-cie.field-0.0 =
    ap (λ (r : Result EhContent FrameFault). viewed (entry_body c.args.base) r)
    (of_cie_fault c.args.section.now c.args.address extents c.args.extent.now c.in_ok-id.id c.u32.new.self c.in_err-cie.field-0.0 is c.if-id-eq-EH_CIE_ID.true (sym c.cie_from.ensures.cie ∙ c.in_err-cie.was)) in
    search rules

pub returns-then-id-eq-EH_CIE_ID-clause-content : goal.returns-then-id-eq-EH_CIE_ID-clause-content
returns-then-id-eq-EH_CIE_ID-clause-content c extents each =
    let is = number_read c.body-reader.result (body_of c.args.section.now c.args.extent.now) c.u32.new.self c.u32.result c.in_ok-id.id c.body-reader.ensures c.u32.ensures c.in_ok-id.was in
    rw (of_cie c.args.section.now c.args.address extents c.args.extent.now c.in_ok-id.id c.u32.new.self c.in_ok-cie.cie is c.if-id-eq-EH_CIE_ID.true (sym c.cie_from.ensures.cie ∙ c.in_ok-cie.was)) (c.read_cie.ensures.content c.args.base)

pub returns-then-id-eq-EH_CIE_ID-clause-cie : goal.returns-then-id-eq-EH_CIE_ID-clause-cie
returns-then-id-eq-EH_CIE_ID-clause-cie c =
    let is = number_read c.body-reader.result (body_of c.args.section.now c.args.extent.now) c.u32.new.self c.u32.result c.in_ok-id.id c.body-reader.ensures c.u32.ensures c.in_ok-id.was in
    ok_more (λ (read : ReadEntry). option_map seen_eh_cie read.cie ≡ Some (record { offset = c.args.extent.now.offset; cie = Ok c.in_ok-cie.cie }))
    (λ (read : ReadEntry). option_map seen_eh_cie read.cie ≡ cond (is_eh_cie c.args.section.now c.args.extent.now) (Some (known_eh c.args.section.now c.args.extent.now)) None)
    c.read_cie.result
    (λ read made. known_by c.args.section.now c.args.extent.now c.in_ok-id.id c.u32.new.self c.in_ok-cie.cie read.cie is c.if-id-eq-EH_CIE_ID.true (sym c.cie_from.ensures.cie ∙ c.in_ok-cie.was) made)
    c.read_cie.ensures.cie

pub read_fde-requires-clause-known : goal.read_fde-requires-clause-known
read_fde-requires-clause-known c = copied_holds (IsKnownEh c.args.section.now c.args.address) (λ cie. cie.offset + c.in_ok-id.id == c.args.extent.now.offset + 4) c.args.cies.now c.cie_back.result c.in-Some.known c.cie_back.ensures c.in-Some.is c.requires.known

pub read_fde-requires-clause-offset : goal.read_fde-requires-clause-offset
read_fde-requires-clause-offset c =
    let is : IsKnownEh c.args.section.now c.args.address c.in-Some.known.now = copied_holds (IsKnownEh c.args.section.now c.args.address) (λ cie. cie.offset + c.in_ok-id.id == c.args.extent.now.offset + 4) c.args.cies.now c.cie_back.result c.in-Some.known c.cie_back.ensures c.in-Some.is c.requires.known in
    let within = is.within in
    let small = c.requires.small in
    omega arith

pub returns-in_err-body-in-Some-clause-content : goal.returns-in_err-body-in-Some-clause-content
returns-in_err-body-in-Some-clause-content c extents each =
    let is = number_read c.body-reader.result (body_of c.args.section.now c.args.extent.now) c.u32.new.self c.u32.result c.in_ok-id.id c.body-reader.ensures c.u32.ensures c.in_ok-id.was in
    let failed : FailsBy c.in_err-body-in-Some.field-0.0 (viewed (entry_body c.args.base) (entry_content c.args.section.now c.args.address extents c.args.extent.now)) =
    rw (of_fde c.args.section.now c.args.address extents c.args.extent.now c.in_ok-id.id c.u32.new.self c.args.cies.now c.cie_back.result c.in-Some.known is c.if-id-eq-EH_CIE_ID.false c.cie_back.ensures c.in-Some.is each) c.in_err-body-in-Some.ensures.content in
    search rules

pub returns-in_ok-body-in-Some-clause-content : goal.returns-in_ok-body-in-Some-clause-content
returns-in_ok-body-in-Some-clause-content c extents each =
    let is = number_read c.body-reader.result (body_of c.args.section.now c.args.extent.now) c.u32.new.self c.u32.result c.in_ok-id.id c.body-reader.ensures c.u32.ensures c.in_ok-id.was in
    rw (of_fde c.args.section.now c.args.address extents c.args.extent.now c.in_ok-id.id c.u32.new.self c.args.cies.now c.cie_back.result c.in-Some.known is c.if-id-eq-EH_CIE_ID.false c.cie_back.ensures c.in-Some.is each) c.in_ok-body-in-Some.ensures.content

pub returns-in-None-clause-content : goal.returns-in-None-clause-content
returns-in-None-clause-content c extents each =
    let is = number_read c.body-reader.result (body_of c.args.section.now c.args.extent.now) c.u32.new.self c.u32.result c.in_ok-id.id c.body-reader.ensures c.u32.ensures c.in_ok-id.was in
    ap (λ (r : Result EhContent FrameFault). viewed (entry_body c.args.base) r)
    (of_no_cie c.args.section.now c.args.address extents c.args.extent.now c.in_ok-id.id c.u32.new.self c.args.cies.now c.cie_back.result is c.if-id-eq-EH_CIE_ID.false c.cie_back.ensures c.in-None.is each)
