use Rattle.std.proofs.Common.{rules, ◌++◌, ◌∙◌, List, Ok, Err}
use Rattle.std.specs.List.{flat_map}
use Rattle.prof_bytes.specs.Outcome.{FailsBy, viewed}
use Rattle.cfi_table.specs.declared.instruction.CallFrameInstruction.{CallFrameInstruction}
use Rattle.cfi_table.specs.Rules.{FrameState}
use Rattle.cfi_table.specs.private.Checking.{no_forms}
use Rattle.eh_frame.specs.Runs.{cie_instructions}
use Rattle.eh_frame.specs.Translation.{encoded}
use Rattle.eh_frame.proofs.Listed.{cie_gives, cie_ends}
use Rattle.eh_frame.proofs.entry.put_cie_instructions.Goals as goal

pub returns-in_err-translate_instructions-clause-put : goal.returns-in_err-translate_instructions-clause-put
returns-in_err-translate_instructions-clause-put c =
    let failed : FailsBy c.in_err-translate_instructions.field-0.0 (viewed (λ (r : List CallFrameInstruction × FrameState). c.args.out.now.items ++ flat_map encoded r.0) (cie_instructions c.args.section.now c.args.address c.args.cie.now)) =
    cie_gives c.args.section.now c.args.address c.args.cie.now c.args.out.now.items c.args.out.now.items no_forms (Err c.in_err-translate_instructions.field-0.0)
    (rw (c.addresses_of-addresses.ensures, c.instructions-reader.ensures.reader, c.new-checker.ensures) at c.in_err-translate_instructions.ensures.gives) in
    search rules

pub returns-clause-put : goal.returns-clause-put
returns-clause-put c =
    cie_gives c.args.section.now c.args.address c.args.cie.now c.args.out.now.items c.translate_instructions.new.out.items c.translate_instructions.new.checker (Ok tt)
    (rw (c.addresses_of-addresses.ensures, c.instructions-reader.ensures.reader, c.new-checker.ensures) at c.in_ok-translate_instructions.ensures.gives)

pub returns-clause-forms : goal.returns-clause-forms
returns-clause-forms c =
    let forms = cie_ends c.args.section.now c.args.address c.args.cie.now c.args.out.now.items (c.translate_instructions.new.out.items, c.translate_instructions.new.checker)
    (rw (c.addresses_of-addresses.ensures, c.instructions-reader.ensures.reader, c.new-checker.ensures) at c.in_ok-translate_instructions.ensures.gives) in
    (forms.0, forms.1, c.in_ok-forms.ensures ∙ forms.2)
