use Rattle.std.proofs.Common.{rules, arith}
use Rattle.prof_bytes.specs.Outcome.{FailsBy, viewed}
use Rattle.cfi_table.specs.private.Checking.{execute_forms}
use Rattle.eh_frame.specs.private.Checked.{listed_forms, written_after}
use Rattle.eh_frame.proofs.Listed.{begins, keeps_short, turns, shortens, fails_by, ends_here, put_short}
use Rattle.eh_frame.proofs.instructions.translate_instructions.Goals as goal

pub loop-checker-init : goal.loop-checker-init
loop-checker-init c = begins execute_forms c.args.addresses.now c.args.factors.now c.args.reader.now c.args.checker.now c.args.out.now.items

pub step-requires : goal.step-requires
step-requires c = keeps_short execute_forms c.args.addresses.now c.args.factors.now c.args.reader.now c.loop-checker.reader c.args.checker.now c.loop-checker.checker c.args.out.now.items c.loop-checker.out.items c.loop-checker.invariant c.requires

pub loop-checker-smaller : goal.loop-checker-smaller
loop-checker-smaller c = shortens execute_forms c.args.addresses.now c.args.factors.now c.loop-checker.reader c.step.new.reader c.in_ok-instruction.instruction c.loop-checker.checker c.step.new.checker (let lt = c.loop-checker-test.true in omega arith) c.in_ok-instruction.ensures

pub loop-checker-preserved : goal.loop-checker-preserved
loop-checker-preserved c =
    turns execute_forms c.args.addresses.now c.args.factors.now c.args.reader.now c.loop-checker.reader c.step.new.reader c.in_ok-instruction.instruction c.args.checker.now c.loop-checker.checker c.step.new.checker c.args.out.now.items c.loop-checker.out.items c.put_instruction.new.out.items
    (let lt = c.loop-checker-test.true in omega arith) c.in_ok-instruction.ensures c.in_ok-put_instruction.ensures c.loop-checker.invariant

pub returns-in_err-instruction-clause-gives : goal.returns-in_err-instruction-clause-gives
returns-in_err-instruction-clause-gives c =
    let failed : FailsBy c.in_err-instruction.field-0.0 (viewed (written_after c.args.out.now.items) (listed_forms c.args.addresses.now c.args.factors.now c.args.reader.now c.args.checker.now)) =
    fails_by execute_forms c.args.addresses.now c.args.factors.now c.args.reader.now c.loop-checker.reader c.args.checker.now c.loop-checker.checker c.args.out.now.items c.loop-checker.out.items c.in_err-instruction.field-0.0 (let lt = c.loop-checker-test.true in omega arith) c.in_err-instruction.ensures c.loop-checker.invariant in
    search rules

pub returns-clause-gives : goal.returns-clause-gives
returns-clause-gives c =
    ends_here execute_forms c.args.addresses.now c.args.factors.now c.args.reader.now c.loop-checker.reader c.args.checker.now c.loop-checker.checker c.args.out.now.items c.loop-checker.out.items (let none = c.loop-checker-test.false in omega arith) c.loop-checker.invariant

pub returns-clause-short : goal.returns-clause-short
returns-clause-short c =
    put_short execute_forms c.args.addresses.now c.args.factors.now c.args.reader.now c.args.checker.now c.loop-checker.checker c.args.out.now.items c.loop-checker.out.items
    (ends_here execute_forms c.args.addresses.now c.args.factors.now c.args.reader.now c.loop-checker.reader c.args.checker.now c.loop-checker.checker c.args.out.now.items c.loop-checker.out.items (let none = c.loop-checker-test.false in omega arith) c.loop-checker.invariant)
