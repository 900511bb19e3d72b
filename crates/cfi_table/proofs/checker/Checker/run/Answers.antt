use Rattle.std.proofs.Common.{rules, refl, arith}
use Rattle.prof_bytes.specs.Outcome.{FailsBy}
use Rattle.cfi_table.specs.private.Checking.{execute_forms, never, run_forms}
use Rattle.cfi_table.proofs.Runs.{begins, turns, shortens, fails_by, ends_here}
use Rattle.cfi_table.proofs.checker.Checker.run.Goals as goal

pub loop-self-init : goal.loop-self-init
loop-self-init c = begins execute_forms never c.args.factors.now c.args.reader.now c.args.self.now

pub loop-self-smaller : goal.loop-self-smaller
loop-self-smaller c = shortens execute_forms c.args.factors.now c.loop-self.reader c.step.new.reader c.loop-self.self c.step.new.self (let lt = c.loop-self-test.true in omega arith) c.in_ok-step.ensures

pub loop-self-preserved : goal.loop-self-preserved
loop-self-preserved c =
    turns execute_forms never c.args.factors.now c.args.reader.now c.loop-self.reader c.step.new.reader c.args.self.now c.loop-self.self c.step.new.self (let lt = c.loop-self-test.true in omega arith)
    c.in_ok-step.ensures refl c.loop-self.invariant

pub returns-in_err-step : goal.returns-in_err-step
returns-in_err-step c =
    let failed : FailsBy c.in_err-step.field-0.0 (run_forms c.args.factors.now c.args.reader.now c.args.self.now) =
    fails_by execute_forms never c.args.factors.now c.args.reader.now c.loop-self.reader c.args.self.now c.loop-self.self c.in_err-step.field-0.0 (let lt = c.loop-self-test.true in omega arith) c.in_err-step.ensures c.loop-self.invariant in
    search rules

pub returns : goal.returns
returns c = ends_here execute_forms never c.args.factors.now c.args.reader.now c.loop-self.reader c.args.self.now c.loop-self.self (let none = c.loop-self-test.false in omega arith) c.loop-self.invariant
