use Rattle.std.proofs.Common.{rules, Some, sym, ◌∙◌, arith}
use Rattle.prof_bytes.specs.Outcome.{FailsBy}
use Rattle.cfi_table.specs.Rules.{execute, is_past, run_all}
use Rattle.cfi_table.proofs.Runs.{keeps_short, shortens, stops_here, fails_by, ends_here}
use Rattle.cfi_table.proofs.Resuming.{starts, goes_on, short_next, later_at_stop, later_at_end, later_fails}
use Rattle.cfi_table.proofs.interpreter.Interpreter.run.Goals as goal

pub loop-limit-init : goal.loop-limit-init
loop-limit-init c = starts c.args.limit c.args.initial.now c.args.factors.now c.args.reader.now c.args.self.now

pub step-requires : goal.step-requires
step-requires c = keeps_short (execute c.args.initial.now) (is_past c.args.limit) c.args.factors.now c.args.reader.now c.loop-limit.reader c.args.self.now c.loop-limit.self c.loop-limit.invariant.now c.requires

pub loop-limit-smaller : goal.loop-limit-smaller
loop-limit-smaller c = shortens (execute c.args.initial.now) c.args.factors.now c.loop-limit.reader c.step.new.reader c.loop-limit.self c.step.new.self (let lt = c.loop-limit-test.true in omega arith) c.in_ok-step.ensures

pub loop-limit-preserved : goal.loop-limit-preserved
loop-limit-preserved c =
    goes_on c.args.limit c.args.initial.now c.args.factors.now c.args.reader.now c.loop-limit.reader c.step.new.reader c.args.self.now c.loop-limit.self c.step.new.self (let lt = c.loop-limit-test.true in omega arith)
    c.in_ok-step.ensures (sym c.is_past.ensures ∙ c.if-is_past.false) c.loop-limit.invariant

pub returns-in_err-step-clause-state : goal.returns-in_err-step-clause-state
returns-in_err-step-clause-state c =
    let failed : FailsBy c.in_err-step.field-0.0 (run_all c.args.limit c.args.initial.now c.args.factors.now c.args.reader.now c.args.self.now) =
    fails_by (execute c.args.initial.now) (is_past c.args.limit) c.args.factors.now c.args.reader.now c.loop-limit.reader c.args.self.now c.loop-limit.self c.in_err-step.field-0.0 (let lt = c.loop-limit-test.true in omega arith) c.in_err-step.ensures c.loop-limit.invariant.now in
    search rules

pub returns-in_err-step-clause-later : goal.returns-in_err-step-clause-later
returns-in_err-step-clause-later c address later at le =
    let failed : FailsBy c.in_err-step.field-0.0 (run_all (Some later) c.args.initial.now c.args.factors.now c.args.reader.now c.args.self.now) =
    later_fails c.args.limit c.args.initial.now c.args.factors.now c.args.reader.now c.loop-limit.reader c.args.self.now c.loop-limit.self c.in_err-step.field-0.0 (let lt = c.loop-limit-test.true in omega arith) c.in_err-step.ensures c.loop-limit.invariant address later at le in
    search rules

pub returns-then-is_past-clause-state : goal.returns-then-is_past-clause-state
returns-then-is_past-clause-state c =
    stops_here (execute c.args.initial.now) (is_past c.args.limit) c.args.factors.now c.args.reader.now c.loop-limit.reader c.step.new.reader c.args.self.now c.loop-limit.self c.step.new.self (let lt = c.loop-limit-test.true in omega arith)
    c.in_ok-step.ensures (sym c.is_past.ensures ∙ c.if-is_past.true) c.loop-limit.invariant.now

pub returns-then-is_past-clause-short : goal.returns-then-is_past-clause-short
returns-then-is_past-clause-short c =
    short_next c.args.limit c.args.initial.now c.args.factors.now c.args.reader.now c.loop-limit.reader c.step.new.reader c.args.self.now c.loop-limit.self c.step.new.self c.in_ok-step.ensures c.requires c.loop-limit.invariant

pub returns-then-is_past-clause-later : goal.returns-then-is_past-clause-later
returns-then-is_past-clause-later c address later at le =
    later_at_stop c.args.limit c.args.initial.now c.args.factors.now c.args.reader.now c.loop-limit.reader c.step.new.reader c.args.self.now c.loop-limit.self c.step.new.self (let lt = c.loop-limit-test.true in omega arith) c.in_ok-step.ensures c.loop-limit.invariant address later at le

pub returns-clause-state : goal.returns-clause-state
returns-clause-state c = ends_here (execute c.args.initial.now) (is_past c.args.limit) c.args.factors.now c.args.reader.now c.loop-limit.reader c.args.self.now c.loop-limit.self (let none = c.loop-limit-test.false in omega arith) c.loop-limit.invariant.now

pub returns-clause-later : goal.returns-clause-later
returns-clause-later c address later at le =
    later_at_end c.args.limit c.args.initial.now c.args.factors.now c.args.reader.now c.loop-limit.reader c.args.self.now c.loop-limit.self (let none = c.loop-limit-test.false in omega arith) c.loop-limit.invariant address later at le
