use Rattle.std.proofs.Common.{sym, ◌∙◌, arith}
use Rattle.cfi_unwind.proofs.Recovering.{goes_on, all_recovered}
use Rattle.cfi_unwind.proofs.caller.recovered_all.Goals as goal

pub loop-number-preserved : goal.loop-number-preserved
loop-number-preserved g c =
    goes_on (g.L.Look.words c.args.memory.now) c.args.registers.now c.args.cfa c.args.rules.now c.loop-number.number c.loop-number.values c.in_ok-values.field-0 _ c.loop-number-test.true c.told-rules
    (sym c.in_ok-values.was ∙ c.recovered.ensures) c.loop-number.invariant

pub returns : goal.returns
returns g c =
    all_recovered (g.L.Look.words c.args.memory.now) c.args.registers.now c.args.cfa c.args.rules.now c.loop-number.number c.loop-number.values
    (let low = c.loop-number.auto.number-end in let high = c.loop-number-test.false in omega arith) c.told-rules c.loop-number.invariant
