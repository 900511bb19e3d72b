use Rattle.std.proofs.Common.{◌+◌, sym, subst}
use Rattle.cfi_unwind.proofs.FewRules.{RecoveringEach, goes_on}
use Rattle.cfi_unwind.proofs.unwind_rule.recover_each.Goals as goal

pub loop-each-preserved : goal.loop-each-preserved
loop-each-preserved g c =
    subst (λ values. RecoveringEach (g.L.Look.words c.args.memory.now) c.args.registers.now c.args.cfa c.args.rules.now (c.loop-each.each-index + 1) values) (sym c.set_register.ensures)
    (goes_on (g.L.Look.words c.args.memory.now) c.args.registers.now c.args.cfa c.args.rules.now c.loop-each.each-index c.loop-each.registers c.value_of-own.result c.in-Some.value _ c.loop-each-test.true c.value_of-own.ensures c.in-Some.ensures c.loop-each.invariant)
