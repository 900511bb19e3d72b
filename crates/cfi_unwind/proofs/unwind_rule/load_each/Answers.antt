use Rattle.std.proofs.Common.{map, ◌+◌, sym, subst}
use Rattle.cfi_unwind.specs.private.UnwindRules.{saved_rule}
use Rattle.cfi_unwind.proofs.FewRules.{RecoveringEach, loads_next, fails_loading, all_loaded}
use Rattle.cfi_unwind.proofs.unwind_rule.load_each.Goals as goal

pub loop-each-preserved : goal.loop-each-preserved
loop-each-preserved g c = record {
  slice = c.in-Some.ensures.slice;
  recovering =
      subst (λ values. RecoveringEach (g.L.Look.words c.args.memory.now) c.args.registers.now c.args.cfa (map saved_rule c.args.saved.now) (c.loop-each.each-index + 1) values) (sym c.set_register.ensures)
      (loads_next (g.L.Look.words c.args.memory.now) c.args.registers.now c.args.cfa c.args.saved.now c.loop-each.each-index c.loop-each.registers c.in-Some.value _ c.loop-each-test.true c.in-Some.ensures.word c.loop-each.invariant.recovering);
}

pub returns-in-None-clause-loaded : goal.returns-in-None-clause-loaded
returns-in-None-clause-loaded g c =
    fails_loading (g.L.Look.words c.args.memory.now) c.args.cfa c.args.saved.now c.loop-each.each-index _ c.loop-each-test.true c.in-None.ensures.word

pub returns-clause-loaded : goal.returns-clause-loaded
returns-clause-loaded g c =
    all_loaded (g.L.Look.words c.args.memory.now) c.args.registers.now c.args.cfa c.args.saved.now c.loop-each.each-index c.loop-each.registers c.loop-each-test.false c.loop-each.invariant.recovering
