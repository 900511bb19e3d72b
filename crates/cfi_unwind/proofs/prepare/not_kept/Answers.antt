use Rattle.std.proofs.Common.{take, arith}
use Rattle.cfi_unwind.proofs.FewRules.{all_not_kept, keeps_next, takes_next}
use Rattle.cfi_unwind.proofs.prepare.not_kept.Goals as goal
use Rattle.cfi_unwind.proofs.prepare.not_kept.Goals.{then-not-is_kept, else-not-is_kept}

pub loop-register-preserved : goal.loop-register-preserved
loop-register-preserved c = elim c.if-not-is_kept.branch [
  | then-not-is_kept w ↦
      let before = c.loop-register.invariant in
      let next = takes_next c.args.rules.now c.loop-register.register c.from.result _ c.is_kept.result c.loop-register.count c.loop-register.registers c.loop-register-test.true c.told-rules before.all before.few c.from.ensures c.is_kept.ensures w.if-not-is_kept.true before.so_far in
      rw (w.registers-is, w.count-is) (record { all = next.all; few = next.less; so_far = next.so_far })
  | else-not-is_kept w ↦
      let before = c.loop-register.invariant in
      let next = keeps_next c.args.rules.now c.loop-register.register c.from.result _ c.is_kept.result c.loop-register.count c.loop-register.registers c.loop-register-test.true c.told-rules before.all before.few c.from.ensures c.is_kept.ensures w.if-not-is_kept.false before.so_far in
      rw (w.registers-is, w.count-is) (record { all = next.all; few = next.less; so_far = next.so_far })
]

pub returns-clause-recovers : goal.returns-clause-recovers
returns-clause-recovers c =
    let low = c.loop-register.auto.register-end in
    let high = c.loop-register-test.false in
    all_not_kept c.args.rules.now (take c.loop-register.count c.loop-register.registers) c.loop-register.register (omega arith) c.told-rules c.loop-register.invariant.so_far
