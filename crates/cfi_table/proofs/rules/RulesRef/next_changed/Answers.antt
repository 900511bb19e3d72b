use Rattle.std.proofs.Common.{◌+◌, ◌<◌, ◌/◌, ◌^◌, subst, arith}
use Rattle.std.specs.Int.{w32, trailing_zeros}
use Rattle.cfi_table.specs.declared.rules.Rules.{Rules}
use Rattle.cfi_table.specs.Rules.{AreSameValue}
use Rattle.cfi_table.proofs.Changed.{no_more, next_low, before_next}
use Rattle.cfi_table.proofs.rules.RulesRef.next_changed.Goals as goal

pub returns-then-rest-eq0 : goal.returns-then-rest-eq0
returns-then-rest-eq0 c =
    subst (λ (r : Rules). AreSameValue r.regs c.args.from 32) c.self.view_is (no_more c.self.inside.changed c.self.inside.regs.now c.args.from c.if-rest-eq0.true c.self.invariant)

pub returns : goal.returns
returns c =
    let changed = c.self.inside.changed in
    let small : changed < 2 ^ 32 = omega arith in
    let some : 0 < changed / 2 ^ c.args.from = (let ne = c.if-rest-eq0.false in omega arith) in (
      (omega arith),
      next_low changed c.args.from small some,
      subst (λ (r : Rules). AreSameValue r.regs c.args.from (c.args.from + trailing_zeros w32 (changed / 2 ^ c.args.from))) c.self.view_is (before_next changed c.self.inside.regs.now c.args.from small some c.self.invariant),
    )
