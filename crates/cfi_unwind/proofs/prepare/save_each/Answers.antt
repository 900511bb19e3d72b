use Rattle.std.proofs.Common.{◌-◌, List, refl, sym, subst, ◌∙◌, arith}
use Rattle.cfi_table.specs.declared.rules.Rule.{Rule}
use Rattle.cfi_table.specs.Rules.{AreSameValue}
use Rattle.cfi_unwind.specs.private.UnwindRules.{AreSaved}
use Rattle.cfi_unwind.proofs.FewRules.{kept_rule, kept_on, saved_on, kept_up_to, all_saved}
use Rattle.cfi_unwind.proofs.prepare.save_each.Goals as goal
use Rattle.cfi_unwind.proofs.prepare.save_each.Goals.{in_default-rule+else-not-is_kept, in-Saved+else-not-push}

pub loop-register-preserved : goal.loop-register-preserved
loop-register-preserved c =
    let regs = c.regs-regs.result.now in
    let register = c.in-Some.register in
    let from = c.loop-register.from in
    let full = c.regs-regs.ensures.all in
    let low = c.in-Some.ensures.1 in
    let same = subst (λ (rs : List Rule). AreSameValue rs from register) (sym c.regs-regs.ensures.regs) c.in-Some.ensures.2 in
    let above = c.in-Some.ensures.0 in
    let before = kept_up_to regs from (register - from) register c.loop-register.saved (omega arith) (omega arith) full same c.loop-register.invariant.saved in
    elim c.match-rule.branch [
      | in_default-rule+else-not-is_kept w ↦ rw w.saved-is (record { low = omega arith; saved = kept_on regs register c.from.result _ _ c.loop-register.saved low full c.from.ensures refl (kept_rule _ (sym w.is_kept.ensures ∙ w.if-not-is_kept.false)) before })
      | in-Saved+else-not-push w ↦ rw w.saved-is (record { low = omega arith; saved = saved_on regs register c.from.result _ _ w.in-Saved.offset c.loop-register.saved w.push.new.self low full c.from.ensures refl w.in-Saved.is w.if-not-push.ensures before })
    ]

pub returns : goal.returns
returns c is =
    let regs = c.regs-regs.result.now in
    let from = c.loop-register.from in
    let full = c.regs-regs.ensures.all in
    let low = c.loop-register.invariant.low in
    let same = subst (λ (rs : List Rule). AreSameValue rs from 32) (sym c.regs-regs.ensures.regs) c.in_default.ensures in
    let done = kept_up_to regs from (32 - from) 32 c.loop-register.saved (omega arith) (omega arith) full same c.loop-register.invariant.saved in
    subst (λ (rs : List Rule). AreSaved c.loop-register.saved rs) c.regs-regs.ensures.regs (all_saved regs 32 c.loop-register.saved refl full done)
