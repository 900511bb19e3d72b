use Rattle.std.proofs.Common.{arith}
use Rattle.dwarf_forms.proofs.Texts.{one_nearer, are_ended}
use Rattle.dwarf_forms.proofs.text.texts_end.Goals as goal

pub loop-end-init : goal.loop-end-init
loop-end-init c = record {
  within = omega arith;
  none = λ k le lt. absurd (omega arith);
}

pub returns-then-section-end-eq0 : goal.returns-then-section-end-eq0
returns-then-section-end-eq0 c =
    are_ended c.args.section.now c.loop-end.end c.loop-end.invariant.within c.loop-end.invariant.none (λ _. c.if-section-end-eq0.true)

pub loop-end-preserved : goal.loop-end-preserved
loop-end-preserved c =
    let within = c.loop-end.invariant.within in
    record {
      within = omega arith;
      none = one_nearer c.args.section.now c.loop-end.end c.loop-end-test.true c.if-section-end-eq0.false c.loop-end.invariant.none;
    }

pub returns : goal.returns
returns c =
    let past = c.loop-end-test.false in
    are_ended c.args.section.now 0 (omega arith) (λ k le lt. c.loop-end.invariant.none k (omega arith) lt) (λ lt. absurd (omega arith))
