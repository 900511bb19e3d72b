use Rattle.std.proofs.Common.{◌≡◌, ◌≢◌, ◌-◌, ◌<◌, suc, inl, inr, length, refl, sym, ap, subst, ◌∙◌, arith}
use Rattle.std.proofs.lemmas.Bool.Decides.{leb_tells}
use Rattle.rv_table.specs.declared.inst.Inst.{Inst}
use Rattle.rv_table.specs.declared.inst.Op.TheVariants as ops
use Rattle.rv_hart.specs.declared.execute.Continuation.TheVariants as continuation
use Rattle.rv_hart.specs.declared.outcome.Stepped.TheVariants as stepped
use Rattle.rv_hart.specs.declared.outcome.Cause.TheVariants as cause
use Rattle.rv_hart.specs.Running.{Ran}
use Rattle.rv_hart.specs.Events.{inst_event}
use Rattle.rv_hart.specs.Step.{State, step_of}
use Rattle.rv_hart.specs.private.Decoding.{IsWordAt, IsCode}
use Rattle.rv_hart.specs.private.Continuing.{Continues, step_ended}
use Rattle.rv_hart.specs.private.Counting.{HaltsAt}
use Rattle.rv_hart.specs.private.Indexing.{state_at}
use Rattle.rv_hart.proofs.Decoded.{words-at, word-here}
use Rattle.rv_hart.proofs.Fixed.{ran-fixed, code-kept}
use Rattle.rv_hart.proofs.Continuing.{ended-as, continues-as, other-than, stepped-as}
use Rattle.rv_hart.proofs.Spending.{spent-start, spent-next, spent-kept, same-spent, same-halts, not-illegal, halted}
use Rattle.rv_hart.proofs.Runs.{ran-start, ran-next}
use Rattle.rv_hart.proofs.Unchanged.{unchanged, unchanged-word, ends-again}
use Rattle.rv_hart.proofs.decoded_run.run_loop.Goals as goal

pub loop-left-init : goal.loop-left-init
loop-left-init g c = record {
  few = omega arith;
  ran = ran-start c.args.most (state_at c.args.base c.args.index.now c.args.hart.now c.args.memory.now);
  spent = λ _. spent-start (g.C.Counter.left c.args.counter.now) c.args.most (state_at c.args.base c.args.index.now c.args.hart.now c.args.memory.now);
  word = λ _. c.requires.first.0;
  some = λ _. c.requires.first.1;
}

pub carry_out-requires-clause-registers : goal.carry_out-requires-clause-registers
carry_out-requires-clause-registers g c =
    (word-here c.loop-left.memory c.args.base c.args.items.now c.loop-left.index c.word_at-inst.result.now (c.loop-left.invariant.word c.loop-left-test.true) c.word_at-inst.ensures).registers

pub loop-left-preserved : goal.loop-left-preserved
loop-left-preserved g c =
    let first : State = state_at c.args.base c.args.index.now c.args.hart.now c.args.memory.now in
    let s : State = state_at c.args.base c.loop-left.index c.loop-left.hart c.loop-left.memory in
    let t : State = state_at c.args.base c.carry_out.new.index c.carry_out.new.hart c.carry_out.new.memory in
    let inst : Inst = c.word_at-inst.result.now in
    let at : IsWordAt c.loop-left.memory c.args.base c.args.items.now c.loop-left.index inst =
    word-here c.loop-left.memory c.args.base c.args.items.now c.loop-left.index inst (c.loop-left.invariant.word c.loop-left-test.true) c.word_at-inst.ensures in
    let step : (t, stepped.Retired) ≡ step_of s =
    stepped-as s t inst (length c.args.items.now) c.loop-left.index c.carry_out.new.index c.in-Ok-Next.field-0 continuation.Next c.in-Ok-Next.field-0-is (λ e. absurd cc) c.in-Ok-Next.ensures.goes c.in-Ok-Next.ensures.ok at.word in
    let goes : Continues (length c.args.items.now) c.loop-left.index c.carry_out.new.index continuation.Next =
    continues-as (length c.args.items.now) c.loop-left.index c.carry_out.new.index c.in-Ok-Next.field-0 continuation.Next c.in-Ok-Next.field-0-is (λ e. absurd cc) c.in-Ok-Next.ensures.goes in
    let other : inst.op ≢ ops.Illegal = λ e. let clash : continuation.Next ≡ continuation.Illegal = sym c.in-Ok-Next.field-0-is ∙ c.in-Ok-Next.ensures.goes.0 e in absurd cc in
    let within : c.carry_out.new.index < length c.args.items.now = goes (at.followed other) in
    let ran : Ran (c.args.most - (c.loop-left.left - 1)) first t =
    ran-next c.args.most c.loop-left.left first s t stepped.Retired c.loop-left-test.true c.loop-left.invariant.few c.loop-left.invariant.ran step refl in
    record {
      few = omega (arith, c.loop-left.invariant.few);
      ran = ran;
      spent = λ is.
          spent-next g.C.Counter.counts (g.C.Counter.left c.args.counter.now) (g.C.Counter.left c.loop-left.counter) (g.C.Counter.left c.carry_out.new.counter) c.args.most c.loop-left.left (state_at c.args.base c.args.index.now c.args.hart.now c.args.memory.now)
          (state_at c.args.base c.loop-left.index c.loop-left.hart c.loop-left.memory) c.word_at-inst.result.now c.in-Ok-Next.field-0 c.loop-left-test.true c.loop-left.invariant.few c.loop-left.invariant.ran
          (c.loop-left.invariant.spent is) (at.word other) (ap step_ended c.in-Ok-Next.field-0-is) c.in-Ok-Next.ensures.counts is;
      word = λ more.
          let code : IsCode c.args.memory.now c.args.base c.args.items.now = c.requires.words (omega (arith, more, c.loop-left.invariant.few)) in
          (within, words-at c.carry_out.new.memory c.args.base c.args.items.now (code-kept c.args.memory.now c.carry_out.new.memory c.args.base c.args.items.now (ran-fixed _ first t ran) code) c.carry_out.new.index within);
      some = λ same. absurd (omega (arith, same, c.loop-left.invariant.few, c.loop-left-test.true));
    }

pub returns-in-Ok-Outside-clause-ran : goal.returns-in-Ok-Outside-clause-ran
returns-in-Ok-Outside-clause-ran g c =
    let s : State = state_at c.args.base c.loop-left.index c.loop-left.hart c.loop-left.memory in
    let t : State = state_at c.args.base c.carry_out.new.index c.carry_out.new.hart c.carry_out.new.memory in
    let inst : Inst = c.word_at-inst.result.now in
    let at : IsWordAt c.loop-left.memory c.args.base c.args.items.now c.loop-left.index inst =
    word-here c.loop-left.memory c.args.base c.args.items.now c.loop-left.index inst (c.loop-left.invariant.word c.loop-left-test.true) c.word_at-inst.ensures in
    let step : (t, stepped.Retired) ≡ step_of s =
    stepped-as s t inst (length c.args.items.now) c.loop-left.index c.carry_out.new.index c.in-Ok-Outside.field-0 continuation.Outside c.in-Ok-Outside.field-0-is (λ e. absurd cc) c.in-Ok-Outside.ensures.goes c.in-Ok-Outside.ensures.ok at.word in
    ran-next c.args.most c.loop-left.left (state_at c.args.base c.args.index.now c.args.hart.now c.args.memory.now) s t stepped.Retired c.loop-left-test.true c.loop-left.invariant.few c.loop-left.invariant.ran step refl

pub returns-in-Ok-Illegal-clause-ran : goal.returns-in-Ok-Illegal-clause-ran
returns-in-Ok-Illegal-clause-ran g c =
    let s : State = state_at c.args.base c.loop-left.index c.loop-left.hart c.loop-left.memory in
    let t : State = state_at c.args.base c.carry_out.new.index c.carry_out.new.hart c.carry_out.new.memory in
    subst (Ran (c.args.most - c.loop-left.left) (state_at c.args.base c.args.index.now c.args.hart.now c.args.memory.now))
    (sym (unchanged-word c.word_at-inst.result.now s t cause.Illegal (ended-as c.in-Ok-Illegal.field-0-is c.in-Ok-Illegal.ensures.ok)))
    c.loop-left.invariant.ran

pub returns-in-Ok-Illegal-clause-some : goal.returns-in-Ok-Illegal-clause-some
returns-in-Ok-Illegal-clause-some g c _ =
    elim (leb_tells (suc c.loop-left.left) c.args.most) [
      | inl less ↦ less.1
      | inr most ↦
          let m = most.1 in
          let inst : Inst = c.word_at-inst.result.now in
          let other : inst.op ≢ ops.Illegal = subst (λ (i : Inst). i.op ≢ ops.Illegal) (sym (c.word_at-inst.ensures inst)) (c.loop-left.invariant.some (omega (arith, m, c.loop-left.invariant.few)) inst) in
          absurd (subst (Continues (length c.args.items.now) c.loop-left.index c.carry_out.new.index) c.in-Ok-Illegal.field-0-is (c.in-Ok-Illegal.ensures.goes.1 other))
    ]

pub returns-in-Ok-Stopped-clause-ran : goal.returns-in-Ok-Stopped-clause-ran
returns-in-Ok-Stopped-clause-ran g c =
    let s : State = state_at c.args.base c.loop-left.index c.loop-left.hart c.loop-left.memory in
    let t : State = state_at c.args.base c.carry_out.new.index c.carry_out.new.hart c.carry_out.new.memory in
    let inst : Inst = c.word_at-inst.result.now in
    let at : IsWordAt c.loop-left.memory c.args.base c.args.items.now c.loop-left.index inst =
    word-here c.loop-left.memory c.args.base c.args.items.now c.loop-left.index inst (c.loop-left.invariant.word c.loop-left-test.true) c.word_at-inst.ensures in
    let step : (t, c.in-Ok-Stopped.how) ≡ step_of s =
    stepped-as s t inst (length c.args.items.now) c.loop-left.index c.carry_out.new.index c.in-Ok-Stopped.field-0 (continuation.Stopped c.in-Ok-Stopped.how) c.in-Ok-Stopped.field-0-is (λ e. absurd cc) c.in-Ok-Stopped.ensures.goes c.in-Ok-Stopped.ensures.ok at.word in
    let goes : Continues (length c.args.items.now) c.loop-left.index c.carry_out.new.index (continuation.Stopped c.in-Ok-Stopped.how) =
    continues-as (length c.args.items.now) c.loop-left.index c.carry_out.new.index c.in-Ok-Stopped.field-0 (continuation.Stopped c.in-Ok-Stopped.how) c.in-Ok-Stopped.field-0-is (λ e. absurd cc) c.in-Ok-Stopped.ensures.goes in
    subst (Ran (c.args.most - c.loop-left.left) (state_at c.args.base c.args.index.now c.args.hart.now c.args.memory.now))
    (sym (unchanged s t c.in-Ok-Stopped.how step goes.0))
    c.loop-left.invariant.ran

pub returns-in-Ok-Stopped-clause-ends : goal.returns-in-Ok-Stopped-clause-ends
returns-in-Ok-Stopped-clause-ends g c differs =
    let s : State = state_at c.args.base c.loop-left.index c.loop-left.hart c.loop-left.memory in
    let t : State = state_at c.args.base c.carry_out.new.index c.carry_out.new.hart c.carry_out.new.memory in
    let inst : Inst = c.word_at-inst.result.now in
    let at : IsWordAt c.loop-left.memory c.args.base c.args.items.now c.loop-left.index inst =
    word-here c.loop-left.memory c.args.base c.args.items.now c.loop-left.index inst (c.loop-left.invariant.word c.loop-left-test.true) c.word_at-inst.ensures in
    let step : (t, c.in-Ok-Stopped.how) ≡ step_of s =
    stepped-as s t inst (length c.args.items.now) c.loop-left.index c.carry_out.new.index c.in-Ok-Stopped.field-0 (continuation.Stopped c.in-Ok-Stopped.how) c.in-Ok-Stopped.field-0-is (λ e. absurd cc) c.in-Ok-Stopped.ensures.goes c.in-Ok-Stopped.ensures.ok at.word in
    ends-again s t c.in-Ok-Stopped.how step differs

pub returns-in-Ok-Stopped-clause-some : goal.returns-in-Ok-Stopped-clause-some
returns-in-Ok-Stopped-clause-some g c retired =
    let goes : Continues (length c.args.items.now) c.loop-left.index c.carry_out.new.index (continuation.Stopped c.in-Ok-Stopped.how) =
    continues-as (length c.args.items.now) c.loop-left.index c.carry_out.new.index c.in-Ok-Stopped.field-0 (continuation.Stopped c.in-Ok-Stopped.how) c.in-Ok-Stopped.field-0-is (λ e. absurd cc) c.in-Ok-Stopped.ensures.goes in
    absurd (goes.0 (let same : c.in-Ok-Stopped.how ≡ stepped.Retired = cc in same))

pub returns-in-Ok-Outside-clause-spent : goal.returns-in-Ok-Outside-clause-spent
returns-in-Ok-Outside-clause-spent g c is =
    let at : IsWordAt c.loop-left.memory c.args.base c.args.items.now c.loop-left.index c.word_at-inst.result.now =
    word-here c.loop-left.memory c.args.base c.args.items.now c.loop-left.index c.word_at-inst.result.now (c.loop-left.invariant.word c.loop-left-test.true) c.word_at-inst.ensures in
    let other : c.word_at-inst.result.now.op ≢ ops.Illegal =
    other-than (length c.args.items.now) c.loop-left.index c.carry_out.new.index c.in-Ok-Outside.field-0 continuation.Outside c.in-Ok-Outside.field-0-is (λ e. absurd cc) c.in-Ok-Outside.ensures.goes in
    spent-next g.C.Counter.counts (g.C.Counter.left c.args.counter.now) (g.C.Counter.left c.loop-left.counter) (g.C.Counter.left c.carry_out.new.counter) c.args.most c.loop-left.left (state_at c.args.base c.args.index.now c.args.hart.now c.args.memory.now)
    (state_at c.args.base c.loop-left.index c.loop-left.hart c.loop-left.memory) c.word_at-inst.result.now c.in-Ok-Outside.field-0 c.loop-left-test.true c.loop-left.invariant.few c.loop-left.invariant.ran
    (c.loop-left.invariant.spent is) (at.word other) (ap step_ended c.in-Ok-Outside.field-0-is) c.in-Ok-Outside.ensures.counts is

pub returns-in-Ok-Illegal-clause-spent : goal.returns-in-Ok-Illegal-clause-spent
returns-in-Ok-Illegal-clause-spent g c is =
    let s : State = state_at c.args.base c.loop-left.index c.loop-left.hart c.loop-left.memory in
    spent-kept g.C.Counter.counts (g.C.Counter.left c.args.counter.now) (g.C.Counter.left c.loop-left.counter) (g.C.Counter.left c.carry_out.new.counter) (c.args.most - c.loop-left.left) (state_at c.args.base c.args.index.now c.args.hart.now c.args.memory.now)
    (inst_event c.word_at-inst.result.now s) (step_ended c.in-Ok-Illegal.field-0) (λ e. let clash : stepped.Trap cause.Illegal ≡ stepped.Retired = sym (ap step_ended c.in-Ok-Illegal.field-0-is) ∙ e in absurd cc)
    (c.loop-left.invariant.spent is) c.in-Ok-Illegal.ensures.counts is

pub returns-in-Ok-Stopped-clause-spent : goal.returns-in-Ok-Stopped-clause-spent
returns-in-Ok-Stopped-clause-spent g c is =
    let s : State = state_at c.args.base c.loop-left.index c.loop-left.hart c.loop-left.memory in
    let goes : Continues (length c.args.items.now) c.loop-left.index c.carry_out.new.index (continuation.Stopped c.in-Ok-Stopped.how) =
    continues-as (length c.args.items.now) c.loop-left.index c.carry_out.new.index c.in-Ok-Stopped.field-0 (continuation.Stopped c.in-Ok-Stopped.how) c.in-Ok-Stopped.field-0-is (λ e. absurd cc) c.in-Ok-Stopped.ensures.goes in
    spent-kept g.C.Counter.counts (g.C.Counter.left c.args.counter.now) (g.C.Counter.left c.loop-left.counter) (g.C.Counter.left c.carry_out.new.counter) (c.args.most - c.loop-left.left) (state_at c.args.base c.args.index.now c.args.hart.now c.args.memory.now)
    (inst_event c.word_at-inst.result.now s) (step_ended c.in-Ok-Stopped.field-0) (λ e. goes.0 (sym (ap step_ended c.in-Ok-Stopped.field-0-is) ∙ e))
    (c.loop-left.invariant.spent is) c.in-Ok-Stopped.ensures.counts is

pub returns-in-Err-clause-spent : goal.returns-in-Err-clause-spent
returns-in-Err-clause-spent g c is =
    same-spent g.C.Counter.left (g.C.Counter.left c.args.counter.now) c.loop-left.counter c.carry_out.new.counter (c.args.most - c.loop-left.left) (state_at c.args.base c.args.index.now c.args.hart.now c.args.memory.now)
    c.in-Err.ensures.unspent (c.loop-left.invariant.spent is)

pub returns-in-Err-clause-why : goal.returns-in-Err-clause-why
returns-in-Err-clause-why g c =
    let s : State = state_at c.args.base c.loop-left.index c.loop-left.hart c.loop-left.memory in
    let at : IsWordAt c.loop-left.memory c.args.base c.args.items.now c.loop-left.index c.word_at-inst.result.now =
    word-here c.loop-left.memory c.args.base c.args.items.now c.loop-left.index c.word_at-inst.result.now (c.loop-left.invariant.word c.loop-left-test.true) c.word_at-inst.ensures in
    let other : c.word_at-inst.result.now.op ≢ ops.Illegal = not-illegal c.in-Err.halt (g.C.Counter.left c.loop-left.counter) c.word_at-inst.result.now s c.in-Err.ensures.why in
    let here : HaltsAt c.in-Err.halt (g.C.Counter.left c.loop-left.counter) s = halted c.in-Err.halt (g.C.Counter.left c.loop-left.counter) c.word_at-inst.result.now s (at.word other) c.in-Err.ensures.why in
    same-halts g.C.Counter.left c.loop-left.counter c.carry_out.new.counter c.in-Err.halt s (state_at c.args.base c.carry_out.new.index c.carry_out.new.hart c.carry_out.new.memory) c.in-Err.ensures.unspent c.in-Err.ensures.err here
