use Rattle.std.proofs.Common.{◌≡◌, ℕ, Bool, false, IfOk, OnErr, sym, ap, subst, ◌∙◌}
use Rattle.rv_hart.specs.declared.outcome.Stepped.TheVariants as stepped
use Rattle.rv_run.specs.declared.hart.HartEnd.TheVariants as ends
use Rattle.rv_run.specs.State.{HartState, MachineState}
use Rattle.rv_run.specs.Calls.{Acted, ends_by}
use Rattle.rv_run.proofs.Counting.{acts-as, same-as}
use Rattle.rv_run.proofs.environment.Environment.act.Goals as goal

pub returns-in-Retired-clause-ok : goal.returns-in-Retired-clause-ok
returns-in-Retired-clause-ok c = acts-as c.args.hart c.args.self.now c.step.new.self stepped.Retired c.in_ok-step.ensures.ok (sym c.in-Retired.is ∙ c.in_ok-step.ensures.how)

pub returns-in-Ecall-clause-ok : goal.returns-in-Ecall-clause-ok
returns-in-Ecall-clause-ok c =
    subst (λ (a : Acted). IfOk c.call.result (λ (b : Bool). record { state = c.call.new.self; retired = b } ≡ a))
    (acts-as c.args.hart c.args.self.now c.step.new.self stepped.Ecall c.in_ok-step.ensures.ok (sym c.in-Ecall.is ∙ c.in_ok-step.ensures.how))
    c.call.ensures.ok

pub returns-in-Ecall-clause-err : goal.returns-in-Ecall-clause-err
returns-in-Ecall-clause-err c =
    subst (λ (s : MachineState). OnErr c.call.result (c.call.new.self ≡ s))
    (same-as c.args.hart c.args.self.now c.step.new.self stepped.Ecall c.in_ok-step.ensures.ok (sym c.in-Ecall.is ∙ c.in_ok-step.ensures.how) (λ e. absurd cc))
    c.call.ensures.err

pub returns-in-Break-clause-ok : goal.returns-in-Break-clause-ok
returns-in-Break-clause-ok c =
    ap (λ (s : MachineState). record { state = s; retired = false }) c.finish.ensures
    ∙ ap (λ (pc : ℕ). ends_by c.args.hart (ends.Break pc) c.step.new.self) (c.pc-pc.ensures ∙ ap (λ (h : HartState). h.pc) c.core.ensures)
    ∙ acts-as c.args.hart c.args.self.now c.step.new.self stepped.Break c.in_ok-step.ensures.ok (sym c.in-Break.is ∙ c.in_ok-step.ensures.how)

pub returns-in-Trap-clause-ok : goal.returns-in-Trap-clause-ok
returns-in-Trap-clause-ok c =
    ap (λ (s : MachineState). record { state = s; retired = false }) c.finish-in-Trap.ensures
    ∙ ap (λ (pc : ℕ). ends_by c.args.hart (ends.Trap c.in-Trap.cause pc) c.step.new.self) (c.pc-pc-in-Trap.ensures ∙ ap (λ (h : HartState). h.pc) c.core-in-Trap.ensures)
    ∙ acts-as c.args.hart c.args.self.now c.step.new.self (stepped.Trap c.in-Trap.cause) c.in_ok-step.ensures.ok (sym c.in-Trap.is ∙ c.in_ok-step.ensures.how)
