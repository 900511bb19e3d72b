use Rattle.std.proofs.Common.{◌+◌, ℕ, Some, sym, ap, ap₂, ◌∙◌}
use Rattle.rv_run.specs.State.{HartState}
use Rattle.rv_run.specs.Run.{Run}
use Rattle.rv_run.specs.Progress.{Progress, first_upcoming, to_come}
use Rattle.rv_run.proofs.Slices.{upcoming-first, ended}
use Rattle.rv_run.proofs.machine.Machine.upcoming.Goals as goal

pub returns-in_default-clause-upcoming : goal.returns-in_default-clause-upcoming
returns-in_default-clause-upcoming c =
    rw (← c.self.view_is) (sym (ap (λ (r : Run). first_upcoming r.instants) (ended c.self.inside.environment c.self.inside.queue (sym c.first.ensures ∙ c.in_default.is))))

pub returns-in_default-clause-end : goal.returns-in_default-clause-end
returns-in_default-clause-end c _ = rw (← c.self.view_is) (ended c.self.inside.environment c.self.inside.queue (sym c.first.ensures ∙ c.in_default.is))

pub returns-clause-upcoming : goal.returns-clause-upcoming
returns-clause-upcoming c =
    ap₂ (λ (pc ordinal : ℕ). Some (record { hart = c.in-Some.slice.hart; pc = pc; ordinal = ordinal })) (c.pc.ensures ∙ ap (λ (h : HartState). h.pc) c.core-core.ensures) (ap (λ (n : ℕ). n + 1) (c.retired.ensures ∙ ap (λ (h : HartState). h.retired) c.core-core.ensures))
    ∙ upcoming-first c.self.inside.environment c.self.inside.queue c.in-Some.slice c.self.invariant.next (sym c.first.ensures ∙ c.in-Some.is)
    ∙ ap (λ (p : Progress). first_upcoming (to_come p).instants) c.self.view_is
