use Rattle.std.proofs.Common.{sym, ap, ◌∙◌}
use Rattle.rv_run.specs.Progress.{Progress, first_due, first_upcoming, to_come}
use Rattle.rv_run.proofs.CountedPassing.{due-upcoming}
use Rattle.rv_run.proofs.machine.Machine.due.Goals as goal

pub returns-clause-due : goal.returns-clause-due
returns-clause-due c =
    due-upcoming c.self.inside.environment c.self.inside.queue c.in-Some.upcoming c.next_event.result c.self.invariant.next
    (sym c.in-Some.is ∙ c.upcoming.ensures.upcoming ∙ ap (λ (p : Progress). first_upcoming (to_come p).instants) (sym c.self.view_is)) c.next_event.ensures
    ∙ ap (λ (p : Progress). first_due (to_come p).instants) c.self.view_is
