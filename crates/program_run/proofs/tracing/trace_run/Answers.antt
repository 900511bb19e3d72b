use Rattle.std.proofs.Common.{◌<◌, ◌∙◌, ℕ, All, ap, length, subst, sym}
use Rattle.cfi_table.specs.Frames.{descriptions}
use Rattle.rv_run.specs.Run.{Instant}
use Rattle.rv_run.specs.Progress.{Progress, to_come}
use Rattle.cfi_unwind.specs.Caller.{Unwinding}
use Rattle.cfi_unwind.specs.Path.{unwinding_of, path_of as unwound_by}
use Rattle.scope_types.specs.Events.{retired_every}
use Rattle.program_run.specs.Measured.{measured_run}
use Rattle.program_run.specs.private.Tracing.{TracesRun}
use Rattle.program_run.proofs.TracedRuns.{first_long}
use Rattle.program_run.proofs.tracing.trace_run.Goals as goal

pub returns : goal.returns
returns c =
    subst (λ (p : Progress). TracesRun c.args.image.now c.args.period c.traced.result (measured_run (unwound_by (unwinding_of (descriptions c.args.table.now) c.args.image.now)) (retired_every c.args.period) c.args.schedule.harts (to_come p))) c.in_ok-samples.ensures.machine
    (subst (λ (n : ℕ). TracesRun c.args.image.now c.args.period c.traced.result (measured_run (unwound_by (unwinding_of (descriptions c.args.table.now) c.args.image.now)) (retired_every c.args.period) n (to_come c.in_ok-samples.samples.machine))) c.harts-harts.ensures.harts
    (subst (λ (u : Unwinding). TracesRun c.args.image.now c.args.period c.traced.result (measured_run (unwound_by u) (retired_every c.args.period) c.harts-harts.result (to_come c.in_ok-samples.samples.machine))) c.of-unwinder.ensures.unwinding
    c.traced.ensures))

pub traced-requires-clause-instants : goal.traced-requires-clause-instants
traced-requires-clause-instants c =
    subst (λ (n : ℕ). All (λ (i : Instant). i.moment.hart < n) (to_come c.in_ok-samples.samples.machine).instants) (sym c.harts-harts.ensures.harts) c.in_ok-samples.ensures.instants

pub traced-requires-clause-at_start : goal.traced-requires-clause-at_start
traced-requires-clause-at_start c =
    c.harts-harts.ensures.harts ∙ sym (first_long c.args.image.now c.args.schedule.harts c.args.input.now) ∙ ap (λ (p : Progress). length p.state.harts) (sym c.in_ok-samples.ensures.machine)
