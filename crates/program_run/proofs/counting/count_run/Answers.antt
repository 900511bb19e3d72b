use Rattle.std.proofs.Common.{◌<◌, ℕ, All, subst, sym}
use Rattle.cfi_table.specs.Frames.{descriptions}
use Rattle.rv_run.specs.Run.{Instant}
use Rattle.rv_run.specs.Progress.{Progress, to_come}
use Rattle.cfi_unwind.specs.Caller.{Unwinding}
use Rattle.cfi_unwind.specs.Path.{unwinding_of, path_of as unwound_by}
use Rattle.program_run.specs.Measured.{measured_run}
use Rattle.program_run.specs.Counting.{Counts}
use Rattle.program_run.proofs.counting.count_run.Goals as goal

pub returns : goal.returns
returns c =
    subst (λ (p : Progress). Counts c.args.events.now c.count_samples.result (measured_run (unwound_by (unwinding_of (descriptions c.args.table.now) c.args.image.now)) c.args.events.now c.args.schedule.harts (to_come p))) c.in_ok-samples.ensures.machine
    (subst (λ (n : ℕ). Counts c.args.events.now c.count_samples.result (measured_run (unwound_by (unwinding_of (descriptions c.args.table.now) c.args.image.now)) c.args.events.now n (to_come c.in_ok-samples.samples.machine))) c.harts-harts.ensures.harts
    (subst (λ (u : Unwinding). Counts c.args.events.now c.count_samples.result (measured_run (unwound_by u) c.args.events.now c.harts-harts.result (to_come c.in_ok-samples.samples.machine))) c.of-unwinder.ensures.unwinding
    c.count_samples.ensures))

pub count_samples-requires-clause-instants : goal.count_samples-requires-clause-instants
count_samples-requires-clause-instants c =
    subst (λ (n : ℕ). All (λ (i : Instant). i.moment.hart < n) (to_come c.in_ok-samples.samples.machine).instants) (sym c.harts-harts.ensures.harts) c.in_ok-samples.ensures.instants
