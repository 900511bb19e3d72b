use Rattle.std.proofs.Common.{◌<◌, ℕ, All, subst, sym}
use Rattle.cfi_table.specs.Frames.{descriptions}
use Rattle.rv_run.specs.Run.{Instant}
use Rattle.rv_run.specs.Progress.{Progress, to_come}
use Rattle.cfi_unwind.specs.Caller.{Unwinding}
use Rattle.cfi_unwind.specs.Path.{unwinding_of, path_of as unwound_by}
use Rattle.program_run.specs.Measured.{measured_run}
use Rattle.hpc_top.specs.private.LiveRuns.{RunsLive, measured_live}
use Rattle.hpc_top.proofs.live_runs.run_while_merging.Goals as goal

pub returns : goal.returns
returns g c =
    let events = c.args.job.now.periods.now in
    subst (λ (p : Progress). RunsLive c.args.expander.now events c.merge_live.result (measured_live c.args.expander.now (measured_run (unwound_by (unwinding_of (descriptions c.args.table.now) c.args.image.now)) events c.args.schedule.harts (to_come p)))) c.in_ok-samples.ensures.machine
    (subst (λ (n : ℕ). RunsLive c.args.expander.now events c.merge_live.result (measured_live c.args.expander.now (measured_run (unwound_by (unwinding_of (descriptions c.args.table.now) c.args.image.now)) events n (to_come c.in_ok-samples.samples.machine)))) c.harts-harts.ensures.harts
    (subst (λ (u : Unwinding). RunsLive c.args.expander.now events c.merge_live.result (measured_live c.args.expander.now (measured_run (unwound_by u) events c.harts-harts.result (to_come c.in_ok-samples.samples.machine)))) c.of-unwinder.ensures.unwinding
    c.merge_live.ensures))

pub merge_live-requires-clause-instants : goal.merge_live-requires-clause-instants
merge_live-requires-clause-instants g c κs within =
    subst (λ (n : ℕ). All (λ (i : Instant). i.moment.hart < n) (to_come c.in_ok-samples.samples.machine).instants) (sym c.harts-harts.ensures.harts) c.in_ok-samples.ensures.instants
