use Rattle.std.proofs.Common.{ℕ, ◌/◌, length, ap, sym, ◌∙◌, subst, All}
use Rattle.std.proofs.lemmas.Result.{err_from_is_err_and}
use Rattle.cfi_unwind.specs.Path.{path_by as unwound_by}
use Rattle.rv_run.specs.Progress.{Progress}
use Rattle.rv_run.specs.State.{hart_of}
use Rattle.sample_clock.specs.Clock.{samples_to_come}
use Rattle.trace_lines.specs.Traces.{Traced, with_harts}
use Rattle.program_run.specs.private.Tracing.{IsOwn, finished_in}
use Rattle.program_run.proofs.TracedRuns.{own_to_come, refused_trace, started, traced_as_many, traced_counted, traced_run}
use Rattle.program_run.proofs.tracing.traced.Goals as goal

pub trace_samples-requires-clause-own : goal.trace_samples-requires-clause-own
trace_samples-requires-clause-own c =
    subst (λ n. All (IsOwn n) (samples_to_come (unwound_by c.args.unwinder.now) c.args.samples)) (sym c.in_ok-trace.ensures.harts)
    (own_to_come (unwound_by c.args.unwinder.now) c.args.period c.args.harts c.args.samples c.requires.start c.samples_are_of_instructions.ensures c.requires.instants)

pub returns-in_err-trace_samples : goal.returns-in_err-trace_samples
returns-in_err-trace_samples c =
    let p = err_from_is_err_and c.from_residual-in_err-trace_samples.result c.from_residual-in_err-trace_samples.ensures.1 in
    rw (p.1, p.2) (refused_trace (unwound_by c.args.unwinder.now) c.args.period c.args.harts c.args.samples c.requires.start c.in_ok-trace.trace c.in_ok-trace.ensures.harts _ c.in_err-trace_samples.ensures)

pub finish_harts-requires-clause-harts : goal.finish_harts-requires-clause-harts
finish_harts-requires-clause-harts c =
    traced_as_many (unwound_by c.args.unwinder.now) c.args.period c.args.harts c.args.samples c.requires.start c.in_ok-trace.trace c.in_ok-trace.ensures.harts c.trace_samples.new.trace c.trace_samples.new.samples c.in_ok-trace_samples.ensures c.requires.harts
    ∙ sym (ap (λ (p : Progress). length p.state.harts) c.machine.ensures)

pub finish_harts-requires-clause-samples : goal.finish_harts-requires-clause-samples
finish_harts-requires-clause-samples c hart below =
    traced_counted (unwound_by c.args.unwinder.now) c.args.period c.args.harts c.args.samples c.requires.start c.in_ok-trace.trace c.in_ok-trace.ensures.harts c.trace_samples.new.trace c.trace_samples.new.samples c.in_ok-trace_samples.ensures
    c.samples_are_of_instructions.ensures c.retired_samples_are_counted.ensures c.requires.period c.requires.fresh c.requires.at_start c.requires.instants (ap (λ (t : Traced). t.period) c.in_ok-trace.ensures.trace) hart below
    ∙ ap (λ (p : Progress). (hart_of p.state hart).retired / c.trace_samples.new.trace.period) (sym c.machine.ensures)

pub returns : goal.returns
returns c =
    traced_run (unwound_by c.args.unwinder.now) c.args.period c.args.harts c.args.samples c.requires.start c.in_ok-trace.trace c.in_ok-trace.ensures.harts c.trace_samples.new.trace c.trace_samples.new.samples c.in_ok-trace_samples.ensures
    c.args.image.now c.samples_are_of_instructions.ensures c.requires.instants c.requires.harts
    (c.in_ok-trace.ensures.trace ∙ ap (λ (n : ℕ). started n c.entry.result c.args.period c.args.harts) c.length.ensures ∙ ap (λ (n : ℕ). started (length c.args.image.now.file) n c.args.period c.args.harts) c.entry.ensures)
    c.finish_harts.new.trace (c.finish_harts.ensures.trace ∙ ap (λ (p : Progress). with_harts c.trace_samples.new.trace (finished_in p.state c.trace_samples.new.trace.harts)) c.machine.ensures) c.finish_harts.ensures.finished
