use Rattle.std.proofs.Common.{◌≡◌, ◌∙◌, ℕ, List, ap, length, sym, subst, IfOk}
use Rattle.rv_run.specs.Progress.{Progress}
use Rattle.rv_run.specs.State.{MachineState}
use Rattle.run_report.specs.Report.{run_text}
use Rattle.scope_types.specs.declared.event.EventPeriod.{EventPeriod}
use Rattle.scope_types.specs.Events.{retired_every}
use Rattle.trace_lines.specs.Traces.{Traced}
use Rattle.program_run.proofs.TracedLines.{counts_all, counts_each, counts_long, counts_many}
use Rattle.program_run.proofs.tracing.lines_of.Goals as goal

pub retired_lines-requires-clause-harts : goal.retired_lines-requires-clause-harts
retired_lines-requires-clause-harts c =
    let traced = c.requires.traced in
    let are = c.as_slice.ensures.value ∙ c.in_ok-counts.ensures.counts in
    c.harts.ensures.harts ∙ sym (counts_many traced.0 traced.1 traced.2 c.args.run.now traced.3 c.as_slice.result.now are)
    ∙ counts_long traced.0 traced.1 traced.2 c.args.run.now traced.3 c.as_slice.result.now are ∙ sym (ap (λ (p : Progress). length p.state.harts) c.machine.ensures)

pub retired_lines-requires-clause-counts : goal.retired_lines-requires-clause-counts
retired_lines-requires-clause-counts c =
    let traced = c.requires.traced in
    counts_many traced.0 traced.1 traced.2 c.args.run.now traced.3 c.as_slice.result.now (c.as_slice.ensures.value ∙ c.in_ok-counts.ensures.counts) ∙ sym c.harts.ensures.harts

pub returns : goal.returns
returns c image period m is =
    let run = c.args.run.now in
    let counts = c.as_slice.result.now in
    let are = c.as_slice.ensures.value ∙ c.in_ok-counts.ensures.counts in
    let text = c.retired_lines.ensures m.samples (counts_all image period m run is counts are) (counts_each image period m run is counts are) in
    let final : c.machine.result.now.state ≡ m.final = ap (λ (p : Progress). p.state) c.machine.ensures ∙ is.final in
    let own : c.period.result ≡ period = c.period.ensures ∙ ap (λ (t : Traced). t.period) is.trace in
    subst (λ (es : List EventPeriod). IfOk c.retired_lines.result (λ text. text ≡ run_text es m.harts m.final m.samples)) (sym is.events)
    (subst (λ (n : ℕ). IfOk c.retired_lines.result (λ text. text ≡ run_text (retired_every n) m.harts m.final m.samples)) own
    (subst (λ (n : ℕ). IfOk c.retired_lines.result (λ text. text ≡ run_text (retired_every c.period.result) n m.final m.samples)) (sym is.ends)
    (subst (λ (s : MachineState). IfOk c.retired_lines.result (λ text. text ≡ run_text (retired_every c.period.result) (length s.harts) s m.samples)) final text)))
