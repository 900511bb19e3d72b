use Rattle.std.proofs.Common.{List, length, ap, sym, ◌∙◌}
use Rattle.rv_run.specs.Progress.{Progress}
use Rattle.run_report.specs.Drill.{retired_by}
use Rattle.run_profile.specs.EventTexts.{lines_of_events}
use Rattle.scope_types.specs.declared.event.EventPeriod.{EventPeriod}
use Rattle.scope_types.specs.Events.{is_retired_alone}
use Rattle.program_run.proofs.Counted.{counts_own}
use Rattle.hpc_top.proofs.summary.summary_of.Goals as goal

pub returns : goal.returns
returns c m count = record {
  lines = c.in_ok-lines.ensures m count;
  event_lines = c.in_ok-event_lines.ensures.lines m.samples (counts_own c.args.events.now m c.args.run.now count) count.all ∙ ap (λ (es : List EventPeriod). lines_of_events es m.samples) (sym count.same);
  many = c.in_ok-event_lines.ensures.many ∙ ap (λ (es : List EventPeriod). length es) (sym count.same);
  alone = λ alone. c.in_ok-event_lines.ensures.alone (ap is_retired_alone (sym count.same) ∙ alone);
  retired = c.all_retired.ensures ∙ ap (λ (x : Progress). retired_by x.state) c.machine.ensures ∙ ap retired_by count.final;
  samples = c.all_samples.ensures.all ∙ count.all;
}
