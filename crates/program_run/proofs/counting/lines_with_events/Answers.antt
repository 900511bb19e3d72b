use Rattle.std.proofs.Common.{◌≡◌, ◌∙◌, ℕ, List, ◌*◌, ap, length, sym, subst, IfOk}
use Rattle.rv_run.specs.Progress.{Progress}
use Rattle.rv_run.specs.State.{MachineState}
use Rattle.run_report.specs.Report.{run_and_events}
use Rattle.scope_types.specs.declared.event.EventPeriod.{EventPeriod}
use Rattle.program_run.proofs.Counted.{columns_own, counts_own}
use Rattle.program_run.proofs.counting.lines_with_events.Goals as goal

pub run_and_events-requires-clause-columns : goal.run_and_events-requires-clause-columns
run_and_events-requires-clause-columns c =
    columns_own c.args.events.now c.requires.counted.0 c.args.run.now c.requires.counted.1 ∙ sym (ap (λ (p : Progress). length p.state.harts * length c.args.events.now) c.machine.ensures)

pub returns : goal.returns
returns c m count =
    let run = c.args.run.now in
    let text = c.run_and_events.ensures m.samples (counts_own c.args.events.now m run count) count.all in
    let final : c.machine.result.now.state ≡ m.final = ap (λ (p : Progress). p.state) c.machine.ensures ∙ count.final in
    let here = subst (λ (s : MachineState). IfOk c.run_and_events.result (λ text. text ≡ run_and_events c.args.events.now (length s.harts) s m.samples)) final text in
    subst (λ (es : List EventPeriod). IfOk c.run_and_events.result (λ text. text ≡ run_and_events es m.harts m.final m.samples)) (sym count.same)
    (subst (λ (n : ℕ). IfOk c.run_and_events.result (λ text. text ≡ run_and_events c.args.events.now n m.final m.samples)) (sym count.ends) here)
