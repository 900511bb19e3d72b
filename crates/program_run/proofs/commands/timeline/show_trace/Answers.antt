use Rattle.std.proofs.Common.{◌≡◌, ap, subst, ◌∙◌}
use Rattle.std.specs.Prelude.{IfOk}
use Rattle.dwarf_line.specs.Lines.{Lines}
use Rattle.scope_find.specs.Found.{ProgramScopes, found_at, naming_of}
use Rattle.scope_types.specs.Expansion.{call_path}
use Rattle.trace_lines.specs.Timeline.{timeline_text}
use Rattle.program_run.specs.commands.Timeline.{timeline_by}
use Rattle.program_run.proofs.commands.timeline.show_trace.Goals as goal

pub returns : goal.returns
returns c =
    let scopes : Lines → ProgramScopes = λ l. record { structure = c.args.structure.now; lines = l; image = c.args.image.now } in
    subst (λ (p : ProgramScopes). IfOk c.timeline.result (λ text. text ≡ timeline_by p c.args.trace.now c.args.depth c.args.cells)) (c.in_ok-finder.ensures ∙ ap scopes c.in_ok-lines.ensures)
    (subst
    (λ (p : ProgramScopes). IfOk c.timeline.result (λ text. text ≡ timeline_text (call_path (found_at p)) (naming_of c.in_ok-finder.finder).proc_name c.args.trace.now c.args.depth c.args.cells))
    c.of-expander.ensures c.timeline.ensures)
