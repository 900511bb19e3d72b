use Rattle.std.proofs.Common.{sym, ap, ◌∙◌}
use Rattle.tree_types.specs.Paths.{is_proc}
use Rattle.view_tables.proofs.grouping.Cuts.{callers_frame, frame_by_proc, no_line_no_frame, not_proc}
use Rattle.view_tables.proofs.groups.occurrence.is_occurrence.Goals as goal

pub returns-in-Proc : goal.returns-in-Proc
returns-in-Proc c = sym (callers_frame _ c.args.content.now c.items.result.now c.args.number _ c.requires.profile c.items.ensures c.requires.number c.in-Callers.is ∙ ap is_proc c.in-Proc.is)

pub returns-in_default : goal.returns-in_default
returns-in_default c = sym (callers_frame _ c.args.content.now c.items.result.now c.args.number _ c.requires.profile c.items.ensures c.requires.number c.in-Callers.is ∙ not_proc _ c.in_default.not-Proc)

pub returns-in-Some : goal.returns-in-Some
returns-in-Some c =
    c.is_some.ensures
    ∙ sym (frame_by_proc _ c.args.content.now c.items.result.now c.args.number _ c.requires.profile c.items.ensures c.requires.number c.in-Some.field-0 c.frame_proc_from.result c.in-Flat.is c.in-Some.ensures c.frame_proc_from.ensures)

pub returns-in-None : goal.returns-in-None
returns-in-None c = sym (no_line_no_frame _ c.args.content.now c.items.result.now c.args.number _ c.requires.profile c.items.ensures c.requires.number c.in-Flat.is c.in-None.ensures)
