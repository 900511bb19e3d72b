use Rattle.std.proofs.Common.{◌∙◌}
use Rattle.scope_find.specs.Found.{naming_of}
use Rattle.trace_lines.proofs.Whole.{whole_text}
use Rattle.trace_lines.proofs.text.timeline.Goals as goal

pub returns : goal.returns
returns g c =
    whole_text (g.E.Expand.call_path c.args.expand.now) (naming_of c.args.finder.now).proc_name c.args.trace.now c.args.depth c.args.cells c.harts.result c.period.result c.span_of.result c.new-out.result.items c.put_head.new.out.items
    c.put_lines.new.out.items c.from_vec.result c.as_slice.result.now c.harts.ensures.harts c.period.ensures c.span_of.ensures (c.as_slice.ensures.value ∙ c.in_ok-rows.ensures) c.new-out.ensures.items c.in_ok-put_head.ensures
    c.in_ok-put_lines.ensures c.from_vec.ensures
