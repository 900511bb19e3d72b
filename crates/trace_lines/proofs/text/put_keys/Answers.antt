use Rattle.std.proofs.Common.{refl}
use Rattle.std.proofs.lemmas.List.{get_or_default}
use Rattle.scope_find.specs.Found.{naming_of}
use Rattle.trace_lines.specs.Timeline.{key_line}
use Rattle.trace_lines.proofs.Lines.{line_more, lines_all}
use Rattle.trace_lines.proofs.text.put_keys.Goals as goal

pub loop-number-preserved : goal.loop-number-preserved
loop-number-preserved c =
    line_more (key_line (naming_of c.args.finder.now).proc_name) c.args.out.now.items c.loop-number.out.items c.put_key.new.out.items c.args.procs.now c.loop-number.number _ _ c.loop-number-test.true refl
    (get_or_default _ _ _ _ c.loop-number-test.true) c.loop-number.invariant c.in_ok-put_key.ensures

pub returns : goal.returns
returns c = lines_all (key_line (naming_of c.args.finder.now).proc_name) c.args.out.now.items c.loop-number.out.items c.args.procs.now c.loop-number.number c.loop-number-test.false c.loop-number.invariant
