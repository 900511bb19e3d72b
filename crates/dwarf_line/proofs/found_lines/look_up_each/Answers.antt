use Rattle.std.proofs.Common.{◌<◌, None, length, get_or, arith}
use Rattle.std.proofs.lemmas.List.{get_or_default}
use Rattle.std.proofs.lemmas.List.Edits.{map_over_more}
use Rattle.dwarf_line.specs.declared.found_lines.FoundLine.{FoundLine}
use Rattle.dwarf_line.specs.private.Found.{found_after}
use Rattle.dwarf_line.proofs.found_lines.look_up_each.Goals as goal

pub loop-line-preserved : goal.loop-line-preserved
loop-line-preserved c =
    let at = c.loop-line.line-index in
    let before = c.loop-line-test.true in
    let long = c.loop-line.auto.found in
    let inside : at < length c.loop-line.found = omega (arith, before, long) in
    let none : FoundLine = record { address = 0; line = None } in
    rw c.found_after.ensures
    (map_over_more (found_after c.args.sequences.now) c.args.found.now c.loop-line.found at _ before c.loop-line.invariant (get_or_default c.loop-line.found at none (get_or c.loop-line.found at none) inside))
