use Rattle.std.proofs.Common.{◌≡◌, ◌++◌, drop, map, take}
use Rattle.dwarf_line.specs.private.Found.{found_after}
use Rattle.dwarf_line.proofs.found_lines.look_up_each.Given as goal

abbrev pub invariant-loop-line : goal.invariant-loop-line
invariant-loop-line l = l.found ≡ map (found_after l.sequences) (take l.line-index l.initial.found) ++ drop l.line-index l.initial.found
