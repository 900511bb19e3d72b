use Rattle.std.proofs.Common.{◌≡◌, None}
use Rattle.std.specs.Prelude.{All}
use Rattle.dwarf_line.specs.declared.found_lines.FoundLine.{FoundLine}
use Rattle.dwarf_line.proofs.found_lines.wanted.Given as goal

abbrev pub invariant-loop-address : goal.invariant-loop-address
invariant-loop-address l = All (λ (f : FoundLine). f.line ≡ None) l.wanted.items
