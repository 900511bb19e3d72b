use Rattle.std.proofs.Common.{◌≡◌, ◌-◌}
use Rattle.prof_bytes.specs.Fields.{uleb_from}
use Rattle.dwarf_line.specs.Names.{repeated_from}
use Rattle.dwarf_line.proofs.CountedItems.{passed}
use Rattle.dwarf_line.proofs.program.skip.Given as goal

abbrev pub invariant-loop : goal.invariant-loop
invariant-loop l =
    passed l.registers (repeated_from uleb_from (l.count - l.counter) l.reader)
    ≡ passed l.registers (repeated_from uleb_from l.count l.initial.reader)
