use Rattle.std.proofs.Common.{◌≡◌}
use Rattle.dwarf_info.proofs.units.put_table_offsets.Given as goal

abbrev pub invariant-loop : goal.invariant-loop
invariant-loop l = l.reader.at.whole ≡ l.sections.info.now
