use Rattle.dwarf_forms.specs.Abbreviations.{table_at}
use Rattle.dwarf_info.specs.Units.{read_unit}
use Rattle.dwarf_info.proofs.Bodies.{fails_before}
use Rattle.dwarf_info.proofs.units.read_headed.Goals as goal

pub returns-in-Err-clause-read : goal.returns-in-Err-clause-read
unfolding read_unit
returns-in-Err-clause-read c = fails_before c.table_fault.result _ _ (c.table_fault.ensures (table_at c.args.sections.now.«abbrev».now c.args.«unit».1.debug_abbrev_offset) c.in-Err.ensures.bad)
