use Rattle.dwarf_info.proofs.units.named_tables.Goals as goal

pub know_all-requires : goal.know_all-requires
know_all-requires c = c.new-tables.ensures c.args.sections.now.«abbrev».now
