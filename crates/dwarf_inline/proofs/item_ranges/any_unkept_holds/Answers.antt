use Rattle.std.proofs.Common.{◌∙◌}
use Rattle.dwarf_info.specs.Sections.{sections_of}
use Rattle.dwarf_info.specs.Ranges.{source_ranges}
use Rattle.dwarf_inline.proofs.HeldAddresses.{any_within, any_outside}
use Rattle.dwarf_inline.proofs.item_ranges.any_unkept_holds.Goals as goal

pub returns-in-Some : goal.returns-in-Some
returns-in-Some c =
    c.source_holds.ensures
    ∙ any_within c.args.segments.now c.args.address c.in-Some.code (source_ranges (sections_of c.args.sections.now) c.args.source) c.in-Some.ensures

pub returns-in-None : goal.returns-in-None
returns-in-None c = any_outside c.args.segments.now c.args.address (source_ranges (sections_of c.args.sections.now) c.args.source) c.in-None.ensures
