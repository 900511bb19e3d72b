use Rattle.std.proofs.Common.{take}
use Rattle.std.specs.List.{flat_map}
use Rattle.dwarf_info.specs.Units.{entries_in}
use Rattle.dwarf_info.specs.Sections.{sections_of}
use Rattle.dwarf_info.proofs.Outlining.{IsOutline}
use Rattle.dwarf_info.proofs.info.Info.outline.Given as goal

abbrev pub invariant-loop-context : goal.invariant-loop-context
invariant-loop-context l = IsOutline (flat_map (entries_in (sections_of l.self-inside.sections)) (take l.context-index l.context-items)) l.outline
