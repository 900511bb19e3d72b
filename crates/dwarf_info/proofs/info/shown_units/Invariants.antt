use Rattle.std.proofs.Common.{◌≡◌, take, map}
use Rattle.dwarf_info.specs.Units.{unit_of}
use Rattle.dwarf_info.proofs.info.shown_units.Given as goal

abbrev pub invariant-loop-unit : goal.invariant-loop-unit
invariant-loop-unit l = l.units.items ≡ map unit_of (take l.unit-index l.contexts)
