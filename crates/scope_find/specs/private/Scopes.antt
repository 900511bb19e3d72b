-- The procedure at an address, by the interval that holds it; and what scopes are looked up in.
use Rattle.std.specs.Prelude.{ℕ, Option, Some, None}
use Rattle.scope_types.specs.declared.scope.ProcId.{ProcId}
use Rattle.scope_types.specs.declared.scope.ProcId.TheVariants.{Die}
use Rattle.elf_image.specs.Image.{ProgramImage}
use Rattle.dwarf_inline.specs.Structure.{ProgramStructure}
use Rattle.scope_find.specs.declared.intervals.AddressInterval.{AddressInterval}
use Rattle.scope_find.specs.declared.lookup.Lookup.{Lookup}
use Rattle.scope_find.specs.declared.lookup.Lookup.TheVariants.{Intervals, Known}
use Rattle.scope_find.specs.Symbols.{procedure_by_symbol}
use Rattle.scope_find.specs.private.Spans.{item_at}

-- the number of the subprogram of an interval, if it has one
abbrev pub subprogram_in : Option AddressInterval → Option ℕ
subprogram_in None = None
subprogram_in (Some p) = p.subprogram

-- the number of calls that are inlined in an interval
abbrev pub levels_in : Option AddressInterval → ℕ
levels_in None = 0
levels_in (Some p) = p.levels

-- the procedure by its number, else by symbols
abbrev pub procedure_by : ProgramStructure → ProgramImage → ℕ → Option ℕ → ProcId
procedure_by s image address None = procedure_by_symbol image address
procedure_by s image address (Some number) = Die (item_at s number).identity

-- the structure in which scopes are looked up
abbrev pub looked_up : Lookup → ProgramStructure
looked_up (Intervals structure) = structure
looked_up (Known places) = places.structure
