-- What is appended to a listing at a time.
use Rattle.std.specs.Prelude.{ℕ, nat_lt, List, [], codes, if◌then◌else◌}
use Rattle.elf_image.specs.Image.{FunctionSymbol}
use Rattle.dwarf_inline.specs.Structure.{ProgramStructure}
use Rattle.scope_find.specs.Found.{Numbered, ProgramScopes}
use Rattle.struct_listing.specs.declared.program.Program.{Program}
use Rattle.struct_listing.specs.Listing.{inline_line, inlined_level, is_listed_subprogram, is_listed_symbol}
use Rattle.struct_listing.specs.Listing.{subprogram_lines, symbol_line}

-- what is known of a program's code, as contracts see it
abbrev pub scopes_of : Program → ProgramScopes
scopes_of p = record { structure = p.structure.now; lines = p.lines.now; image = p.image.now }

-- what comes before the range with an index
abbrev pub separator : ℕ → List ℕ
separator at = if nat_lt 0 at then codes "," else []

-- what is listed of an inlined subroutine below a subprogram
abbrev pub line_below : ProgramScopes → ℕ → Numbered → List ℕ
line_below p subprogram i = inline_line p (inlined_level p.structure subprogram i.0) i.1

-- what is listed of an item as a subprogram
abbrev pub subprogram_part : ProgramScopes → Numbered → List ℕ
subprogram_part p i = if is_listed_subprogram i then subprogram_lines p i else []

-- what is listed of a function symbol
abbrev pub symbol_part : ProgramStructure → FunctionSymbol → List ℕ
symbol_part s function = if is_listed_symbol s function then symbol_line function else []
