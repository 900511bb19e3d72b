-- What the program's function symbols say of an address, and how procedures are called by them.
use Rattle.std.specs.Prelude.{ℕ, List, take, find, Option, Some, None, ◌==◌}
use Rattle.elf_image.specs.Image.{FunctionSymbol, ProgramImage, in_function}
use Rattle.scope_types.specs.declared.scope.ProcId.{ProcId}
use Rattle.scope_types.specs.declared.scope.ProcId.TheVariants.{Sym, Nameless}
use Rattle.scope_types.specs.Limits.{most_name_bytes}
use Rattle.dwarf_inline.specs.Links.{unnamed}

-- a function symbol's procedure
abbrev pub symbol_procedure : Option FunctionSymbol → ProcId
symbol_procedure (Some function) = Sym function.start
symbol_procedure None = Nameless

-- the procedure at an address, by the first function symbol that holds it
abbrev pub procedure_by_symbol : ProgramImage → ℕ → ProcId
procedure_by_symbol image address = symbol_procedure (find (in_function address) image.functions)

-- a function symbol's name, cut
abbrev pub name_or_unnamed : Option FunctionSymbol → List ℕ
name_or_unnamed (Some function) = take most_name_bytes function.name
name_or_unnamed None = unnamed

-- a procedure of a symbol is called as the first function symbol that starts where it does
abbrev pub procedure_symbol_name : ProgramImage → ℕ → List ℕ
procedure_symbol_name image start = name_or_unnamed (find (λ function. function.start == start) image.functions)
