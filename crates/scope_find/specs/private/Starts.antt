-- Function symbols in the order of their starts, and how procedures are called by them.
use Rattle.std.specs.Prelude.{◌≡◌, ℕ, List, find, option_map, ◌==◌}
use Rattle.std.specs.List.Sorted.{IsNonDecreasingBy}
use Rattle.elf_image.specs.declared.part.Function.{Function}
use Rattle.elf_image.specs.Image.{FunctionSymbol, symbol_view}
use Rattle.scope_find.specs.Symbols.{name_or_unnamed}

-- these are the function symbols in the order of their starts: the first that starts at an address is so in both
pub record AreByStart (functions : List FunctionSymbol) (starts : List Function) : Type 0 where
  pub rising : IsNonDecreasingBy (λ f. f.start) starts
  pub first : (start : ℕ)
      → option_map symbol_view (find (λ f. f.start == start) starts) ≡ find (λ f. f.start == start) functions

-- the name of the first function symbol that starts at an address
abbrev pub name_at_start : List Function → ℕ → List ℕ
name_at_start starts start = name_or_unnamed (option_map symbol_view (find (λ f. f.start == start) starts))
