use Rattle.std.proofs.Common.{◌≡◌, ◌++◌, take}
use Rattle.std.specs.List.{flat_map}
use Rattle.elf_image.specs.Image.{symbol_view}
use Rattle.struct_listing.specs.private.Parts.{symbol_part}
use Rattle.struct_listing.proofs.symbols.put_symbols.Given as goal

abbrev pub invariant-loop-function : goal.invariant-loop-function
invariant-loop-function l = l.out.items ≡ l.fn.out.items ++ flat_map (λ g. symbol_part l.structure (symbol_view g)) (take l.function-index l.functions)
