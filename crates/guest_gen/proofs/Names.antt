-- The functions' names and symbols as they are written, and as they are defined.
use Rattle.std.proofs.Common.{◌≡◌, ℕ, List, ◌++◌, replicate, codes, refl, sym, ◌∙◌}
use Rattle.std.specs.Fmt.{digits}
use Rattle.guest_gen.specs.Code.{entry}
use Rattle.guest_gen.specs.File.{strtab, symbol_bytes, symtab}
use Rattle.guest_gen.specs.private.Names.{function_names, function_symbols}

pub symtab_is : symtab ≡ replicate 16 0 ++ symbol_bytes 1 entry 16 ++ function_symbols 48
unfolding symtab function_symbols digits
symtab_is = refl

pub strtab_is : strtab ≡ codes "\0_start\0" ++ function_names 48
unfolding strtab function_names digits
strtab_is = refl

pub symtab_made : (bytes : List ℕ) → bytes ≡ replicate 16 0 ++ symbol_bytes 1 entry 16 ++ function_symbols 48 → bytes ≡ symtab
symtab_made bytes is = is ∙ sym symtab_is

pub strtab_made : (bytes : List ℕ) → bytes ≡ codes "\0_start\0" ++ function_names 48 → bytes ≡ strtab
strtab_made bytes is = is ∙ sym strtab_is
