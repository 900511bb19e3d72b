-- `struct` as a function of its file: the structure of a program, or the first refusal.
use Rattle.std.specs.Prelude.{ℕ, List, [], ◌∷◌, Result, Ok}
use Rattle.prof_bytes.specs.Outcome.{◌>>=◌}
use Rattle.elf_image.specs.Image.{ProgramImage}
use Rattle.struct_listing.specs.Listing.{structure_listing}
use Rattle.command_line.specs.declared.status.InputFault.{InputFault}
use Rattle.command_line.specs.declared.product.Product.{Product}
use Rattle.command_line.specs.Product.{no_product, only_text}
use Rattle.program_run.specs.Program.{program}
use Rattle.program_run.specs.Scopes.{program_scopes}

-- the listing of a program whose debug information is not read yet, or its first refusal
abbrev pub listed_code : ProgramImage → Result Product InputFault
listed_code image = do
  scopes ← program_scopes image
  Ok (only_text (structure_listing scopes))

-- the structure of a program, or the first refusal of its file
unfoldable pub struct_product : List ℕ → Result Product InputFault
struct_product elf = do
  image ← program elf
  listed_code image

-- the same of the contents of the command's files
abbrev pub struct_makes : List (List ℕ) → Result Product InputFault
struct_makes (elf ∷ []) = struct_product elf
struct_makes texts = Ok no_product
