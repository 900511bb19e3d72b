-- What a command makes of its files: a product, or the first refusal.
use Rattle.std.specs.Prelude.{ℕ, List, [], ◌∷◌, length, Result, Ok, Err, if◌then◌else◌, nat_lt}
use Rattle.prof_bytes.specs.Outcome.{◌>>=◌}
use Rattle.prof_devices.specs.Files.{Files, file_bytes}
use Rattle.command_line.specs.declared.status.InputFault.{InputFault}
use Rattle.command_line.specs.declared.status.InputFault.TheVariants.{TooLong}
use Rattle.command_line.specs.Kind.{Wanted, file_limit}
use Rattle.command_line.specs.Request.{Request}
use Rattle.command_line.specs.declared.product.Product.{Product}
use Rattle.hpc_top.specs.commands.{makes}

-- ---- the files

-- the bytes of a file, unless it is too long
abbrev pub limited_bytes : Files → Wanted → Result (List ℕ) InputFault
limited_bytes files w =
    if nat_lt (file_limit w.file) (length (file_bytes files w.name)) then Err (TooLong w.file (file_limit w.file))
    else Ok (file_bytes files w.name)

-- the contents of the files in their order, or the first that is too long
abbrev pub contents : Files → List Wanted → Result (List (List ℕ)) InputFault
contents files [] = Ok []
contents files (w ∷ ws) = do
  bytes ← limited_bytes files w
  rest ← contents files ws
  Ok (bytes ∷ rest)

-- ---- the verdict

-- accepted, with its product, or the first refusal
abbrev pub verdict : Request → Files → Result Product InputFault
verdict request files = do
  texts ← contents files request.reads
  makes request.command texts
