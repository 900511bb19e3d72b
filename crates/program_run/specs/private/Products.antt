-- What `run` makes of a run, or of the refusal in its place.
use Rattle.std.specs.Prelude.{Result, Ok}
use Rattle.prof_bytes.specs.Outcome.{◌>>=◌}
use Rattle.elf_image.specs.Image.{ProgramImage}
use Rattle.command_line.specs.declared.status.InputFault.{InputFault}
use Rattle.command_line.specs.declared.product.Product.{Product}
use Rattle.program_run.specs.Measured.{Measured}
use Rattle.program_run.specs.commands.Run.{measurement_of}

-- the measurement of a measured run
abbrev pub measurement_or : ProgramImage → Result Measured InputFault → Result Product InputFault
measurement_or image wanted = wanted >>= λ m. Ok (measurement_of image m)
