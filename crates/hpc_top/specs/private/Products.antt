-- What `merge` and `drill` make of samples, or of the refusal in their place.
use Rattle.std.specs.Prelude.{ℕ, List, Result, Ok}
use Rattle.prof_bytes.specs.Outcome.{◌>>=◌}
use Rattle.elf_image.specs.Image.{ProgramImage}
use Rattle.command_line.specs.declared.status.InputFault.{InputFault}
use Rattle.command_line.specs.declared.product.Product.{Product}
use Rattle.command_line.specs.Product.{only_text}
use Rattle.hpc_top.specs.commands.Drill.{drill_text}
use Rattle.hpc_top.specs.commands.Merge.{KeptRun, first_events, harts_of_runs, within_limits}
use Rattle.hpc_top.specs.commands.Prof.{attributed_code}
use Rattle.hpc_top.specs.commands.Profile.{Profiled}

-- the product of runs of one program and the same events
abbrev pub limited_or : ProgramImage → List KeptRun → Result Product InputFault
limited_or image runs =
    within_limits runs >>= λ tables. attributed_code image (first_events runs) (harts_of_runs runs) tables

-- the lines of a drill on a run that is profiled
abbrev pub drill_or : ℕ → Result Profiled InputFault → Result Product InputFault
drill_or number wanted = wanted >>= λ p. Ok (only_text (drill_text number p))
