-- The run of a job whose files were read.
use Rattle.std.proofs.Common.{◌≡◌, ℕ, List, Result, Ok, Err, refl, sym, ap, subst, ◌∙◌}
use Rattle.cfi_table.specs.Frames.{FrameDescription}
use Rattle.elf_image.specs.Image.{ProgramImage}
use Rattle.prof_bytes.specs.declared.fail.Fail.{Fail}
use Rattle.prof_bytes.specs.Outcome.{◌>>=◌, FailsBy}
use Rattle.rv_run.specs.Schedule.{Scheduled}
use Rattle.scope_find.specs.Found.{ProgramScopes}
use Rattle.scope_types.specs.declared.event.EventPeriod.{EventPeriod}
use Rattle.command_line.specs.declared.status.InputFault.{InputFault}
use Rattle.command_line.specs.declared.product.Product.{Product}
use Rattle.program_run.specs.Program.{frame_information, program, scheduled}
use Rattle.program_run.specs.Scopes.{program_scopes}
use Rattle.hpc_top.specs.commands.Profile.{Profiled, product_of, profile_of, profiled_of, profiled_program}
use Rattle.hpc_top.specs.private.LiveRuns.{product_or}
use Rattle.hpc_top.specs.private.Profiling.{JobFiles, files_from, files_of, profiled_files}
use Rattle.command_line.proofs.Faults.{fails_next}
use Rattle.hpc_top.proofs.Products.{refused_product}

module _ (input : List ℕ) (events : List EventPeriod) where
  abbrev files_with : Scheduled → ProgramImage → List FrameDescription → ProgramScopes → JobFiles
  files_with slices image described scopes = record { slices = slices; image = image; described = described; scopes = scopes }

  by_parts : (slices : Scheduled) (image : ProgramImage) (frames : Result (List FrameDescription) InputFault) (scoped : Result ProgramScopes InputFault)
      → (frames >>= λ described. scoped >>= λ scopes. profiled_program image described scopes slices input events)
      ≡ ((frames >>= λ described. scoped >>= λ scopes. Ok (files_with slices image described scopes)) >>= profiled_files input events)
  by_parts slices image (Err fault) scoped = refl
  by_parts slices image (Ok described) (Err fault) = refl
  by_parts slices image (Ok described) (Ok scopes) = refl

  by_files : (slices : Result Scheduled InputFault) (image : Result ProgramImage InputFault)
      → (slices >>= λ slices. image >>= λ image. frame_information image >>= λ described. program_scopes image >>= λ scopes. profiled_program image described scopes slices input events)
      ≡ ((slices >>= λ slices. image >>= λ image. files_from slices image) >>= profiled_files input events)
  by_files (Err fault) image = refl
  by_files (Ok slices) (Err fault) = refl
  by_files (Ok slices) (Ok image) = by_parts slices image (frame_information image) (program_scopes image)

  -- a profile is of the files that are read
  of_files : (elf schedule : List ℕ) → profiled_of elf input schedule events ≡ (files_of elf schedule >>= profiled_files input events)
  unfolding profiled_of
  of_files elf schedule = by_files (scheduled schedule) (program elf)

  module _ (elf schedule : List ℕ) where
    pub profiled_here : (f : JobFiles) → files_of elf schedule ≡ Ok f → profiled_of elf input schedule events ≡ profiled_files input events f
    profiled_here f is = of_files elf schedule ∙ ap (λ (r : Result JobFiles InputFault). r >>= profiled_files input events) is

    pub refused_here : (fail : Fail InputFault) → FailsBy fail (files_of elf schedule) → FailsBy fail (profiled_of elf input schedule events)
    refused_here fail refused =
        subst (λ (r : Result Profiled InputFault). FailsBy fail r) (sym (of_files elf schedule)) (fails_next (profiled_files input events) fail (files_of elf schedule) refused)

    pub product_here : (f : JobFiles) → files_of elf schedule ≡ Ok f → profile_of elf input schedule events ≡ product_or (profiled_files input events f)
    unfolding profile_of
    product_here f is = ap (λ (r : Result Profiled InputFault). r >>= λ p. Ok (product_of p)) (profiled_here f is)

    pub no_product_here : (fail : Fail InputFault) → FailsBy fail (files_of elf schedule) → FailsBy fail (profile_of elf input schedule events)
    no_product_here fail refused = refused_product elf input schedule events fail (refused_here fail refused)
