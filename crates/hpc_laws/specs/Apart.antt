-- A profile in two commands: a run that is measured, and the attribution of its measurement; and one measurement that
-- is merged alone.
use Rattle.std.specs.Prelude.{◌≡◌, ◌≤◌, true, List, ℕ, [], ◌∷◌, ◌++◌, All, length, Ok}
use Rattle.prof_bytes.specs.Number.{IsBytes}
use Rattle.elf_image.specs.Image.{ProgramImage}
use Rattle.scope_types.specs.declared.event.EventPeriod.{EventPeriod}
use Rattle.scope_types.specs.Events.{AreEvents, is_retired_alone}
use Rattle.program_run.specs.Measured.{Measured, lines_of}
use Rattle.command_line.specs.declared.product.Product.{Product}
use Rattle.program_run.specs.commands.Run.{measurement_of, run_product}
use Rattle.hpc_top.specs.commands.Prof.{prof_product}
use Rattle.hpc_top.specs.commands.Profile.{profile_of}
use Rattle.hpc_top.specs.commands.Merge.{merge_product}
use Rattle.command_line.specs.Kind.{program_limit}
use Rattle.command_line.specs.Words.{most_period}

-- `run` is accepted on the profile's files, and `prof` on the program and what `run` stores. It stores the profile's
-- database, and the profile's text is the lines on the run with what `prof` puts after them. Where retired is the only
-- event, these lines are what `run` puts; else it puts the lines of the events too
pub record IsApart (elf input schedule : List ℕ) (events : List EventPeriod) (whole : Product) : Type 0 where
  pub image : ProgramImage
  pub measured : Measured
  pub run : run_product elf input schedule events ≡ Ok (measurement_of image measured)
  pub tables : Product
  pub prof : prof_product elf (measurement_of image measured).stored ≡ Ok tables
  pub stored : tables.stored ≡ whole.stored
  pub text : whole.text ≡ lines_of measured ++ tables.text
  pub alone : is_retired_alone events ≡ true → whole.text ≡ (measurement_of image measured).text ++ tables.text

-- every profile can be made so, of a program within its limit
abbrev pub RunThenProf : Type 0
RunThenProf = (elf input schedule : List ℕ) (events : List EventPeriod) (whole : Product)
    → IsBytes elf → length elf ≤ program_limit → AreEvents events → All (λ e. e.period ≤ most_period) events
    → profile_of elf input schedule events ≡ Ok whole → IsApart elf input schedule events whole

-- where `prof` is accepted, `merge` of the one measurement makes the same
abbrev pub MergeOfOne : Type 0
MergeOfOne = (elf bytes : List ℕ) (whole : Product) → IsBytes bytes
    → prof_product elf bytes ≡ Ok whole → merge_product elf (bytes ∷ []) ≡ Ok whole

-- and where `merge` of one measurement is accepted, so is `prof`
abbrev pub OneIsProf : Type 0
OneIsProf = (elf bytes : List ℕ) (whole : Product)
    → merge_product elf (bytes ∷ []) ≡ Ok whole → prof_product elf bytes ≡ Ok whole
