-- `drill` as a function of its number: the guest of the number is run and profiled, and four lines tell of it.
use Rattle.std.specs.Prelude.{ℕ, List, [], length, Result, Ok}
use Rattle.prof_bytes.specs.Outcome.{◌>>=◌}
use Rattle.guest_gen.specs.declared.generate.GuestFiles.{GuestFiles}
use Rattle.guest_gen.specs.Guest.{guest_of}
use Rattle.run_report.specs.Drill.{drill_lines, retired_by}
use Rattle.scope_types.specs.Events.{retired_every}
use Rattle.tree_types.specs.Nodes.{nodes}
use Rattle.command_line.specs.declared.status.InputFault.{InputFault}
use Rattle.run_profile.specs.Attribution.{attribution_of, call_paths_of}
use Rattle.command_line.specs.declared.product.Product.{Product}
use Rattle.command_line.specs.Product.{no_product, only_text}
use Rattle.hpc_top.specs.commands.Profile.{Profiled, profiled_of}

-- the lines of a run: its retired instructions, its samples, the nodes of their call paths, and the database of these
abbrev pub drill_text : ℕ → Profiled → List ℕ
drill_text number p =
    drill_lines number (retired_by p.measured.final) (length p.measured.samples)
    (length (nodes (call_paths_of p.attributed))) (attribution_of p.attributed).stored

-- the lines of a guest's files, or the first refusal of a profile of these; nothing is stored
abbrev pub drilled : ℕ → GuestFiles → Result Product InputFault
drilled number files = do
  p ← profiled_of files.elf files.input files.schedule (retired_every files.period)
  Ok (only_text (drill_text number p))

-- the lines of a number's guest
unfoldable pub drill_product : ℕ → Result Product InputFault
drill_product number = drilled number (guest_of number)

-- the same of the contents of the command's files, of which there are none
abbrev pub drill_makes : ℕ → List (List ℕ) → Result Product InputFault
drill_makes number [] = drill_product number
drill_makes number texts = Ok no_product
