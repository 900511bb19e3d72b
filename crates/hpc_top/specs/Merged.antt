-- What `profile` makes of a run by a crew, which need not merge all samples.
use Rattle.std.specs.Prelude.{◌≡◌, IsTrue, Result, Ok, Err}
use Rattle.prof_bytes.specs.declared.fail.Fail.{Fail}
use Rattle.prof_bytes.specs.Outcome.{FailsBy}
use Rattle.stripe_table.specs.Ends.{named_paths}
use Rattle.stripe_table.specs.Limits.{Chunks}
use Rattle.merge_crew.specs.Merged.{IsOfPlan, IsWhole}
use Rattle.command_line.specs.declared.status.InputFault.{InputFault}
use Rattle.hpc_top.specs.declared.status.Made.{Made}
use Rattle.hpc_top.specs.Made.{product_in}
use Rattle.run_profile.specs.Merging.{Merging, sample_plan}
use Rattle.hpc_top.specs.commands.Profile.{Profiled, product_from, product_of}

-- the plan of a run is that of its samples
abbrev pub run_plan : Profiled → Chunks
run_plan p = sample_plan p.attributed

-- what is made of a run: its crew is one that may come, its stripes are those of the run's plan and fit it, and
-- database and tables are those of the pieces that the stripes name. Where crews merge all, the stripes name every
-- piece, and it is the product of the run
pub record IsMadeOf (merging : Merging) (p : Profiled) (made : Made) : Type 0 where
  pub gives : merging.gives made.crew
  pub plan : IsOfPlan (run_plan p) made.crew
  pub product : product_in made ≡ product_from p (named_paths made.crew.stripes)
  pub crew : IsTrue merging.whole → IsWhole (run_plan p) merging.workers made.crew
  pub whole : IsTrue merging.whole → product_in made ≡ product_of p

-- what is made of a run that is profiled, or its refusal, unless memory ran out
abbrev pub MakesBy : Merging → Result Made (Fail InputFault) → Result Profiled InputFault → Type 0
MakesBy merging (Ok made) run = (p : Profiled) × (run ≡ Ok p) × IsMadeOf merging p made
MakesBy merging (Err fail) run = FailsBy fail run
