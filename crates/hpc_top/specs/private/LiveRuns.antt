-- A run that is merged while it goes on, as `live` takes it: its counted samples, and the tree of their call paths.
use Rattle.std.specs.Prelude.{◌≡◌, ℕ, [], ◌∷◌, List, Result, Ok, Err}
use Rattle.prof_bytes.specs.declared.fail.Fail.{Fail}
use Rattle.prof_bytes.specs.declared.fail.Fail.TheVariants as fails
use Rattle.prof_bytes.specs.Outcome.{◌>>=◌, FailsBy}
use Rattle.scope_find.specs.Found.{ProgramScopes}
use Rattle.scope_types.specs.declared.event.EventPeriod.{EventPeriod}
use Rattle.sample_clock.specs.Clock.{Sampling}
use Rattle.live_merge.specs.declared.run.Live.{Live}
use Rattle.live_merge.specs.declared.fault.LiveFault.{LiveFault}
use Rattle.live_merge.specs.declared.fault.LiveFault.TheVariants as limits
use Rattle.command_line.specs.declared.status.InputFault.{InputFault}
use Rattle.command_line.specs.declared.status.InputFault.TheVariants.{TooManySamples, TooManyFrames, TooManyScopes}
use Rattle.hpc_top.specs.declared.live_runs.LiveRun.{LiveRun}
use Rattle.run_profile.specs.Attribution.{Attributed, call_paths_of}
use Rattle.program_run.specs.Measured.{Measured}
use Rattle.command_line.specs.declared.product.Product.{Product}
use Rattle.program_run.specs.Samples.{run_columns}
use Rattle.hpc_top.specs.commands.Profile.{Profiled, product_of, profiled}
use Rattle.program_run.specs.Counting.{IsCount}
use Rattle.run_profile.specs.Merging.{IsTreeOf}

-- a limit of the run as a refusal of the command's files
abbrev pub live_fault : LiveFault → InputFault
live_fault limits.TooManySamples = TooManySamples
live_fault limits.TooManyFrames = TooManyFrames
live_fault limits.TooManyScopes = TooManyScopes

-- what was counted and merged of so many harts, with the machine at its end; or a limit as a refusal
abbrev pub IsAnswer : ℕ → Sampling → Result Live (Fail LiveFault) → Result LiveRun (Fail InputFault) → Type 0
IsAnswer harts samples (Ok live) result =
    result ≡ Ok (record { run = record { harts = harts; ccts = live.ccts; samples = samples }; tree = live.tree })
IsAnswer harts samples (Err (fails.Fault fault)) result = result ≡ Err (fails.Fault (live_fault fault))
IsAnswer harts samples (Err (fails.Memory memory)) result = result ≡ Err (fails.Memory memory)

-- all samples of a measured run, attributed to these scopes
abbrev pub samples_attributed : ProgramScopes → Measured → Attributed
samples_attributed scopes m =
    record { scopes = scopes; events = m.events; runs = m.harts ∷ []; samples = m.samples }

-- a measured run and its samples, attributed
abbrev pub run_attributed : ProgramScopes → Measured → Profiled
run_attributed scopes m = record { measured = m; attributed = samples_attributed scopes m }

-- its samples are counted, and the tree has their call paths
pub record IsLiveRun (scopes : ProgramScopes) (events : List EventPeriod) (m : Measured) (live : LiveRun) : Type 0 where
  pub count : IsCount events m live.run
  pub tree_of : IsTreeOf (run_columns events m.harts) (call_paths_of (samples_attributed scopes m)) live.tree

-- a run that was counted and merged as it is profiled, or its refusal, unless memory ran out
abbrev pub RunsLive : ProgramScopes → List EventPeriod → Result LiveRun (Fail InputFault) → Result Profiled InputFault
    → Type 0
RunsLive scopes events (Ok live) wanted =
    (m : Measured) × (wanted ≡ Ok (run_attributed scopes m)) × IsLiveRun scopes events m live
RunsLive scopes events (Err fail) wanted = FailsBy fail wanted

-- the run that is measured, profiled with these scopes
abbrev pub measured_live : ProgramScopes → Result Measured InputFault → Result Profiled InputFault
measured_live scopes wanted = wanted >>= λ m. profiled scopes m

-- the product of a run that is profiled
abbrev pub product_or : Result Profiled InputFault → Result Product InputFault
product_or wanted = wanted >>= λ p. Ok (product_of p)
