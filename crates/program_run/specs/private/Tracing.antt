-- The samples of a run that is under way, as they are traced.
use Rattle.std.specs.Prelude.{◌≡◌, ◌<◌, ◌≤◌, ℕ, List, All, length, map, Result, Ok, Err}
use Rattle.std.specs.List.{enumerate_from, range_with_len}
use Rattle.prof_bytes.specs.declared.fail.Fail.{Fail}
use Rattle.prof_bytes.specs.Outcome.{◌>>=◌, FailsBy}
use Rattle.elf_image.specs.Image.{ProgramImage}
use Rattle.rv_run.specs.Progress.{to_come}
use Rattle.rv_run.specs.State.{MachineState, hart_of}
use Rattle.sample_clock.specs.declared.clock.Sample.{Sample}
use Rattle.sample_clock.specs.Samples.{Paths}
use Rattle.sample_clock.specs.Clock.{Sampling}
use Rattle.scope_types.specs.Distinct.{ColumnRaw, raws_of}
use Rattle.scope_types.specs.Events.{retired_every}
use Rattle.trace_lines.specs.Traces.{AreFinished, HartTrace, Traced, with_harts, with_retired}
use Rattle.command_line.specs.declared.status.InputFault.{InputFault}
use Rattle.program_run.specs.declared.tracing.TracedRun.{TracedRun}
use Rattle.program_run.specs.Measured.{Measured}
use Rattle.command_line.specs.declared.product.Product.{Product}
use Rattle.program_run.specs.Samples.{few_samples}
use Rattle.program_run.specs.commands.Trace.{trace_of, traced_of}
use Rattle.program_run.specs.Collecting.{raws_to_come}

-- a sample of one of these harts, for the only event
pub record IsOwn (harts : ℕ) (s : Sample) : Type 0 where
  pub hart : s.hart < harts
  pub event : s.event ≡ 0

-- the harts of a trace of these samples, before it is noted how many instructions they retired. Each column is a hart's
abbrev pub unfinished : ℕ → List ColumnRaw → List HartTrace
unfinished harts samples =
    map (λ hart. record { retired = 0; samples = raws_of samples hart }) (range_with_len 0 harts)

-- all samples were traced, and the machine stands at the end of its run
pub record AllTraced (path_of : Paths) (t t' : Traced) (old new : Sampling) : Type 0 where
  pub few : few_samples (length t.harts) (raws_to_come path_of old) ≡ Ok (raws_to_come path_of old)
  pub traced : t' ≡ with_harts t (unfinished (length t.harts) (raws_to_come path_of old))
  pub ended : new.machine.state ≡ (to_come old.machine).final

-- what tracing the samples gives
abbrev pub CollectsTrace : Paths → Result (Unit {0}) (Fail InputFault) → Traced → Traced → Sampling → Sampling → Type 0
CollectsTrace path_of (Ok done) t t' old new = AllTraced path_of t t' old new
CollectsTrace path_of (Err fail) t t' old new = FailsBy fail (few_samples (length t.harts) (raws_to_come path_of old))

-- a hart, given with its number, that retired as many instructions as it did in this machine
abbrev pub retired_in_machine : MachineState → ℕ × HartTrace → HartTrace
retired_in_machine s numbered = with_retired numbered.1 (hart_of s numbered.0).retired

-- the harts that retired as many instructions as they did in this machine
abbrev pub finished_in : MachineState → List HartTrace → List HartTrace
finished_in s harts = map (retired_in_machine s) (enumerate_from 0 harts)

-- a run is traced as it is measured, of retired instructions alone, and its machine is the measured one
pub record IsTraced (image : ProgramImage) (period : ℕ) (m : Measured) (run : TracedRun) : Type 0 where
  pub events : m.events ≡ retired_every period
  pub trace : run.trace ≡ trace_of image period m
  pub finished : AreFinished run.trace
  pub own : All (λ s. s.column < m.harts) m.samples
  pub final : run.samples.machine.state ≡ m.final
  pub ends : m.harts ≡ length m.final.harts

-- a run is traced as it is measured, or its refusal, unless memory ran out
abbrev pub TracesRun : ProgramImage → ℕ → Result TracedRun (Fail InputFault) → Result Measured InputFault → Type 0
TracesRun image period (Ok run) wanted = (m : Measured) × (wanted ≡ Ok m) × IsTraced image period m run
TracesRun image period (Err fail) wanted = FailsBy fail wanted

-- the product of a measured run
abbrev pub traced_or : ProgramImage → ℕ → Result Measured InputFault → Result Product InputFault
traced_or image period wanted = wanted >>= λ m. Ok (traced_of image period m)
