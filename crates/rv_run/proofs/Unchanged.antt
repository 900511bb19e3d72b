-- A machine after a step that does not retire.
use Rattle.std.proofs.Common.{◌≡◌, ℕ, List, refl, ap, ◌∙◌}
use Rattle.std.proofs.lemmas.List.{set-get_or}
use Rattle.rv_hart.specs.declared.outcome.Stepped.{Stepped}
use Rattle.rv_hart.specs.declared.outcome.Stepped.TheVariants as stepped
use Rattle.rv_hart.specs.Step.{State, step_of}
use Rattle.rv_hart.proofs.Unchanged.{Changes, step-changes}
use Rattle.rv_run.specs.State.{HartState, MachineState, hart_of, no_hart, step_state}
use Rattle.rv_run.specs.Run.{stepped_machine}

here_again : (hart : ℕ) (s : MachineState) (how : Stepped) (after : State) → after ≡ step_state (hart_of s hart) s.memory → stepped_machine hart (step_state (hart_of s hart) s.memory, how) s ≡ s → stepped_machine hart (after, how) s ≡ s
here_again hart s how after same at_once = ap (λ (a : State). stepped_machine hart (a, how) s) same ∙ at_once

-- a machine after a step that did not retire
pub step-same : (hart : ℕ) (s : MachineState) (after : State) (how : Stepped) → Changes (step_state (hart_of s hart) s.memory) after how → (how ≡ stepped.Retired → ⊥) → stepped_machine hart (after, how) s ≡ s
step-same hart s after stepped.Retired same other = absurd (other refl)
step-same hart s after stepped.Ecall same other = here_again hart s stepped.Ecall after same (ap (λ (hs : List HartState). record s { harts = hs }) (set-get_or s.harts hart no_hart))
step-same hart s after stepped.Break same other = here_again hart s stepped.Break after same (ap (λ (hs : List HartState). record s { harts = hs }) (set-get_or s.harts hart no_hart))
step-same hart s after (stepped.Trap why) same other = here_again hart s (stepped.Trap why) after same (ap (λ (hs : List HartState). record s { harts = hs }) (set-get_or s.harts hart no_hart))

pub not-retired : (hart : ℕ) (s : MachineState) → ((step_of (step_state (hart_of s hart) s.memory)).1 ≡ stepped.Retired → ⊥) → stepped_machine hart (step_of (step_state (hart_of s hart) s.memory)) s ≡ s
not-retired hart s other =
    let r : State × Stepped = step_of (step_state (hart_of s hart) s.memory) in
    step-same hart s r.0 r.1 (step-changes (step_state (hart_of s hart) s.memory)) other
