-- Many instructions of one hart, one after another.
use Rattle.std.specs.Prelude.{◌≡◌, ℕ, zero, suc, ◌<◌}
use Rattle.rv_hart.specs.declared.outcome.Stepped.TheVariants as stepped
use Rattle.rv_hart.specs.Step.{State, step_of}

-- the state after a given number of instructions
unfoldable pub after_steps : ℕ → State → State
after_steps zero s = s
after_steps (suc count) s = (step_of (after_steps count s)).0

-- a given number of instructions took a hart and its memory from one state to the other, and each of them retired
pub record Ran (count : ℕ) (from to : State) : Type 0 where
  pub state : to ≡ after_steps count from
  pub retired : (k : ℕ) → k < count → (step_of (after_steps k from)).1 ≡ stepped.Retired
