-- As much room as there are bytes is enough for the definitions that read entry by entry and instruction by
-- instruction.
use Rattle.std.specs.Prelude.{◌≡◌, ℕ, ◌≤◌, List, length, Option}
use Rattle.prof_bytes.specs.Reading.{left_of}
use Rattle.prof_bytes.specs.Fields.{Input}
use Rattle.cfi_table.specs.declared.fault.FrameFault.{FrameFault}
use Rattle.cfi_table.specs.declared.extent.ZeroLength.{ZeroLength}
use Rattle.cfi_table.specs.declared.instruction.AlignmentFactors.{AlignmentFactors}
use Rattle.cfi_table.specs.declared.rules.Rule.{Rule}
use Rattle.cfi_table.specs.Rules.{FrameState, execute, is_past, run_by, run_all}
use Rattle.cfi_table.specs.Entries.{chain_from}

-- with any larger room the entries are the same
abbrev pub EntriesHaveRoom : Type 0
EntriesHaveRoom = (z : ZeroLength) (room : ℕ) (input : Input FrameFault) → length (left_of input.at) ≤ room
    → chain_from z room input ≡ chain_from z (length (left_of input.at)) input

-- and so are the rules after instructions
abbrev pub InstructionsHaveRoom : Type 0
InstructionsHaveRoom = (room : ℕ) (limit : Option ℕ) (initial : List Rule) (factors : AlignmentFactors)
    (input : Input FrameFault) (s : FrameState)
    → length (left_of input.at) ≤ room → run_by (execute initial) (is_past limit) room factors input s
    ≡ run_all limit initial factors input s
