-- A hart that goes from word to word by their indices among the words from an address on.
use Rattle.std.specs.Prelude.{ℕ, ◌+◌, ◌*◌, ◌%◌, ◌^◌}
use Rattle.rv_memory.specs.AddressSpace.{AddressSpace}
use Rattle.rv_hart.specs.declared.hart.Hart.{Hart}
use Rattle.rv_hart.specs.Step.{State, state}

-- the address of the word at an index
abbrev pub word_address : ℕ → ℕ → ℕ
word_address base index = (base + 4 * index) % 2 ^ 32

-- a hart at an index, and its memory: the hart's own pc does not change meanwhile
abbrev pub state_at : ℕ → ℕ → Hart → AddressSpace → State
state_at base index hart memory = state (word_address base index) hart.regs memory
