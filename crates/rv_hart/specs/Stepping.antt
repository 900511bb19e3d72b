-- One step of the code's hart.
use Rattle.rv_hart.specs.declared.hart.Hart.{Hart}
use Rattle.rv_memory.specs.AddressSpace.{AddressSpace}
use Rattle.rv_hart.specs.Step.{State, state}

-- a hart with the memory that it works on
abbrev pub state_of : Hart → AddressSpace → State
state_of hart memory = state hart.pc hart.regs memory
