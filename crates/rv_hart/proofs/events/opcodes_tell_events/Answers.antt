use Rattle.rv_hart.proofs.Opcodes.{opcode-tells}
use Rattle.rv_hart.proofs.events.opcodes_tell_events.Goals as goal

pub returns : goal.returns
returns c word s other = opcode-tells word s other
