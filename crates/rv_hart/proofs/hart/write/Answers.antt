use Rattle.rv_hart.proofs.Zero.{written-zero}
use Rattle.rv_hart.proofs.hart.write.Goals as goal

pub returns-clause-registers : goal.returns-clause-registers
returns-clause-registers c = written-zero c.args.hart.now.regs c.args.number c.args.value c.args.hart.now.zero
