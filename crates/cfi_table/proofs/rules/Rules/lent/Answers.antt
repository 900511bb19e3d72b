use Rattle.std.proofs.Common.{arith}
use Rattle.cfi_table.proofs.Changed.{all_changed}
use Rattle.cfi_table.proofs.rules.Rules.lent.Goals as goal

pub of-requires : goal.of-requires
of-requires c = all_changed c.args.self.now.regs (omega arith)
