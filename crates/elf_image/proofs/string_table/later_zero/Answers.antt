use Rattle.std.proofs.Common.{arith}
use Rattle.elf_image.proofs.Ends.{zero_at_end}
use Rattle.elf_image.proofs.string_table.later_zero.Goals as goal

pub returns-else-number-last : goal.returns-else-number-last
returns-else-number-last c = zero_at_end c.args.bytes.now _ (let le = c.if-number-last.false in omega arith)
