use Rattle.std.proofs.Common.{arith}
use Rattle.elf_image.proofs.Ends.{zero_at_end}
use Rattle.elf_image.proofs.string_table.ends_of.Goals as goal

pub loop-done-init : goal.loop-done-init
loop-done-init c = record {
  count = omega arith;
  next = zero_at_end c.args.bytes.now _ (omega arith);
  within = omega arith;
  each = λ j lt. absurd (omega arith);
}
