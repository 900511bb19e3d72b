use Rattle.std.proofs.Common.{sym, arith}
use Rattle.std.proofs.lemmas.Bool.Decides.{nat_tests}
use Rattle.elf_image.specs.Fields.{is_zero}
use Rattle.elf_image.proofs.Ends.{pol_at}
use Rattle.elf_image.proofs.string_table.zero_or_end.Goals as goal

pub returns-then-byte-eq0-clause-zero : goal.returns-then-byte-eq0-clause-zero
returns-then-byte-eq0-clause-zero c = sym (pol_at is_zero c.args.bytes.now c.loop-index.index 0 c.loop-index.invariant c.loop-index-test.true (grind (arith, nat_tests, c.if-byte-eq0.true)))
