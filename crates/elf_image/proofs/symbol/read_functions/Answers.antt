use Rattle.std.proofs.Common.{sym, arith}
use Rattle.elf_image.proofs.Checked.{table_within}
use Rattle.elf_image.proofs.symbol.read_functions.Goals as goal

pub check_symbols-requires-clause-within : goal.check_symbols-requires-clause-within
check_symbols-requires-clause-within c some = let there = table_within c.args.file.now c.in-Some.table (sym c.in-Some.ensures) c.requires.checked some in omega arith

pub functions_of-requires-clause-within : goal.functions_of-requires-clause-within
functions_of-requires-clause-within c some = let there = table_within c.args.file.now c.in-Some.table (sym c.in-Some.ensures) c.requires.checked some in omega arith
