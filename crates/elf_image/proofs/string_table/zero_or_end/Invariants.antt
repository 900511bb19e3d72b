use Rattle.std.proofs.Common.{◌≡◌, take}
use Rattle.std.specs.List.{position_or_len}
use Rattle.elf_image.specs.Fields.{is_zero}
use Rattle.elf_image.proofs.string_table.zero_or_end.Given as goal

abbrev pub invariant-loop-index : goal.invariant-loop-index
invariant-loop-index l = position_or_len is_zero (take l.index l.bytes) ≡ l.index
