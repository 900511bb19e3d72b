use Rattle.std.proofs.Common.{◌≡◌, ◌+◌, ◌*◌, ◌&&◌, None}
use Rattle.std.specs.Prelude.{find, map, is_none}
use Rattle.std.specs.List.{range_with_len}
use Rattle.elf_image.specs.Fields.{string_in}
use Rattle.elf_image.specs.Headers.{symbol_entry, is_function}
use Rattle.elf_image.proofs.symbol.function_with_unterminated_name.Given as goal

abbrev pub invariant-loop-k : goal.invariant-loop-k
invariant-loop-k l = find (λ s. is_function l.loaded s && is_none (string_in l.names s.st_name)) (map (λ k. symbol_entry l.file (l.table.sh_offset + 16 * k)) (range_with_len 0 l.k)) ≡ None
