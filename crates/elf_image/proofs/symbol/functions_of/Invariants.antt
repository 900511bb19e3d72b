use Rattle.std.proofs.Common.{◌≡◌, ◌+◌, ◌*◌, ◌<◌, ◌≤◌, ◌^◌, length, map}
use Rattle.std.specs.Prelude.{filter, All}
use Rattle.std.specs.List.{range_with_len}
use Rattle.elf_image.specs.Image.{symbol_view}
use Rattle.elf_image.specs.Headers.{symbol_entry, is_function, function_symbol}
use Rattle.elf_image.proofs.symbol.functions_of.Given as goal

abbrev pub invariant-loop-k : goal.invariant-loop-k
invariant-loop-k l = record {
  functions : map symbol_view l.all.items ≡ map (function_symbol l.file l.table) (filter (is_function l.loaded) (map (λ k. symbol_entry l.file (l.table.sh_offset + 16 * k)) (range_with_len 0 l.k)));
  fit : All (λ f. f.start + f.size < 2 ^ 32) (map symbol_view l.all.items);
  few : length l.all.items ≤ l.k;
}
