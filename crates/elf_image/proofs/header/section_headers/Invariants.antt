use Rattle.std.proofs.Common.{◌≡◌, ◌+◌, ◌*◌, map}
use Rattle.std.specs.List.{range_with_len}
use Rattle.elf_image.specs.Headers.{section_header_at}
use Rattle.elf_image.proofs.header.section_headers.Given as goal

abbrev pub invariant-loop-k : goal.invariant-loop-k
invariant-loop-k l = l.headers.items ≡ map (λ k. section_header_at l.file (l.first + 40 * k)) (range_with_len 0 l.k)
