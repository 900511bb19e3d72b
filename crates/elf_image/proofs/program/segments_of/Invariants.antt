use Rattle.std.proofs.Common.{◌≡◌, map, take}
use Rattle.elf_image.specs.Headers.{segment_of}
use Rattle.elf_image.proofs.program.segments_of.Given as goal

abbrev pub invariant-loop-header : goal.invariant-loop-header
invariant-loop-header l = l.segments.items ≡ map segment_of (take l.header-index l.headers)
