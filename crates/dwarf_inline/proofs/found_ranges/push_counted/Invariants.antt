use Rattle.std.proofs.Common.{◌≡◌, ◌++◌, take}
use Rattle.std.specs.Prelude.{filter}
use Rattle.elf_image.specs.Image.{counts}
use Rattle.dwarf_inline.proofs.found_ranges.push_counted.Given as goal

abbrev pub invariant-loop-range : goal.invariant-loop-range
invariant-loop-range l = l.ranges.items ≡ l.fn.ranges.items ++ filter (λ r. counts l.image.segments r.0 r.1) (take l.range-index l.all)
