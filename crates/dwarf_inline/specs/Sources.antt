-- The ranges of items that are kept, and those that are read again from where they come from.
use Rattle.std.specs.Prelude.{ℕ, List, filter}
use Rattle.elf_image.specs.Image.{counts}
use Rattle.elf_image.specs.declared.part.Segment.{Segment}
use Rattle.dwarf_info.specs.declared.range_source.RangeSource.{RangeSource}
use Rattle.dwarf_info.specs.Ranges.{source_ranges}
use Rattle.dwarf_info.specs.Sections.{Sections}
use Rattle.dwarf_inline.specs.declared.item_ranges.ItemRanges.{ItemRanges}
use Rattle.dwarf_inline.specs.declared.item_ranges.ItemRanges.TheVariants.{Kept, Again}

-- the ranges that come from there and count
abbrev pub counted_source : Sections → List Segment → RangeSource → List (ℕ × ℕ)
counted_source sections segments source = filter (λ r. counts segments r.0 r.1) (source_ranges sections source)

-- the ranges that are lent, or that were read again
abbrev pub ranges_in : ItemRanges → List (ℕ × ℕ)
ranges_in (Kept ranges) = ranges.now
ranges_in (Again ranges) = ranges.items
