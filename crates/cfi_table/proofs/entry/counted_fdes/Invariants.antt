use Rattle.std.specs.Prelude.{All}
use Rattle.cfi_table.specs.private.Placed.{IsFdeIn}
use Rattle.std.specs.List.{filter_map}
use Rattle.cfi_table.specs.Entries.{read_entry}
use Rattle.cfi_table.specs.Frames.{counted_fde}
use Rattle.cfi_table.proofs.AllOk.{Reads}
use Rattle.cfi_table.proofs.entry.counted_fdes.Given as goal

abbrev pub invariant-loop-extent : goal.invariant-loop-extent
invariant-loop-extent l = record {
  reads : Reads (read_entry l.section l.extents) (filter_map (counted_fde l.image.segments)) l.extents l.extent-index l.fdes.items;
  within : All (IsFdeIn l.section) l.fdes.items;
}
