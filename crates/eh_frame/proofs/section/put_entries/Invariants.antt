use Rattle.std.proofs.Common.{◌≡◌, map, take}
use Rattle.std.specs.Prelude.{All, filter}
use Rattle.std.specs.List.{flat_map}
use Rattle.cfi_table.proofs.AllOk.{Reads}
use Rattle.eh_frame.specs.Entries.{is_eh_cie, entry_of}
use Rattle.eh_frame.specs.Translation.{block_of}
use Rattle.eh_frame.specs.private.Checked.{known_eh, seen_eh_cie, IsKnownEh}
use Rattle.eh_frame.proofs.section.put_entries.Given as goal

abbrev pub invariant-loop-extent : goal.invariant-loop-extent
invariant-loop-extent l = record {
  reads : Reads (entry_of l.section l.address l.extents) (flat_map (block_of l.base)) l.extents l.extent-index l.out.items;
  each : map seen_eh_cie l.cies.items ≡ map (known_eh l.section) (filter (is_eh_cie l.section) (take l.extent-index l.extents));
  are : All (IsKnownEh l.section l.address) l.cies.items;
}
