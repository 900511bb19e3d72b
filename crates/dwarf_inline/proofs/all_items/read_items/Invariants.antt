use Rattle.std.proofs.Common.{◌≡◌, ◌≤◌, ◌*◌, ◌^◌, take, drop, map}
use Rattle.std.specs.List.{flat_map}
use Rattle.dwarf_info.specs.Subroutines.{item_entries}
use Rattle.dwarf_inline.specs.Links.{identity_offset}
use Rattle.dwarf_inline.specs.Structure.{checked_items, counted_ranges}
use Rattle.dwarf_inline.specs.private.Answers.{AreAnswers}
use Rattle.dwarf_inline.specs.private.Details.{ArePlaced}
use Rattle.dwarf_inline.specs.private.Found.{IsFound, all_ranges, store_of}
use Rattle.dwarf_inline.specs.private.Levels.{AreOpen}
use Rattle.dwarf_inline.specs.private.Names.{named_item, pair_of}
use Rattle.dwarf_inline.proofs.all_items.read_items.Given as goal

abbrev pub invariant-loop-item : goal.invariant-loop-item
invariant-loop-item l = record {
  checked : checked_items l.sources.info.now (drop l.item-index (item_entries l.sources.info.now)) ≡ checked_items l.sources.info.now (item_entries l.sources.info.now);
  offsets : l.identities.offsets.items ≡ map (λ e. identity_offset l.sources.info.now e.0) (take l.item-index (item_entries l.sources.info.now));
  names : map pair_of l.identities.names.items ≡ flat_map (named_item l.sources.info.now) (take l.item-index (item_entries l.sources.info.now));
  answers : AreAnswers l.sources.info.now l.long.answers;
  open_ends : AreOpen l.sources.info.now (take l.item-index (item_entries l.sources.info.now)) l.open_ends.items;
  placed : ArePlaced l.sources.info.now l.sources.lines.now l.sources.image.now l.item-index l.lists.places.items l.lists.details;
  found : IsFound l.sources.info.now.sections l.sources.image.now.segments l.lists;
  few : l.lists.total ≤ l.item-index * 2 ^ 32;
  ranges : all_ranges (store_of l.sources.info.now.sections l.sources.image.now.segments l.lists.store) l.lists.details ≡ flat_map (λ e. counted_ranges l.sources.info.now l.sources.image.now e.0) (take l.item-index (item_entries l.sources.info.now));
}
