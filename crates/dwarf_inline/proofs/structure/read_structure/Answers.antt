use Rattle.std.proofs.Common.{◌<◌, ◌^◌, ap, refl, subst, length, ℕ, arith}
use Rattle.dwarf_info.specs.Subroutines.{item_entries}
use Rattle.dwarf_inline.specs.private.Details.{ArePlaced}
use Rattle.dwarf_info.specs.Sections.{sections_of}
use Rattle.dwarf_inline.specs.private.Found.{all_ranges, store_of}
use Rattle.dwarf_inline.specs.private.Kept.{Lists, structure_in}
use Rattle.dwarf_inline.proofs.KeptLists.{IsRead, is_made, lists_are}
use Rattle.dwarf_inline.proofs.Whole.{structure_is}
use Rattle.dwarf_inline.proofs.structure.read_structure.Goals as goal

pub invariant_of-result : goal.invariant_of-result
invariant_of-result c =
    let info = c.args.info.now in
    let lines = c.args.lines.now in
    let image = c.args.image.now in
    let l : Lists = record { entries = c.in_ok-outline.outline.subroutines.items; afters = c.in_ok-afters.afters.items; identities = c.in_ok-items.items.identities.offsets.items; places = c.in_ok-items.items.lists.places.items; details = c.in_ok-items.items.lists.details; names = c.sort_names.new.names.items; ranges = c.in_ok-items.items.lists.store.ranges.items; sources = c.in_ok-items.items.lists.store.sources.items; sections = sections_of c.sections-sections.result; segments = c.in_ok-segments.segments } in
    let total = c.in_ok-items.ensures.found.total in
    let few = c.in_ok-items.ensures.short in
    let short : length (all_ranges (store_of info.sections image.segments c.in_ok-items.items.lists.store) l.details) < 2 ^ 63 = omega arith in
    let read : IsRead info lines image l c.in_ok-items.items.identities.names.items = record {
      entries = c.in_ok-outline.ensures.subroutines;
      afters = c.in_ok-afters.ensures;
      identities = c.in_ok-items.ensures.offsets;
      placed = subst (λ (n : ℕ). ArePlaced info lines image n c.in_ok-items.items.lists.places.items c.in_ok-items.items.lists.details) (ap length c.as_slice-3.ensures.value) c.in_ok-items.ensures.places;
      named = c.in_ok-items.ensures.names;
      moved = c.sort_names.ensures.same;
      sorted = c.sort_names.ensures.sorted;
      ranges = rw (c.sections-sections.ensures, c.in_ok-segments.ensures) c.in_ok-items.ensures.ranges;
      found = rw (c.sections-sections.ensures, c.in_ok-segments.ensures) c.in_ok-items.ensures.found.found;
      ascend = c.in_ok-outline.ensures.ascend;
      few = c.in_ok-outline.ensures.few;
      short = rw (c.sections-sections.ensures, c.in_ok-segments.ensures) short;
    } in
    lists_are info lines image l c.in_ok-items.items.identities.names.items read

pub returns : goal.returns
returns c =
    let info = c.args.info.now in
    let lines = c.args.lines.now in
    let image = c.args.image.now in
    let l : Lists = record { entries = c.in_ok-outline.outline.subroutines.items; afters = c.in_ok-afters.afters.items; identities = c.in_ok-items.items.identities.offsets.items; places = c.in_ok-items.items.lists.places.items; details = c.in_ok-items.items.lists.details; names = c.sort_names.new.names.items; ranges = c.in_ok-items.items.lists.store.ranges.items; sources = c.in_ok-items.items.lists.store.sources.items; sections = sections_of c.sections-sections.result; segments = c.in_ok-segments.segments } in
    let total = c.in_ok-items.ensures.found.total in
    let few = c.in_ok-items.ensures.short in
    let short : length (all_ranges (store_of info.sections image.segments c.in_ok-items.items.lists.store) l.details) < 2 ^ 63 = omega arith in
    let read : IsRead info lines image l c.in_ok-items.items.identities.names.items = record {
      entries = c.in_ok-outline.ensures.subroutines;
      afters = c.in_ok-afters.ensures;
      identities = c.in_ok-items.ensures.offsets;
      placed = subst (λ (n : ℕ). ArePlaced info lines image n c.in_ok-items.items.lists.places.items c.in_ok-items.items.lists.details) (ap length c.as_slice-3.ensures.value) c.in_ok-items.ensures.places;
      named = c.in_ok-items.ensures.names;
      moved = c.sort_names.ensures.same;
      sorted = c.sort_names.ensures.sorted;
      ranges = rw (c.sections-sections.ensures, c.in_ok-segments.ensures) c.in_ok-items.ensures.ranges;
      found = rw (c.sections-sections.ensures, c.in_ok-segments.ensures) c.in_ok-items.ensures.found.found;
      ascend = c.in_ok-outline.ensures.ascend;
      few = c.in_ok-outline.ensures.few;
      short = rw (c.sections-sections.ensures, c.in_ok-segments.ensures) short;
    } in
    structure_is info lines image (item_entries info) (structure_in l) refl c.in_ok-items.ensures.gives (is_made info lines image l c.in_ok-items.items.identities.names.items read)
