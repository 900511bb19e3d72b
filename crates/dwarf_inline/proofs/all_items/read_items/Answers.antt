use Rattle.std.proofs.Common.{rules, ◌≡◌, ◌<◌, ℕ, List, refl, length, map, get_or, ap, subst, sym, ◌∙◌, arith, Result}
use Rattle.std.specs.Prelude.{option_to_list}
use Rattle.std.specs.List.{flat_map}
use Rattle.std.proofs.lemmas.List.{take_all}
use Rattle.prof_bytes.specs.Outcome.{FailsBy}
use Rattle.dwarf_info.specs.Queries.{EntryAt, entry_with}
use Rattle.dwarf_info.specs.Subroutines.{Indexed, item_entries}
use Rattle.dwarf_inline.specs.declared.fault.StructureFault.{StructureFault}
use Rattle.dwarf_inline.specs.Links.{identity, identity_offset, entry_offset}
use Rattle.dwarf_inline.specs.Structure.{checked_items, counted_ranges}
use Rattle.dwarf_inline.specs.private.Found.{all_ranges, store_of, stored}
use Rattle.dwarf_inline.specs.private.Names.{named, named_item}
use Rattle.dwarf_inline.proofs.KeptEntries.{nothing, kept_long, item_kept, item_index, item_offset, end_within_ends, end_is}
use Rattle.dwarf_inline.proofs.OpenLevels.{told_of, opens_kept}
use Rattle.dwarf_inline.proofs.CheckedItems.{passes_on, all_pass, fails_at, identity_by, one_more, some_more}
use Rattle.dwarf_inline.proofs.Items.{ranges_so_far}
use Rattle.dwarf_inline.proofs.DetailPlaces.{none_placed, one_placed}
use Rattle.dwarf_inline.proofs.FoundRanges.{none_found}
use Rattle.dwarf_inline.proofs.KeptAnswers.{answers_of}
use Rattle.dwarf_inline.proofs.Whole.{few_items}
use Rattle.dwarf_inline.proofs.all_items.read_items.Goals as goal

pub loop-item-init : goal.loop-item-init
loop-item-init c =
    let info = c.args.sources.info.now in
    let image = c.args.sources.image.now in
    let none = c.in_ok-lists.ensures.details in
    record {
      checked = search rules;
      offsets = search rules;
      names = search rules;
      answers = c.new-long.ensures info;
      open_ends = search rules;
      placed = rw (c.in_ok-lists.ensures.places, none) (none_placed info c.args.sources.lines.now image);
      found = record {
        found = rw none (none_found (stored info.sections image.segments c.in_ok-lists.lists.store.ranges.items c.in_ok-lists.lists.store.sources.items));
        total = rw none c.in_ok-lists.ensures.total;
        known = λ k d lt. absurd (let e = c.in_ok-lists.ensures.known in omega arith);
        few = rw c.in_ok-lists.ensures.sources (omega arith);
      };
      few = rw c.in_ok-lists.ensures.total (omega arith);
      ranges = rw none refl;
    }

pub bounds-ends-index : goal.bounds-ends-index
bounds-ends-index c = end_within_ends c.args.sources.info.now c.args.items.now c.args.ends.now c.loop-item.item-index c.index.result c.item-item.result c.requires.items c.requires.ends c.loop-item-test.true c.item-item.is c.index.ensures

pub entry_of-entry-requires : goal.entry_of-entry-requires
entry_of-entry-requires c = item_offset c.args.sources.info.now c.args.items.now c.loop-item.item-index c.item-item.result c.requires.items c.loop-item-test.true c.item-item.is

pub add_item-requires-clause-few : goal.add_item-requires-clause-few
add_item-requires-clause-few c =
    let few = c.loop-item.invariant.placed.few in
    let most = c.requires.few in
    omega (arith, c.loop-item-test.true, kept_long c.args.sources.info.now c.args.items.now c.requires.items, few_items c.args.sources.info.now)

pub add_item-requires-clause-places : goal.add_item-requires-clause-places
add_item-requires-clause-places c =
    let long = c.loop-item.invariant.placed.long in
    let most = c.requires.few in
    omega (arith, c.loop-item-test.true, kept_long c.args.sources.info.now c.args.items.now c.requires.items, few_items c.args.sources.info.now)

pub add_item-requires-clause-total : goal.add_item-requires-clause-total
add_item-requires-clause-total c =
    let few = c.loop-item.invariant.few in
    let most = c.requires.few in
    omega (arith, c.loop-item-test.true, kept_long c.args.sources.info.now c.args.items.now c.requires.items, few_items c.args.sources.info.now)

pub checked_item-requires-clause-item : goal.checked_item-requires-clause-item
checked_item-requires-clause-item c = ap (λ (e : EntryAt). e.index) c.entry_of-entry.ensures

pub checked_item-requires-clause-answers : goal.checked_item-requires-clause-answers
checked_item-requires-clause-answers c =
    answers_of c.args.sources.info.now c.entry_of-entry.result.info c.loop-item.long.answers (ap (λ (e : EntryAt). e.info) c.entry_of-entry.ensures) c.loop-item.invariant.answers

pub add_identity-requires : goal.add_identity-requires
add_identity-requires c =
    answers_of c.entry_of-entry.result.info c.in_ok-identity.identity.info c.checked_item.new.long.answers
    (ap (λ (e : EntryAt). e.info) c.in_ok-identity.ensures.identity) c.in_ok-identity.ensures.answers

pub returns-in_err-identity-clause-gives : goal.returns-in_err-identity-clause-gives
returns-in_err-identity-clause-gives c =
    let info = c.args.sources.info.now in
    let within : c.loop-item.item-index < length (item_entries info) = omega (arith, c.loop-item-test.true, kept_long info c.args.items.now c.requires.items) in
    let own : c.entry_of-entry.result.info ≡ info = ap (λ (e : EntryAt). e.info) c.entry_of-entry.ensures in
    let failed : FailsBy c.in_err-identity.field-0.0 (checked_items info (item_entries info)) =
    fails_at info (item_entries info) c.loop-item.item-index nothing c.in_err-identity.field-0.0 _ within
    (subst (λ (r : Result (Unit {0}) StructureFault). FailsBy c.in_err-identity.field-0.0 r)
    (told_of info c.entry_of-entry.result.info c.args.items.now c.loop-item.item-index c.item-item.result c.loop-item.open_ends.items own c.requires.items c.loop-item-test.true c.item-item.is c.loop-item.invariant.open_ends)
    c.in_err-identity.ensures.gives) c.loop-item.invariant.checked in
    search rules

pub loop-item-preserved : goal.loop-item-preserved
loop-item-preserved c =
    let info = c.args.sources.info.now in
    let image = c.args.sources.image.now in
    let within : c.loop-item.item-index < length (item_entries info) = omega (arith, c.loop-item-test.true, kept_long info c.args.items.now c.requires.items) in
    let own : c.entry_of-entry.result.info ≡ info = ap (λ (e : EntryAt). e.info) c.entry_of-entry.ensures in
    let same : c.in_ok-identity.identity ≡ entry_with info (identity info (get_or (item_entries info) c.loop-item.item-index nothing).0) =
    identity_by info _ _ _ _ own (item_index info c.args.items.now c.loop-item.item-index c.item-item.result c.requires.items c.loop-item-test.true c.item-item.is) c.in_ok-identity.ensures.identity in
    let before : List (ℕ × ℕ) = all_ranges (store_of info.sections image.segments c.loop-item.lists.store) c.loop-item.lists.details in
    record {
      checked = passes_on info (item_entries info) c.loop-item.item-index nothing _ within
          (sym (told_of info c.entry_of-entry.result.info c.args.items.now c.loop-item.item-index c.item-item.result c.loop-item.open_ends.items own c.requires.items c.loop-item-test.true c.item-item.is c.loop-item.invariant.open_ends)
          ∙ c.in_ok-identity.ensures.gives) c.loop-item.invariant.checked;
      offsets = one_more (λ (e : Indexed). identity_offset info e.0) (item_entries info) c.loop-item.item-index nothing _ c.loop-item.identities.offsets.items _ within
          (ap (λ (e : EntryAt). entry_offset e.info e.index) same) c.loop-item.invariant.offsets c.in_ok-add_identity.ensures.offsets;
      names = some_more (named_item info) (item_entries info) c.loop-item.item-index nothing _ _ _ within
          (ap (λ (e : EntryAt). option_to_list (named e.info e.index (entry_offset e.info e.index))) same) c.loop-item.invariant.names c.in_ok-add_identity.ensures.names;
      answers = answers_of c.in_ok-identity.identity.info info c.add_identity.new.long.answers (sym (ap (λ (e : EntryAt). e.info) same)) c.in_ok-add_identity.ensures.answers;
      open_ends = opens_kept info c.args.items.now c.loop-item.item-index c.item-item.result _ c.loop-item.open_ends.items _ c.requires.items c.loop-item-test.true c.item-item.is
          (end_is info c.args.items.now c.args.ends.now c.loop-item.item-index c.index.result c.item-item.result c.requires.items c.requires.ends c.loop-item-test.true c.item-item.is c.index.ensures)
          c.loop-item.invariant.open_ends c.in_ok-identity.ensures.opened;
      placed = one_placed info c.args.sources.lines.now image c.loop-item.item-index c.in_ok-add_item.ensures.placed.0 _ _ _ _ _ _ within c.loop-item.invariant.placed
          (c.loop-item.invariant.found.total ∙ ranges_so_far info image (item_entries info) c.loop-item.item-index nothing before refl within c.loop-item.invariant.ranges)
          (item_kept info c.args.items.now c.loop-item.item-index c.item-item.result c.requires.items c.loop-item-test.true c.item-item.is)
          c.in_ok-add_item.ensures.placed.1;
      found = c.in_ok-add_item.ensures.added.found;
      few = (let more = c.in_ok-add_item.ensures.added.total in let old = c.loop-item.invariant.few in omega arith);
      ranges = some_more (λ (e : Indexed). counted_ranges info image e.0) (item_entries info) c.loop-item.item-index nothing _ before _ within
          (ap (counted_ranges info image) (item_index info c.args.items.now c.loop-item.item-index c.item-item.result c.requires.items c.loop-item-test.true c.item-item.is))
          c.loop-item.invariant.ranges c.in_ok-add_item.ensures.added.ranges;
    }

pub returns-clause-gives : goal.returns-clause-gives
returns-clause-gives c =
    all_pass c.args.sources.info.now (item_entries c.args.sources.info.now) c.loop-item.item-index _
    (omega (arith, c.loop-item-test.false, kept_long c.args.sources.info.now c.args.items.now c.requires.items)) c.loop-item.invariant.checked

pub returns-clause-offsets : goal.returns-clause-offsets
returns-clause-offsets c =
    c.loop-item.invariant.offsets
    ∙ ap (map (λ (e : Indexed). identity_offset c.args.sources.info.now e.0)) (take_all c.loop-item.item-index (item_entries c.args.sources.info.now)
    (omega (arith, c.loop-item-test.false, kept_long c.args.sources.info.now c.args.items.now c.requires.items)))

pub returns-clause-names : goal.returns-clause-names
returns-clause-names c =
    c.loop-item.invariant.names
    ∙ ap (flat_map (named_item c.args.sources.info.now)) (take_all c.loop-item.item-index (item_entries c.args.sources.info.now)
    (omega (arith, c.loop-item-test.false, kept_long c.args.sources.info.now c.args.items.now c.requires.items)))

pub returns-clause-places : goal.returns-clause-places
returns-clause-places c =
    let same : c.loop-item.item-index ≡ length c.args.items.now = (let a = c.loop-item-test.false in let b = c.loop-item.auto in omega arith) in
    rw same at c.loop-item.invariant.placed

pub returns-clause-ranges : goal.returns-clause-ranges
returns-clause-ranges c =
    let info = c.args.sources.info.now in
    let image = c.args.sources.image.now in
    c.loop-item.invariant.ranges
    ∙ ap (flat_map (λ (e : Indexed). counted_ranges info image e.0)) (take_all c.loop-item.item-index (item_entries info)
    (omega (arith, c.loop-item-test.false, kept_long info c.args.items.now c.requires.items)))

pub returns-clause-short : goal.returns-clause-short
returns-clause-short c =
    let few = c.loop-item.invariant.few in
    let most = c.requires.few in
    let end = c.loop-item.auto in
    omega (arith, c.loop-item-test.false, kept_long c.args.sources.info.now c.args.items.now c.requires.items, few_items c.args.sources.info.now)
