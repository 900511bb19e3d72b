use Rattle.std.proofs.Common.{◌≡◌, ◌==◌, ◌+◌, ℕ, List, [], ◌∷◌, length, sym, ap, ◌∙◌, subst, arith, length-append}
use Rattle.std.specs.Prelude.{Option, Some}
use Rattle.dwarf_info.specs.Queries.{EntryAt}
use Rattle.dwarf_inline.specs.declared.details.Detail.{Detail}
use Rattle.dwarf_inline.specs.Structure.{counted_ranges}
use Rattle.dwarf_inline.specs.private.Details.{detail_of}
use Rattle.dwarf_inline.specs.private.Found.{AreKnown, HasFound, Store, all_ranges, store_of}
use Rattle.dwarf_inline.proofs.FoundRanges.{Added, added, all_counted, own_count}
use Rattle.dwarf_inline.proofs.details.add_item.Goals as goal

pub find_ranges-requires-clause-few : goal.find_ranges-requires-clause-few
find_ranges-requires-clause-few c = let few = c.requires.found.few in let places = c.requires.places in omega arith

pub find_ranges-requires-clause-known : goal.find_ranges-requires-clause-known
find_ranges-requires-clause-known c =
    subst (λ (e : EntryAt). AreKnown (store_of e.info.sections c.args.sources.image.now.segments c.args.lists.now.store) c.args.lists.now.store.known.lists.items) (sym c.requires.entry) c.requires.found.known

pub add_detail-requires-clause-first : goal.add_detail-requires-clause-first
add_detail-requires-clause-first c =
    let info = c.args.sources.info.now in
    let image = c.args.sources.image.now in
    let item = c.args.item.now in
    let f = c.in_ok-found.found in
    let is : c.detail_with-detail.result ≡ detail_of info c.args.sources.lines.now image f.at c.args.lists.now.total item =
    c.detail_with-detail.ensures item image (sym (ap (λ (e : EntryAt). e.index) c.requires.entry)) (sym c.is_inlined.ensures) c.in_ok-found.ensures.found.found.own.first (own_count _ f _ c.in_ok-found.ensures.found.found.own)
    ∙ ap (λ (e : EntryAt). detail_of e.info c.args.sources.lines.now image f.at c.args.lists.now.total item) c.requires.entry in
    ap (λ (e : Detail). e.first_range) is ∙ c.requires.found.total
    ∙ sym (all_counted (store_of info.sections image.segments c.args.lists.now.store) c.args.lists.now.details c.requires.found.found.there)

pub add_detail-requires-clause-small : goal.add_detail-requires-clause-small
add_detail-requires-clause-small c =
    let own = c.in_ok-found.ensures.found.found.own in
    let few = own.few in
    let is = c.detail_with-detail.ensures c.args.item.now c.args.sources.image.now (sym (ap (λ (e : EntryAt). e.index) c.requires.entry)) (sym c.is_inlined.ensures) own.first (own_count _ c.in_ok-found.found _ own) in
    let same : c.args.entry.now.index ≡ c.args.item.now.index = ap (λ (e : EntryAt). e.index) c.requires.entry in
    omega (
      arith,
      ap (λ (e : Detail). e.range_count) is,
      own_count _ c.in_ok-found.found _ own,
      ap (λ (n : ℕ). length (counted_ranges c.args.entry.now.info c.args.sources.image.now n)) same,
    )

pub returns-clause-added : goal.returns-clause-added
returns-clause-added c =
    let info = c.args.sources.info.now in
    let image = c.args.sources.image.now in
    let old = c.args.lists.now in
    let item = c.args.item.now in
    let f = c.in_ok-found.found in
    let own : List (ℕ × ℕ) = counted_ranges info image item.index in
    let s : Store = store_of info.sections image.segments old.store in
    let t : Store = store_of info.sections image.segments c.find_ranges.new.store in
    let has : HasFound info.sections image.segments old.store f own c.find_ranges.new.store =
    subst (λ (e : EntryAt). HasFound e.info.sections image.segments old.store f (counted_ranges e.info image e.index) c.find_ranges.new.store) c.requires.entry c.in_ok-found.ensures.found in
    let d : Detail = c.detail_with-detail.result in
    let is : d ≡ detail_of info c.args.sources.lines.now image f.at old.total item =
    c.detail_with-detail.ensures item image (sym (ap (λ (e : EntryAt). e.index) c.requires.entry)) (sym c.is_inlined.ensures) c.in_ok-found.ensures.found.found.own.first (own_count _ f _ c.in_ok-found.ensures.found.found.own)
    ∙ ap (λ (e : EntryAt). detail_of e.info c.args.sources.lines.now image f.at old.total item) c.requires.entry in
    let count : f.count ≡ length own = own_count t f own has.found.own in
    let g : Added s old.details own t c.add_detail.new.details =
    added s t old.details c.add_detail.new.details d f own c.in_ok-place.place (c.in_ok-place.place == length old.details) c.requires.found.found has.found
    (ap (λ (e : Detail). e.at) is) (ap (λ (e : Detail). e.range_count) is ∙ sym count) (ap (λ (e : Detail). e.first_range) is ∙ c.requires.found.total)
    c.in_ok-place.ensures.there c.in_ok-place.ensures.pushed in
    let joined : length (all_ranges t c.add_detail.new.details) ≡ length (all_ranges s old.details) + length own = ap length g.all ∙ length-append (all_ranges s old.details) own in
    let total = c.requires.found.total in
    record {
      found = record {
        found = g.found;
        total = omega arith;
        known = has.known;
        few = (let few = c.requires.found.few in let more = has.few in omega (arith, ap length c.in_ok-push.ensures.items, length-append old.places.items (c.in_ok-place.place ∷ [])));
      };
      ranges = g.all;
      total = omega arith;
    }

pub returns-clause-placed : goal.returns-clause-placed
returns-clause-placed c =
    let info = c.args.sources.info.now in
    let image = c.args.sources.image.now in
    let old = c.args.lists.now in
    let item = c.args.item.now in
    let f = c.in_ok-found.found in
    let is : c.detail_with-detail.result ≡ detail_of info c.args.sources.lines.now image f.at old.total item =
    c.detail_with-detail.ensures item image (sym (ap (λ (e : EntryAt). e.index) c.requires.entry)) (sym c.is_inlined.ensures) c.in_ok-found.ensures.found.found.own.first (own_count _ f _ c.in_ok-found.ensures.found.found.own)
    ∙ ap (λ (e : EntryAt). detail_of e.info c.args.sources.lines.now image f.at old.total item) c.requires.entry in (
      f.at,
      record {
        place = c.in_ok-place.place;
        pushed = c.in_ok-push.ensures.items;
        there = c.in_ok-place.ensures.there ∙ ap (λ (d : Detail). let o : Option Detail = Some d in o) is;
        keeps = c.in_ok-place.ensures.keeps;
        few = c.in_ok-place.ensures.few;
      },
    )
