-- A structure that is kept as lists.
use Rattle.std.proofs.Common.{◌≡◌, ◌==◌, ℕ, ◌+◌, ◌-◌, ◌<◌, ◌≤◌, ◌^◌, take, drop, true, false, List, [], length, map, get_or, Option, Some, None, inl, inr, refl, sym, ap, ◌∙◌, subst, arith}
use Rattle.std.specs.Prelude.{find, slice_get, slice_range, unwrap_or, if◌then◌else◌}
use Rattle.std.specs.List.{flat_map, position_or_len}
use Rattle.std.specs.List.Sorted.{IsPermutation, IsNonDecreasingBy}
use Rattle.std.proofs.lemmas.List.{ext_get_or, get_or-map, length-map}
use Rattle.std.proofs.lemmas.List.Folds.{find_at}
use Rattle.std.proofs.lemmas.List.FromFn.{length-map-range_with_len, get_or-map-range_with_len}
use Rattle.std.proofs.lemmas.List.Sums.{passes_at_first}
use Rattle.std.proofs.lemmas.Bool.{cases_lt, eqb-true, eq-eqb}
use Rattle.std.proofs.lemmas.Option.{slice_get-get_or, slice_get_past, slice_get_within, get_or_from_slice_get}
use Rattle.elf_image.specs.Image.{ProgramImage}
use Rattle.elf_image.proofs.Checked.{find_none}
use Rattle.dwarf_info.specs.Subroutines.{Indexed, SubroutineEntry, is_inlined, item_entries, subroutine_entry}
use Rattle.dwarf_info.specs.Units.{DebugInfo}
use Rattle.dwarf_line.specs.Lines.{Lines}
use Rattle.scope_types.specs.declared.scope.LineId.{LineId}
use Rattle.scope_types.specs.declared.scope.LineId.TheVariants.{Row, Address}
use Rattle.dwarf_inline.specs.declared.subroutine.Subroutine.{Subroutine}
use Rattle.dwarf_inline.specs.declared.details.Detail.{Detail}
use Rattle.dwarf_inline.specs.declared.identities.ProcName.{ProcName}
use Rattle.dwarf_inline.specs.Links.{identity_offset, entry_name, unnamed}
use Rattle.dwarf_inline.specs.Nesting.{item_after}
use Rattle.dwarf_inline.specs.Structure.{ProgramStructure, call_at, proc_name, item_of, counted_ranges, ranges_before}
use Rattle.dwarf_inline.specs.private.Details.{ArePlaced, call_line, detail_of, line_id}
use Rattle.dwarf_inline.specs.private.Kept.{Lists, AreLists, made, item_at, store_in, structure_in, no_entry}
use Rattle.dwarf_inline.specs.private.Found.{AreFound, IsThere, all_ranges, detail_at, first_source, no_detail, no_source, own_ranges}
use Rattle.dwarf_info.specs.declared.range_source.RangeSource.{RangeSource}
use Rattle.dwarf_inline.specs.Sources.{counted_source}
use Rattle.dwarf_inline.proofs.FoundRanges.{high, low, own_part}
use Rattle.dwarf_inline.specs.private.Names.{Pair, pair_of, named_item, name_by}
use Rattle.dwarf_inline.proofs.KeptEntries.{nothing, Kept, kept_long, kept_at}
use Rattle.dwarf_inline.proofs.NameLists.{Ascend, IsNamed, looked, each_named, name_is}
use Rattle.dwarf_inline.proofs.Named.{named_at}
use Rattle.dwarf_inline.proofs.Whole.{built, is_built, made_whole}
use Rattle.dwarf_inline.proofs.Lists.{any_default}

-- ---- an item by its number

pub items_long : (l : Lists) → length (structure_in l).items ≡ length l.entries
items_long l = length-map-range_with_len (item_at l) 0 (length l.entries)

item_read : (l : Lists) (k : ℕ) (d : Subroutine) → k < length l.entries → get_or (structure_in l).items k d ≡ item_at l k
item_read l k d lt = get_or-map-range_with_len (item_at l) 0 (length l.entries) k k d lt (let e : 0 + k ≡ k = omega arith in e)

some_item : Subroutine → Option Subroutine
some_item i = Some i

pub item_found : (l : Lists) (k : ℕ) (item : Subroutine) → k < length l.entries → item_at l k ≡ item → slice_get (structure_in l).items k ≡ Some item
unfolding some_item
item_found l k item lt is =
    slice_get-get_or (structure_in l).items k item (omega (arith, items_long l))
    ∙ ap some_item (item_read l k item lt ∙ is)

pub item_told : (l : Lists) (k : ℕ) (entry : SubroutineEntry) (place : ℕ) (detail : Detail) (after identity : ℕ) → AreLists l → k < length l.entries
    → entry ≡ get_or l.entries k entry → place ≡ get_or l.places k place → detail ≡ get_or l.details place detail
    → after ≡ get_or l.afters k after → identity ≡ get_or l.identities k identity
    → slice_get (structure_in l).items k ≡ Some (made entry after identity detail)
item_told l k entry place detail after identity are lt is_entry is_place is_detail is_after is_identity =
    let afters : length l.afters ≡ length l.entries = are.afters in
    let identities : length l.identities ≡ length l.entries = are.identities in
    let places : length l.places ≡ length l.entries = are.places in
    let one : get_or l.entries k no_entry ≡ entry = any_default l.entries k no_entry entry lt ∙ sym is_entry in
    let two : get_or l.afters k 0 ≡ after = any_default l.afters k 0 after (omega arith) ∙ sym is_after in
    let three : get_or l.identities k 0 ≡ identity = any_default l.identities k 0 identity (omega arith) ∙ sym is_identity in
    let at : get_or l.places k 0 ≡ place = any_default l.places k 0 place (omega arith) ∙ sym is_place in
    let there : get_or l.places k 0 < length l.details = are.placed k lt in
    let four : get_or l.details (get_or l.places k 0) no_detail ≡ detail =
    any_default l.details (get_or l.places k 0) no_detail detail there ∙ ap (λ (n : ℕ). get_or l.details n detail) at ∙ sym is_detail in
    item_found l k (made entry after identity detail) lt (rw (one, two, three, four) refl)

-- ---- the ranges of an item

pub place_there : (l : Lists) (k place : ℕ) → AreLists l → k < length l.entries → place ≡ get_or l.places k place → place < length l.details
place_there l k place are lt is_place =
    let places : length l.places ≡ length l.entries = are.places in
    let at : get_or l.places k 0 ≡ place = any_default l.places k 0 place (omega arith) ∙ sym is_place in
    let there : get_or l.places k 0 < length l.details = are.placed k lt in
    omega arith

detail_is : (l : Lists) (k place : ℕ) (detail : Detail) → AreLists l → k < length l.entries → place ≡ get_or l.places k place → detail ≡ get_or l.details place detail
    → detail_at l.details (get_or l.places k 0) ≡ detail
detail_is l k place detail are lt is_place is_detail =
    let places : length l.places ≡ length l.entries = are.places in
    let at : get_or l.places k 0 ≡ place = any_default l.places k 0 place (omega arith) ∙ sym is_place in
    ap (detail_at l.details) at ∙ any_default l.details place no_detail detail (place_there l k place are lt is_place) ∙ sym is_detail

-- the ranges of an item's detail are there
pub detail_there : (l : Lists) (k place : ℕ) (detail : Detail) → AreLists l → k < length l.entries → place ≡ get_or l.places k place → detail ≡ get_or l.details place detail
    → IsThere (store_in l) detail.at detail.range_count
detail_there l k place detail are lt is_place is_detail =
    subst (λ (d : Detail). IsThere (store_in l) d.at d.range_count) (detail_is l k place detail are lt is_place is_detail) (are.found.there (get_or l.places k 0) (are.placed k lt))

-- the ranges of an item are those of its detail
part_of : (l : Lists) (k place : ℕ) (item : Subroutine) (detail : Detail) → AreLists l → k < length l.entries → slice_get (structure_in l).items k ≡ Some item
    → place ≡ get_or l.places k place → detail ≡ get_or l.details place detail → own_ranges (store_in l) detail ≡ take item.range_count (drop item.first_range (structure_in l).ranges)
part_of l k place item detail are lt is is_place is_detail =
    let own : item ≡ item_at l k = sym (get_or_from_slice_get (structure_in l).items k item (item_at l k) is) ∙ item_read l k (item_at l k) lt in
    ap (own_ranges (store_in l)) (sym (detail_is l k place detail are lt is_place is_detail))
    ∙ sym (own_part (store_in l) l.details (get_or l.places k 0) are.found (are.placed k lt))
    ∙ ap (λ (i : Subroutine). take i.range_count (drop i.first_range (structure_in l).ranges)) (sym own)

pub kept_part : (l : Lists) (k place : ℕ) (item : Subroutine) (detail : Detail) → AreLists l → k < length l.entries → slice_get (structure_in l).items k ≡ Some item
    → place ≡ get_or l.places k place → detail ≡ get_or l.details place detail → detail.at < first_source
    → take detail.range_count (drop detail.at l.ranges) ≡ take item.range_count (drop item.first_range (structure_in l).ranges)
kept_part l k place item detail are lt is is_place is_detail less =
    rw (low detail.at less) at (part_of l k place item detail are lt is is_place is_detail)

pub again_part : (l : Lists) (k place at : ℕ) (item : Subroutine) (detail : Detail) (source : RangeSource) → AreLists l → k < length l.entries → slice_get (structure_in l).items k ≡ Some item
    → place ≡ get_or l.places k place → detail ≡ get_or l.details place detail → first_source ≤ detail.at → at ≡ detail.at - first_source → source ≡ get_or l.sources at source
    → counted_source l.sections l.segments source ≡ take item.range_count (drop item.first_range (structure_in l).ranges)
again_part l k place at item detail source are lt is is_place is_detail ge back is_source =
    let there : detail.at - first_source < length l.sources = (detail_there l k place detail are lt is_place is_detail).again ge in
    let same : get_or l.sources (detail.at - first_source) no_source ≡ source = any_default l.sources (detail.at - first_source) no_source source there ∙ ap (λ (n : ℕ). get_or l.sources n source) (sym back) ∙ sym is_source in
    let part : counted_source l.sections l.segments (get_or l.sources (detail.at - first_source) no_source) ≡ take item.range_count (drop item.first_range (structure_in l).ranges) = rw (high detail.at ge) at (part_of l k place item detail are lt is is_place is_detail) in
    ap (counted_source l.sections l.segments) (sym same) ∙ part

pub sliced : {X : Type 0} (xs ys : List X) (first count : ℕ) → xs ≡ ys → slice_range xs first (first + count) ≡ take count (drop first ys)
sliced xs ys first count same =
    let long : first + count - first ≡ count = omega arith in
    rw (same, long) refl

-- ---- the name of a procedure

pub proc_named : (l : Lists) (offset : ℕ) → AreLists l → proc_name (structure_in l) offset ≡ name_by (map pair_of l.names) offset
proc_named l offset are =
    let s : ProgramStructure = structure_in l in
    let pairs : List Pair = map pair_of l.names in
    let at : ℕ = position_or_len (λ i. i.identity == offset) s.items in
    let first : proc_name s offset ≡ unwrap_or (slice_get s.names at) unnamed = named_at s offset are.whole.named in
    let long : length s.items ≡ length l.entries = items_long l in
    let names : length s.names ≡ length s.items = are.whole.named in
    let ids : length l.identities ≡ length l.entries = are.identities in
    elim (cases_lt at (length s.items)) [
      | inl lt ↦
          let item : Subroutine = get_or s.items at (item_at l at) in
          let own : item.identity ≡ offset = eqb-true _ _ (passes_at_first (λ i. i.identity == offset) s.items (item_at l at) lt) in
          let kept : item.identity ≡ get_or l.identities at 0 = ap (λ (i : Subroutine). i.identity) (item_read l at (item_at l at) (omega arith)) in
          first ∙ ap (λ (o : Option (List ℕ)). unwrap_or o unnamed) (slice_get-get_or s.names at [] (omega arith))
          ∙ get_or-map (name_by pairs) l.identities at 0 [] (omega arith)
          ∙ ap (name_by pairs) (sym kept ∙ own)
      | inr ge ↦
          let none : find (λ (i : Subroutine). i.identity == offset) s.items ≡ None = find_at (λ i. i.identity == offset) s.items ∙ slice_get_past s.items at ge in
          let past : proc_name s offset ≡ unnamed = first ∙ ap (λ (o : Option (List ℕ)). unwrap_or o unnamed) (slice_get_past s.names at (omega arith)) in
          elim (looked pairs offset) [
            | inl f ↦
                let k = are.known f.0 f.1 in
                let there : k.0 < length l.entries = omega (arith, k.1) in
                let is : get_or l.identities k.0 0 ≡ offset = sym (any_default l.identities k.0 f.0.0 0 k.1) ∙ k.2 ∙ f.2 in
                let no : (get_or s.items k.0 (item_at l k.0)).identity == offset ≡ false = find_none (λ i. i.identity == offset) s.items none k.0 (item_at l k.0) (omega arith) in
                let yes : (get_or s.items k.0 (item_at l k.0)).identity == offset ≡ true =
                eq-eqb _ _ (ap (λ (i : Subroutine). i.identity) (item_read l k.0 (item_at l k.0) there) ∙ is) in
                let e : false ≡ true = sym no ∙ yes in
                absurd cc
            | inr g ↦ past ∙ sym g.0
          ]
    ]

-- ---- what was made

-- the parts of a structure that is read
pub record IsRead (info : DebugInfo) (lines : Lines) (image : ProgramImage) (l : Lists) (old : List ProcName) : Type 0 where
  pub entries : Kept info l.entries
  pub afters : l.afters ≡ map (item_after info) (item_entries info)
  pub identities : l.identities ≡ map (λ e. identity_offset info e.0) (item_entries info)
  pub placed : ArePlaced info lines image (length l.entries) l.places l.details
  pub named : map pair_of old ≡ flat_map (named_item info) (item_entries info)
  pub moved : IsPermutation old l.names
  pub sorted : IsNonDecreasingBy (λ n. n.identity) l.names
  pub found : AreFound (store_in l) l.details
  pub ranges : all_ranges (store_in l) l.details ≡ flat_map (λ e. counted_ranges info image e.0) (item_entries info)
  pub ascend : Ascend info
  pub few : length info.entries < 2 ^ 31
  pub short : length (all_ranges (store_in l) l.details) < 2 ^ 63

line_same : (call : Option LineId) → line_id (call_line call) ≡ call
line_same None = refl
line_same (Some (Row table file line)) = refl
line_same (Some (Address address)) = refl

item_is : (info : DebugInfo) (lines : Lines) (image : ProgramImage) (l : Lists) (old : List ProcName) (k : ℕ) → IsRead info lines image l old → k < length l.entries
    → item_at l k ≡ item_of info lines image (get_or (item_entries info) k nothing)
item_is info lines image l old k r lt =
    let e : Indexed = get_or (item_entries info) k nothing in
    let long : length l.entries ≡ length (item_entries info) = kept_long info l.entries r.entries in
    let entry : get_or l.entries k no_entry ≡ subroutine_entry e = kept_at info l.entries k no_entry r.entries lt in
    let after : get_or l.afters k 0 ≡ item_after info e =
    ap (λ (xs : List ℕ). get_or xs k 0) r.afters ∙ get_or-map (item_after info) (item_entries info) k nothing 0 (omega arith) in
    let id : get_or l.identities k 0 ≡ identity_offset info e.0 =
    ap (λ (xs : List ℕ). get_or xs k 0) r.identities ∙ get_or-map (λ (f : Indexed). identity_offset info f.0) (item_entries info) k nothing 0 (omega arith) in
    let placed = r.placed.are k nothing lt in
    let detail : get_or l.details (get_or l.places k 0) no_detail ≡ detail_of info lines image placed.0 (ranges_before info image e.0) (subroutine_entry e) =
    get_or_from_slice_get l.details (get_or l.places k 0) _ no_detail placed.1 in
    rw (entry, after, id, detail, line_same (if is_inlined e.1 then call_at info lines e.0 (counted_ranges info image e.0) else None)) refl

items_are : (info : DebugInfo) (lines : Lines) (image : ProgramImage) (l : Lists) (old : List ProcName) → IsRead info lines image l old
    → (structure_in l).items ≡ map (item_of info lines image) (item_entries info)
items_are info lines image l old r =
    let long : length l.entries ≡ length (item_entries info) = kept_long info l.entries r.entries in
    let made_long : length (map (item_of info lines image) (item_entries info)) ≡ length (item_entries info) = length-map (item_entries info) (item_of info lines image) in
    let d : Subroutine = item_at l 0 in
    ext_get_or d (structure_in l).items (map (item_of info lines image) (item_entries info)) (items_long l ∙ long ∙ sym made_long)
    (λ k lt. let within : k < length l.entries = omega (arith, items_long l) in
    item_read l k d within ∙ item_is info lines image l old k r within
    ∙ sym (get_or-map (item_of info lines image) (item_entries info) k nothing d (omega arith)))

names_are : (info : DebugInfo) (lines : Lines) (image : ProgramImage) (l : Lists) (old : List ProcName) → IsRead info lines image l old
    → (structure_in l).names ≡ map (λ e. entry_name info e.0) (item_entries info)
names_are info lines image l old r =
    let pairs : List Pair = map pair_of l.names in
    let ids : length l.identities ≡ length (item_entries info) = ap length r.identities ∙ length-map (item_entries info) (λ (f : Indexed). identity_offset info f.0) in
    let one : length (map (name_by pairs) l.identities) ≡ length l.identities = length-map l.identities (name_by pairs) in
    let two : length (map (λ (e : Indexed). entry_name info e.0) (item_entries info)) ≡ length (item_entries info) = length-map (item_entries info) (λ (e : Indexed). entry_name info e.0) in
    ext_get_or [] (map (name_by pairs) l.identities) (map (λ (e : Indexed). entry_name info e.0) (item_entries info)) (one ∙ ids ∙ sym two)
    (λ k lt. let within : k < length (item_entries info) = omega arith in
    get_or-map (name_by pairs) l.identities k 0 [] (omega arith)
    ∙ ap (name_by pairs) (ap (λ (xs : List ℕ). get_or xs k 0) r.identities ∙ get_or-map (λ (f : Indexed). identity_offset info f.0) (item_entries info) k nothing 0 within)
    ∙ name_is info old l.names r.named r.moved r.ascend k within
    ∙ sym (get_or-map (λ (e : Indexed). entry_name info e.0) (item_entries info) k nothing [] within))

pub is_made : (info : DebugInfo) (lines : Lines) (image : ProgramImage) (l : Lists) (old : List ProcName) → IsRead info lines image l old → structure_in l ≡ built info lines image
is_made info lines image l old r = is_built info lines image (structure_in l).items (structure_in l).names (structure_in l).ranges (item_entries info) refl
    (items_are info lines image l old r) (names_are info lines image l old r) r.ranges

pub lists_are : (info : DebugInfo) (lines : Lines) (image : ProgramImage) (l : Lists) (old : List ProcName) → IsRead info lines image l old → AreLists l
lists_are info lines image l old r =
    let long : length l.entries ≡ length (item_entries info) = kept_long info l.entries r.entries in
    record {
      whole = made_whole info lines image (structure_in l).items (structure_in l).names (structure_in l).ranges (item_entries info) refl
          (items_are info lines image l old r) (names_are info lines image l old r) r.ranges r.few r.short;
      afters = ap length r.afters ∙ length-map (item_entries info) (item_after info) ∙ sym long;
      identities = ap length r.identities ∙ length-map (item_entries info) (λ (f : Indexed). identity_offset info f.0) ∙ sym long;
      places = r.placed.long;
      placed = λ k lt. slice_get_within l.details (get_or l.places k 0) _ (r.placed.are k nothing lt).1;
      found = r.found;
      sorted = r.sorted;
      known = λ p has.
          let n : IsNamed info p = each_named info old l.names r.named r.moved p has in
          let within : n.number < length l.identities = (let ids = ap length r.identities ∙ length-map (item_entries info) (λ (f : Indexed). identity_offset info f.0) in let w = n.within in omega arith) in (
            n.number,
            within,
            ap (λ (xs : List ℕ). get_or xs n.number p.0) r.identities
                ∙ get_or-map (λ (f : Indexed). identity_offset info f.0) (item_entries info) n.number nothing p.0 n.within ∙ sym n.offset,
          );
    }
