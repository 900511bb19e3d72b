-- Where the ranges of details are: some are kept, and of others it is kept where they come from. Details may share them.
use Rattle.std.specs.Prelude.{◌≡◌, ℕ, ◌+◌, ◌-◌, ◌^◌, ◌<◌, ◌≤◌, nat_lt, List, [], ◌∷◌, ◌++◌, length, take, drop, filter}
use Rattle.std.specs.Prelude.{slice_index_or, Bool, Option, Some, None, All, if◌then◌else◌}
use Rattle.std.specs.List.{flat_map}
use Rattle.address_ranges.specs.Ranges.{holds}
use Rattle.elf_image.specs.Image.{counts}
use Rattle.elf_image.specs.declared.part.Segment.{Segment}
use Rattle.dwarf_info.specs.declared.range_source.RangeSource.{RangeSource}
use Rattle.dwarf_info.specs.declared.range_source.RangeSource.TheVariants.{Single}
use Rattle.dwarf_info.specs.Ranges.{place_ranges}
use Rattle.dwarf_info.specs.Sections.{Sections, sections_of}
use Rattle.dwarf_inline.specs.declared.details.CallLine.TheVariants.{Nowhere}
use Rattle.dwarf_inline.specs.declared.details.Detail.{Detail}
use Rattle.dwarf_inline.specs.declared.details.RangeLists.{RangeLists}
use Rattle.dwarf_inline.specs.declared.found_ranges.FoundRanges.{FoundRanges}
use Rattle.dwarf_inline.specs.declared.found_ranges.KnownList.{KnownList}
use Rattle.dwarf_inline.specs.declared.found_ranges.RangeStore.{RangeStore}
use Rattle.dwarf_inline.specs.declared.item_ranges.RangesPlace.{RangesPlace}
use Rattle.dwarf_inline.specs.declared.item_ranges.RangesPlace.TheVariants.{Kept, Unkept}
use Rattle.dwarf_inline.specs.Sources.{counted_source}

-- ---- ranges that are there

-- a range, from its start up to its end, holds an address
abbrev pub range_holds : ℕ → ℕ × ℕ → Bool
range_holds address r = holds address (record { start = r.0; end = r.1 })

-- the ranges that are there and count
abbrev pub ranges_there : RangesPlace → List (ℕ × ℕ)
ranges_there (Kept ranges) = ranges.now
ranges_there (Unkept sections segments source) = counted_source (sections_of sections.now) segments.now source

-- ---- what is kept

-- the ranges that are kept, and where others come from: the sections are the program's, and so are the segments
pub record Store : Type 0 where
  pub sections : Sections
  pub segments : List Segment
  pub ranges : List (ℕ × ℕ)
  pub sources : List RangeSource

-- the place of the first source; lower places are those of ranges
abbrev pub first_source : ℕ
first_source = 2 ^ 31

-- the source that is read behind the end of a list
abbrev pub no_source : RangeSource
no_source = Single None

-- so many ranges at a place
abbrev pub ranges_at : Store → ℕ → ℕ → List (ℕ × ℕ)
ranges_at s at count =
    if nat_lt at first_source then take count (drop at s.ranges)
    else counted_source s.sections s.segments (slice_index_or s.sources (at - first_source) no_source)

-- so many ranges are there at a place
pub record IsThere (s : Store) (at n : ℕ) : Type 0 where
  pub kept : at < first_source → at + n ≤ length s.ranges
  pub again : first_source ≤ at → at - first_source < length s.sources
  pub count : length (ranges_at s at n) ≡ n

-- more ranges are kept, and more sources
abbrev pub grown : Store → List (ℕ × ℕ) → List RangeSource → Store
grown s ranges sources = record {
  sections = s.sections;
  segments = s.segments;
  ranges = s.ranges ++ ranges;
  sources = s.sources ++ sources;
}

-- what is kept has grown
pub record Grows (s s' : Store) : Type 0 where
  pub ranges : List (ℕ × ℕ)
  pub sources : List RangeSource
  pub is : s' ≡ grown s ranges sources

-- ---- the ranges of an item

-- the start of the first range
abbrev pub first_start : List (ℕ × ℕ) → Option ℕ
first_start [] = None
first_start (r ∷ ranges) = Some r.0

-- these ranges were found
pub record IsOwn (s : Store) (f : FoundRanges) (rs : List (ℕ × ℕ)) : Type 0 where
  pub there : IsThere s f.at f.count
  pub ranges : ranges_at s f.at f.count ≡ rs
  pub first : f.first ≡ first_start rs
  pub few : f.count < 2 ^ 31

-- the ranges of a list that count were found
pub record IsKnown (s : Store) (l : KnownList) : Type 0 where
  pub list : List (ℕ × ℕ)
  pub read : place_ranges s.sections l.place ≡ Some list
  pub own : IsOwn s l.found (filter (λ r. counts s.segments r.0 r.1) list)

-- the ranges of lists that count were found
abbrev pub AreKnown : Store → List KnownList → Type 0
AreKnown s lists = All (IsKnown s) lists

-- ---- the ranges of details

-- the detail that is read behind the end of a list
abbrev pub no_detail : Detail
no_detail = record { first_range = 0; call = Nowhere; range_count = 0; at = 0 }

-- the detail with an index
abbrev pub detail_at : List Detail → ℕ → Detail
detail_at details k = slice_index_or details k no_detail

-- the ranges of a detail
abbrev pub own_ranges : Store → Detail → List (ℕ × ℕ)
own_ranges s d = ranges_at s d.at d.range_count

-- the ranges of all details
abbrev pub all_ranges : Store → List Detail → List (ℕ × ℕ)
all_ranges s details = flat_map (own_ranges s) details

-- the ranges of each detail are there, and behind those of the details before
pub record AreFound (s : Store) (details : List Detail) : Type 0 where
  pub there : (k : ℕ) → k < length details → IsThere s (detail_at details k).at (detail_at details k).range_count
  pub first : (k : ℕ) → k < length details → (detail_at details k).first_range ≡ length (all_ranges s (take k details))

-- ---- lists that grow

-- ranges and sources of a program
abbrev pub stored : Sections → List Segment → List (ℕ × ℕ) → List RangeSource → Store
stored sections segments ranges sources =
    record { sections = sections; segments = segments; ranges = ranges; sources = sources }

-- what is kept of a program
abbrev pub store_of : Sections → List Segment → RangeStore → Store
store_of sections segments r = stored sections segments r.ranges.items r.sources.items

-- ranges were stored, and found
pub record IsStored (s : Store) (f : FoundRanges) (rs : List (ℕ × ℕ)) (s' : Store) : Type 0 where
  pub grows : Grows s s'
  pub own : IsOwn s' f rs

-- the ranges of an item were found, and the lists that are known still are
pub record HasFound (sections : Sections) (segments : List Segment) (r : RangeStore) (f : FoundRanges)
    (own : List (ℕ × ℕ)) (r' : RangeStore) : Type 0 where
  pub found : IsStored (store_of sections segments r) f own (store_of sections segments r')
  pub known : AreKnown (store_of sections segments r') r'.known.lists.items
  pub few : length r'.sources.items ≤ length r.sources.items + 1

-- the ranges of lists are found, and counted, and so are those of the lists that are known
pub record IsFound (sections : Sections) (segments : List Segment) (l : RangeLists) : Type 0 where
  pub found : AreFound (store_of sections segments l.store) l.details
  pub total : l.total ≡ length (all_ranges (store_of sections segments l.store) l.details)
  pub known : AreKnown (store_of sections segments l.store) l.store.known.lists.items
  pub few : length l.store.sources.items ≤ length l.places.items

-- the ranges of one more item were added
pub record IsAdded (sections : Sections) (segments : List Segment) (l : RangeLists) (own : List (ℕ × ℕ))
    (l' : RangeLists) : Type 0 where
  pub found : IsFound sections segments l'
  pub ranges : all_ranges (store_of sections segments l'.store) l'.details
      ≡ all_ranges (store_of sections segments l.store) l.details ++ own
  pub total : l'.total < l.total + 2 ^ 32
