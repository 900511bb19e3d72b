-- What is so of every structure.
use Rattle.std.proofs.Common.{◌≡◌, ℕ, zero, suc, ◌+◌, ◌<◌, ◌≤◌, ◌^◌, Bool, true, false, List, [], ◌∷◌, length, take, map, get_or, Option, Some, None, Result, Ok, refl, sym, ap, ◌∙◌, subst, arith}
use Rattle.std.specs.Prelude.{All, slice_get, nat_lt, ◌&&◌}
use Rattle.std.specs.List.{flat_map}
use Rattle.std.proofs.lemmas.List.{length-map}
use Rattle.std.proofs.lemmas.List.Elements.{All-map, All-append, All-nil, All-weaker, filter_passes}
use Rattle.std.proofs.lemmas.List.Folds.{length-flat_map-take}
use Rattle.std.proofs.lemmas.List.FromFn.{length-enumerate_from}
use Rattle.std.proofs.lemmas.List.Sums.{length-filter, count_by-le-length}
use Rattle.std.proofs.lemmas.Option.{slice_get_within, slice_get-get_or, same_Some}
use Rattle.std.proofs.lemmas.Bool.{ltb-true}
use Rattle.prof_bytes.specs.Outcome.{◌>>=◌}
use Rattle.elf_image.specs.Image.{ProgramImage, counts}
use Rattle.dwarf_info.specs.Units.{DebugInfo}
use Rattle.dwarf_info.specs.Ranges.{ranges_of}
use Rattle.dwarf_line.specs.Lines.{Lines}
use Rattle.dwarf_inline.specs.declared.subroutine.Subroutine.{Subroutine}
use Rattle.dwarf_inline.specs.declared.fault.StructureFault.{StructureFault}
use Rattle.dwarf_info.specs.Subroutines.{Indexed, indexed, is_item, item_entries}
use Rattle.dwarf_inline.specs.Links.{entry_name}
use Rattle.dwarf_inline.specs.Nesting.{item_after}
use Rattle.dwarf_inline.specs.Structure.{ProgramStructure, IsWholeStructure, item_of, counted_ranges, ranges_before, checked_items, structure_of}
use Rattle.dwarf_inline.proofs.Items.{ranges_so_far, after_between}

abbrev pub built : DebugInfo → Lines → ProgramImage → ProgramStructure
built info lines image = record {
  items = map (item_of info lines image) (item_entries info);
  names = map (λ e. entry_name info e.0) (item_entries info);
  ranges = flat_map (λ e. counted_ranges info image e.0) (item_entries info);
}

pub few_items : (info : DebugInfo) → length (item_entries info) ≤ length info.entries
few_items info =
    omega (arith, length-filter (λ e. is_item e.1) (indexed info), count_by-le-length (λ e. is_item e.1) (indexed info), length-enumerate_from 0 info.entries)

and_left : (a b : Bool) → (a && b) ≡ true → a ≡ true
and_left true b is = refl
and_left false b is = absurd cc

some_counted : (info : DebugInfo) (image : ProgramImage) (i : ℕ) → All (λ r. r.0 < r.1) (counted_ranges info image i)
some_counted info image i =
    All-weaker (λ r. counts image.segments r.0 r.1 ≡ true) (λ r. r.0 < r.1)
    (λ r counted. ltb-true r.0 r.1 (and_left (nat_lt r.0 r.1) _ counted)) (counted_ranges info image i) (filter_passes (λ r. counts image.segments r.0 r.1) (ranges_of info i))

all_counted : (info : DebugInfo) (image : ProgramImage) (items : List Indexed) → All (λ r. r.0 < r.1) (flat_map (λ e. counted_ranges info image e.0) items)
all_counted info image [] = All-nil (λ r. r.0 < r.1)
all_counted info image (e ∷ items) =
    All-append (λ r. r.0 < r.1) (counted_ranges info image e.0) (flat_map (λ f. counted_ranges info image f.0) items) (some_counted info image e.0) (all_counted info image items)

all_placed : (info : DebugInfo) (lines : Lines) (image : ProgramImage)
    → All (λ e. ranges_before info image e.0 + length (counted_ranges info image e.0) ≤ length (flat_map (λ f. counted_ranges info image f.0) (item_entries info))) (item_entries info)
all_placed info lines image = λ k d lt.
    let all : Indexed → List (ℕ × ℕ) = λ e. counted_ranges info image e.0 in
    let first : length (flat_map all (take k (item_entries info))) ≡ ranges_before info image (get_or (item_entries info) k d).0 =
    ranges_so_far info image (item_entries info) k d (flat_map all (take k (item_entries info))) refl lt refl in
    let within : length (flat_map all (take k (item_entries info))) + length (all (get_or (item_entries info) k d)) ≤ length (flat_map all (item_entries info)) =
    length-flat_map-take all (item_entries info) k d lt in
    omega arith

mapped : {X Y : Type 0} (f : X → Y) (xs : List X) (k : ℕ) (y : Y) → slice_get (map f xs) k ≡ Some y → (x : X) × (slice_get xs k ≡ Some x) × (f x ≡ y)
mapped f [] k y is = absurd (no y is)
  where
    no : {Z : Type 0} (z : Z) → ◌≡◌ {A = Option Z} None (Some z) → ⊥
    no z e = cc
mapped f (x ∷ xs) zero y is = (x, refl, same_Some (f x) y is)
mapped f (x ∷ xs) (suc k) y is = mapped f xs k y is

all_after : (info : DebugInfo) (lines : Lines) (image : ProgramImage) (k : ℕ) (i : Subroutine) → slice_get (map (item_of info lines image) (item_entries info)) k ≡ Some i
    → (k < i.next_after_subtree) × (i.next_after_subtree ≤ length (map (item_of info lines image) (item_entries info)))
all_after info lines image k i is =
    let found = mapped (item_of info lines image) (item_entries info) k i is in
    let lt : k < length (item_entries info) = slice_get_within (item_entries info) k found.0 found.1 in
    let own : get_or (item_entries info) k found.0 ≡ found.0 = same_Some _ _ (sym (slice_get-get_or (item_entries info) k found.0 lt) ∙ found.1) in
    let same : item_after info (get_or (item_entries info) k found.0) ≡ i.next_after_subtree = ap (item_after info) own ∙ ap (λ (j : Subroutine). j.next_after_subtree) found.2 in
    let between = after_between info k found.0 lt in
    let low : k < item_after info (get_or (item_entries info) k found.0) = between.0 in
    let high : item_after info (get_or (item_entries info) k found.0) ≤ length (item_entries info) = between.1 in
    let long : length (map (item_of info lines image) (item_entries info)) ≡ length (item_entries info) = length-map (item_entries info) (item_of info lines image) in
    (omega arith, omega arith)

pub built_whole : (info : DebugInfo) (lines : Lines) (image : ProgramImage) → length info.entries < 2 ^ 31
    → length (flat_map (λ e. counted_ranges info image e.0) (item_entries info)) < 2 ^ 63 → IsWholeStructure (built info lines image)
built_whole info lines image few short = record {
  few = let least = few_items info in let long : length (map (item_of info lines image) (item_entries info)) ≡ length (item_entries info) = length-map (item_entries info) (item_of info lines image) in omega arith;
  short = short;
  named = length-map (item_entries info) (λ (e : Indexed). entry_name info e.0) ∙ sym (length-map (item_entries info) (item_of info lines image));
  placed = All-map (λ i. i.first_range + i.range_count ≤ length (flat_map (λ f. counted_ranges info image f.0) (item_entries info))) (item_of info lines image) (item_entries info) (all_placed info lines image);
  some = all_counted info image (item_entries info);
  after = all_after info lines image;
}

pub is_built : (info : DebugInfo) (lines : Lines) (image : ProgramImage) (items : List Subroutine) (names : List (List ℕ)) (ranges : List (ℕ × ℕ)) (entries : List Indexed) → entries ≡ item_entries info
    → items ≡ map (item_of info lines image) entries → names ≡ map (λ e. entry_name info e.0) entries
    → ranges ≡ flat_map (λ e. counted_ranges info image e.0) entries
    → let s : ProgramStructure = record { items = items; names = names; ranges = ranges } in s ≡ built info lines image
is_built info lines image items names ranges entries same one two three = rw (one, two, three, same) refl

pub structure_is : (info : DebugInfo) (lines : Lines) (image : ProgramImage) (entries : List Indexed) (s : ProgramStructure) → entries ≡ item_entries info → checked_items info entries ≡ Ok tt
    → s ≡ built info lines image → structure_of info lines image ≡ Ok s
unfolding structure_of
structure_is info lines image entries s same checked is =
    ap (λ (r : Result (Unit {0}) StructureFault). r >>= (λ u. let whole : Result ProgramStructure StructureFault = Ok (built info lines image) in whole)) (ap (checked_items info) (sym same) ∙ checked) ∙ ap Ok (sym is)

pub few_made : (info : DebugInfo) (lines : Lines) (image : ProgramImage) (entries : List Indexed) (items read : List Subroutine) → entries ≡ item_entries info
    → items ≡ map (item_of info lines image) entries → read ≡ items → length info.entries < 2 ^ 31 → length read < 2 ^ 31
few_made info lines image entries items read same made is few =
    let long : length read ≡ length (item_entries info) =
    ap length is ∙ ap length made ∙ length-map entries (item_of info lines image) ∙ ap length same in
    omega (arith, few_items info)

-- what was made is whole
pub made_whole : (info : DebugInfo) (lines : Lines) (image : ProgramImage) (items : List Subroutine) (names : List (List ℕ)) (ranges : List (ℕ × ℕ)) (entries : List Indexed)
    → entries ≡ item_entries info → items ≡ map (item_of info lines image) entries → names ≡ map (λ e. entry_name info e.0) entries
    → ranges ≡ flat_map (λ e. counted_ranges info image e.0) entries → length info.entries < 2 ^ 31 → length ranges < 2 ^ 63
    → IsWholeStructure (record { items = items; names = names; ranges = ranges })
made_whole info lines image items names ranges entries same one two three few short =
    subst IsWholeStructure (sym (is_built info lines image items names ranges entries same one two three))
    (built_whole info lines image few (subst (λ rs. length rs < 2 ^ 63) (three ∙ ap (flat_map (λ e. counted_ranges info image e.0)) same) short))
