-- The items of debug information are in the order of their indices.
use Rattle.std.proofs.Common.{◌≡◌, ℕ, ◌+◌, ◌<◌, ◌≤◌, Bool, true, cond, List, [], ◌∷◌, ◌++◌, length, take, drop, map, get_or, inl, inr, refl, sym, ap, ◌∙◌, subst, arith, zero-add, length-take, length-drop}
use Rattle.std.specs.Prelude.{All, AllPairs, filter, count_by, sum_by, slice_get, Some, nat_lt}
use Rattle.std.specs.List.{enumerate_from, flat_map, prefix_len, take_while}
use Rattle.std.proofs.lemmas.List.Folds.{length-prefix_len}
use Rattle.std.proofs.Math.ListN.{get_or-map}
use Rattle.std.proofs.lemmas.List.{get_or-take, get_or-drop, take-append-drop, append-nil, take-map, drop-map, length-map}
use Rattle.std.proofs.lemmas.List.Elements.{All-filter, All-get_or, filter_passes, filter-append}
use Rattle.std.proofs.lemmas.List.Kept.{AllPairs-filter}
use Rattle.std.proofs.lemmas.List.FromFn.{length-enumerate_from, get_or-enumerate_from}
use Rattle.std.proofs.lemmas.List.Sums.{length-filter, count_by_more_yes, sum_by-take-le}
use Rattle.std.proofs.lemmas.List.Concat.{length-flat_map}
use Rattle.std.proofs.lemmas.Option.{slice_get-get_or, slice_get_within, get_or_from_slice_get}
use Rattle.std.proofs.lemmas.Bool.{lt-ltb, le-ltb, cases_lt}
use Rattle.elf_image.specs.Image.{ProgramImage}
use Rattle.dwarf_info.specs.declared.entry.InfoEntry.{InfoEntry}
use Rattle.dwarf_info.specs.Units.{DebugInfo}
use Rattle.dwarf_info.specs.Subroutines.{Indexed, indexed, is_item, item_entries}
use Rattle.dwarf_inline.specs.Nesting.{end_of, items_before, item_after}
use Rattle.dwarf_inline.specs.Structure.{counted_ranges, ranges_before}
use Rattle.dwarf_inline.specs.private.Ends.{depths_of, entry_end, AreEndsFrom}
use Rattle.dwarf_inline.proofs.Lists.{any_default, filter_all, filter_none, filter_swap, count_map, count_grows}
use Rattle.dwarf_inline.proofs.EntryEnds.{end_behind, deeper_within, jumps}

abbrev pub Ascending : List Indexed → Type 0
Ascending xs = AllPairs (λ e f. e.0 < f.0) xs

numbered : (xs : List InfoEntry) (k : ℕ) (d : Indexed) → k < length (enumerate_from 0 xs) → get_or (enumerate_from 0 xs) k d ≡ (k, get_or xs k d.1)
numbered xs k d lt =
    get_or-enumerate_from 0 xs k d (omega (arith, length-enumerate_from 0 xs))
    ∙ ap (λ (n : ℕ). let e : Indexed = (n, get_or xs k d.1) in e) (zero-add k)

all_there : (xs : List InfoEntry) → All (λ e. slice_get xs e.0 ≡ Some e.1) (enumerate_from 0 xs)
all_there xs = λ k d lt.
    subst (λ (e : Indexed). slice_get xs e.0 ≡ Some e.1) (sym (numbered xs k d lt)) (slice_get-get_or xs k d.1 (omega (arith, length-enumerate_from 0 xs)))

all_ascending : (xs : List InfoEntry) → Ascending (enumerate_from 0 xs)
all_ascending xs = λ i j d lt there.
    omega (arith, ap (λ (e : Indexed). e.0) (numbered xs i d (omega arith)), ap (λ (e : Indexed). e.0) (numbered xs j d there))

pub items_there : (info : DebugInfo) → All (λ e. slice_get info.entries e.0 ≡ Some e.1) (item_entries info)
items_there info = All-filter (λ e. is_item e.1) (λ e. slice_get info.entries e.0 ≡ Some e.1) (indexed info) (all_there info.entries)

pub items_ascending : (info : DebugInfo) → Ascending (item_entries info)
items_ascending info = AllPairs-filter (λ e f. e.0 < f.0) (λ e. is_item e.1) (indexed info) (all_ascending info.entries)

-- those before an element are those with lower indices
pub lower_first : (xs : List Indexed) (k : ℕ) (d : Indexed) → Ascending xs → k < length xs → filter (λ e. nat_lt e.0 (get_or xs k d).0) xs ≡ take k xs
lower_first xs k d up lt =
    let before : (i : ℕ) (e : Indexed) → i < k → (get_or xs i e).0 < (get_or xs k d).0 =
    λ i e near. subst (λ (f : Indexed). f.0 < (get_or xs k d).0) (any_default xs i d e (omega arith)) (up i k d near lt) in
    let behind : (i : ℕ) (e : Indexed) → k + i < length xs → (get_or xs k d).0 ≤ (get_or xs (k + i) e).0 =
    λ i e within. elim (cases_lt k (k + i)) [
      | inl later ↦ let more : (get_or xs k e).0 < (get_or xs (k + i) e).0 = up k (k + i) e later within in omega (arith, ap (λ (f : Indexed). f.0) (any_default xs k d e lt))
      | inr le ↦
          let same : k ≡ k + i = omega arith in
          omega (arith, ap (λ (f : Indexed). f.0) (any_default xs k d e lt), ap (λ (n : ℕ). (get_or xs n e).0) same)
    ] in
    let low : Indexed → Bool = λ e. nat_lt e.0 (get_or xs k d).0 in
    ap (filter low) (sym (take-append-drop k xs)) ∙ filter-append low (take k xs) (drop k xs)
    ∙ ap (λ ys. ys ++ filter low (drop k xs)) (filter_all low (take k xs) (λ i e within.
    let near : i < k = omega (arith, length-take k xs) in
    ap low (get_or-take k xs i e near) ∙ lt-ltb _ _ (before i e near)))
    ∙ ap (λ ys. take k xs ++ ys) (filter_none low (drop k xs) (λ i e within.
    ap low (get_or-drop k xs i e) ∙ le-ltb _ _ (behind i e (omega (arith, length-drop k xs)))))
    ∙ append-nil (take k xs)

-- ---- an item by its number

pub item_there : (info : DebugInfo) (items : List Indexed) (k : ℕ) (d : Indexed) → items ≡ item_entries info → k < length items
    → slice_get info.entries (get_or items k d).0 ≡ Some (get_or items k d).1
item_there info items k d same lt =
    All-get_or (λ e. slice_get info.entries e.0 ≡ Some e.1) items k d lt (subst (λ es. All (λ e. slice_get info.entries e.0 ≡ Some e.1) es) (sym same) (items_there info))

pub item_within : (info : DebugInfo) (items : List Indexed) (k : ℕ) (d : Indexed) → items ≡ item_entries info → k < length items
    → (get_or items k d).0 < length info.entries
item_within info items k d same lt = slice_get_within info.entries _ _ (item_there info items k d same lt)

depths_long : (info : DebugInfo) → length (depths_of info) ≡ length info.entries
depths_long info = length-map info.entries (λ (e : InfoEntry). e.depth)

pub end_there : (info : DebugInfo) (items : List Indexed) (ends : List ℕ) (k : ℕ) (d : Indexed) → items ≡ item_entries info → AreEndsFrom (depths_of info) 0 ends → k < length items
    → (get_or items k d).0 < length ends
end_there info items ends k d same are lt =
    let long : length ends ≡ length (depths_of info) = are.long in
    omega (arith, depths_long info, item_within info items k d same lt)

prefix_map : {X Y : Type 0} (p : Y → Bool) (f : X → Y) (xs : List X) → prefix_len p (map f xs) ≡ prefix_len (λ x. p (f x)) xs
prefix_map p f [] = refl
prefix_map p f (x ∷ xs) = ap (λ (n : ℕ). cond (p (f x)) (1 + n) 0) (prefix_map p f xs)

far_as : {X Y : Type 0} (p : Y → Bool) (f : X → Y) (xs : List X) → length (take_while p (map f xs)) ≡ length (take_while (λ x. p (f x)) xs)
far_as p f xs = length-prefix_len p (map f xs) ∙ prefix_map p f xs ∙ sym (length-prefix_len (λ x. p (f x)) xs)

end_of_is : (info : DebugInfo) (e : Indexed) → end_of info e ≡ entry_end (depths_of info) e.0 e.1.depth
unfolding entry_end
end_of_is info e =
    ap (λ (n : ℕ). e.0 + 1 + n) (sym (ap (λ (ds : List ℕ). length (take_while (nat_lt e.1.depth) ds)) (drop-map (λ (d : InfoEntry). d.depth) (e.0 + 1) info.entries)
    ∙ far_as (nat_lt e.1.depth) (λ (d : InfoEntry). d.depth) (drop (e.0 + 1) info.entries)))

-- its end
pub item_end : (info : DebugInfo) (items : List Indexed) (ends : List ℕ) (k : ℕ) (d : Indexed) → items ≡ item_entries info → AreEndsFrom (depths_of info) 0 ends → k < length items
    → get_or ends (get_or items k d).0 0 ≡ end_of info (get_or items k d)
item_end info items ends k d same are lt =
    let item : Indexed = get_or items k d in
    let is : get_or info.entries item.0 item.1 ≡ item.1 = get_or_from_slice_get info.entries item.0 item.1 item.1 (item_there info items k d same lt) in
    are.are item.0 item.1.depth (omega arith) (omega (arith, depths_long info, item_within info items k d same lt))
    ∙ ap (entry_end (depths_of info) item.0) (get_or-map (λ (e : InfoEntry). e.depth) info.entries item.0 item.1 ∙ ap (λ (e : InfoEntry). e.depth) is) ∙ sym (end_of_is info item)

pub item_end_behind : (info : DebugInfo) (e : Indexed) → e.0 < end_of info e
item_end_behind info e = omega (arith, end_of_is info e, end_behind (depths_of info) e.0 e.1.depth)

-- ---- the ranges of the items before one

pub ranges_so_far : (info : DebugInfo) (image : ProgramImage) (items : List Indexed) (k : ℕ) (d : Indexed) (ranges : List (ℕ × ℕ)) → items ≡ item_entries info → k < length items
    → ranges ≡ flat_map (λ e. counted_ranges info image e.0) (take k items) → length ranges ≡ ranges_before info image (get_or items k d).0
ranges_so_far info image items k d ranges same lt are =
    let up : Ascending items = subst Ascending (sym same) (items_ascending info) in
    let lower : filter (λ e. nat_lt e.0 (get_or items k d).0) items ≡ take k items = lower_first items k d up lt in
    ap length are ∙ length-flat_map (λ e. counted_ranges info image e.0) (take k items)
    ∙ ap (sum_by (λ e. length (counted_ranges info image e.0))) (sym lower ∙ ap (filter (λ e. nat_lt e.0 (get_or items k d).0)) same)

-- ---- numbers

abbrev passes : Indexed → Bool
passes e = is_item e.1

entries_are : (n : ℕ) (xs : List InfoEntry) → map (λ e. e.1) (enumerate_from n xs) ≡ xs
entries_are n [] = refl
entries_are n (x ∷ xs) = ap (λ ys. x ∷ ys) (entries_are (n + 1) xs)

counted : (info : DebugInfo) (i : ℕ) → items_before info i ≡ length (filter passes (take i (indexed info)))
counted info i =
    ap (λ (xs : List InfoEntry). count_by is_item (take i xs)) (sym (entries_are 0 info.entries))
    ∙ ap (count_by is_item) (take-map (λ (e : Indexed). e.1) i (indexed info))
    ∙ count_map is_item (λ (e : Indexed). e.1) (take i (indexed info)) ∙ sym (length-filter passes (take i (indexed info)))

-- as many items are before an item as its number says
pub number_is : (info : DebugInfo) (k : ℕ) (d : Indexed) → k < length (item_entries info) → items_before info (get_or (item_entries info) k d).0 ≡ k
number_is info k d lt =
    let items : List Indexed = item_entries info in
    let i : ℕ = (get_or items k d).0 in
    let there : i < length (indexed info) = omega (arith, item_within info items k d refl lt, length-enumerate_from 0 info.entries) in
    let own : (get_or (indexed info) i d).0 ≡ i = ap (λ (e : Indexed). e.0) (numbered info.entries i d there) in
    let low : Indexed → Bool = λ e. nat_lt e.0 i in
    let first : take i (indexed info) ≡ filter low (indexed info) =
    sym (lower_first (indexed info) i d (all_ascending info.entries) there) ∙ ap (λ (n : ℕ). filter (λ e. nat_lt e.0 n) (indexed info)) own in
    counted info i ∙ ap (λ es. length (filter passes es)) first ∙ ap length (filter_swap passes low (indexed info))
    ∙ ap length (lower_first items k d (items_ascending info) lt) ∙ omega (arith, length-take k items)

item_passes : (info : DebugInfo) (k : ℕ) (d : Indexed) → k < length (item_entries info) → is_item (get_or (item_entries info) k d).1 ≡ true
item_passes info k d lt = All-get_or (λ e. is_item e.1 ≡ true) (item_entries info) k d lt (filter_passes passes (indexed info))

all_counted : (info : DebugInfo) → count_by is_item info.entries ≡ length (item_entries info)
all_counted info =
    ap (count_by is_item) (sym (entries_are 0 info.entries)) ∙ count_map is_item (λ (e : Indexed). e.1) (indexed info) ∙ sym (length-filter passes (indexed info))

-- the first item after one has a higher number, or there is none
pub after_between : (info : DebugInfo) (k : ℕ) (d : Indexed) → k < length (item_entries info)
    → (k < item_after info (get_or (item_entries info) k d)) × (item_after info (get_or (item_entries info) k d) ≤ length (item_entries info))
after_between info k d lt =
    let item : Indexed = get_or (item_entries info) k d in
    let there : item.0 < length info.entries = item_within info (item_entries info) k d refl lt in
    let own : get_or info.entries item.0 item.1 ≡ item.1 = get_or_from_slice_get info.entries item.0 item.1 item.1 (item_there info (item_entries info) k d refl lt) in
    let passed : is_item (get_or info.entries item.0 item.1) ≡ true = ap is_item own ∙ item_passes info k d lt in
    let one : items_before info (item.0 + 1) ≡ items_before info item.0 + 1 = count_by_more_yes is_item info.entries item.0 item.1 there passed in
    let before : items_before info item.0 ≡ k = number_is info k d lt in
    let grown : items_before info (item.0 + 1) ≤ items_before info (end_of info item) = count_grows is_item (item.0 + 1) (end_of info item) info.entries (omega (arith, item_end_behind info item)) in
    let most : items_before info (end_of info item) ≤ count_by is_item info.entries = sum_by-take-le (λ e. cond (is_item e) 1 0) info.entries (end_of info item) in
    let all : count_by is_item info.entries ≡ length (item_entries info) = all_counted info in
    (omega arith, omega arith)

-- ---- the items after items

-- an item that begins where another ends, or behind, is not before the one after that
pub after_ends : (info : DebugInfo) (k j : ℕ) (d : Indexed) → j < length (item_entries info) → end_of info (get_or (item_entries info) k d) ≤ (get_or (item_entries info) j d).0
    → item_after info (get_or (item_entries info) k d) ≤ j
after_ends info k j d lt le =
    let grown : items_before info (end_of info (get_or (item_entries info) k d)) ≤ items_before info (get_or (item_entries info) j d).0 =
    count_grows is_item (end_of info (get_or (item_entries info) k d)) (get_or (item_entries info) j d).0 info.entries le in
    let at : items_before info (get_or (item_entries info) j d).0 ≡ j = number_is info j d lt in
    omega arith

-- a descendant ends no later
ends_inside : (info : DebugInfo) (k j : ℕ) (d : Indexed) → k < j → j < length (item_entries info)
    → (get_or (item_entries info) j d).0 < end_of info (get_or (item_entries info) k d) → end_of info (get_or (item_entries info) j d) ≤ end_of info (get_or (item_entries info) k d)
ends_inside info k j d lt there inside =
    let depths : List ℕ = depths_of info in
    let e : Indexed = get_or (item_entries info) k d in
    let f : Indexed = get_or (item_entries info) j d in
    let up : e.0 < f.0 = items_ascending info k j d lt there in
    let within : f.0 < length depths = omega (arith, depths_long info, item_within info (item_entries info) j d refl there) in
    let own : get_or info.entries f.0 f.1 ≡ f.1 = get_or_from_slice_get info.entries f.0 f.1 f.1 (item_there info (item_entries info) j d refl there) in
    let depth : get_or depths f.0 f.1.depth ≡ f.1.depth = get_or-map (λ (x : InfoEntry). x.depth) info.entries f.0 f.1 ∙ ap (λ (x : InfoEntry). x.depth) own in
    let covered : f.0 < entry_end depths e.0 e.1.depth = omega (arith, end_of_is info e) in
    let deep : e.1.depth < get_or depths f.0 f.1.depth = deeper_within depths e.0 e.1.depth f.0 f.1.depth up covered in
    let inner : entry_end depths f.0 (get_or depths f.0 f.1.depth) ≤ entry_end depths e.0 e.1.depth = jumps depths e.0 e.1.depth f.0 f.1.depth up within deep (omega arith) in
    let same : entry_end depths f.0 (get_or depths f.0 f.1.depth) ≡ entry_end depths f.0 f.1.depth = ap (entry_end depths f.0) depth in
    omega (arith, end_of_is info f, end_of_is info e)

pub after_inside : (info : DebugInfo) (k j : ℕ) (d : Indexed) → k < j → j < length (item_entries info)
    → (get_or (item_entries info) j d).0 < end_of info (get_or (item_entries info) k d) → item_after info (get_or (item_entries info) j d) ≤ item_after info (get_or (item_entries info) k d)
after_inside info k j d lt there inside =
    count_grows is_item (end_of info (get_or (item_entries info) j d)) (end_of info (get_or (item_entries info) k d)) info.entries (ends_inside info k j d lt there inside)
