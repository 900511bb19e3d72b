-- How many inlined subroutines are open.
use Rattle.std.proofs.Common.{◌≡◌, ℕ, ◌+◌, ◌<◌, ◌≤◌, Bool, true, false, cond, List, [], ◌∷◌, ◌++◌, length, take, drop, get_or, refl, sym, ap, ◌∙◌, subst, arith, length-append, length-take, length-drop}
use Rattle.std.specs.Prelude.{All, filter, count_by, sum_by, nat_lt, ◌&&◌, ◌||◌, ◌==◌}
use Rattle.std.proofs.lemmas.List.{get_or-take, get_or-drop, take_more, drop_more}
use Rattle.std.proofs.lemmas.List.Sums.{length-filter, sum_by-take-drop, sum_by-cons, sum_by_push}
use Rattle.std.proofs.lemmas.Bool.{lt-ltb, le-ltb, ltb-true, ne_eqb, eq-eqb, or_right}
use Rattle.prof_bytes.proofs.Tests.{and_false}
use Rattle.dwarf_info.specs.Units.{DebugInfo}
use Rattle.dwarf_info.specs.Subroutines.{Indexed, SubroutineEntry, indexed, is_inlined, is_item, item_entries, subroutine_entry}
use Rattle.dwarf_inline.specs.Nesting.{end_of, is_below, inlined_levels}
use Rattle.dwarf_inline.specs.Structure.{checked_item}
use Rattle.dwarf_inline.specs.private.Levels.{checked_entry, open_at, opened, is_open, AreOpen}
use Rattle.dwarf_inline.proofs.Lists.{any_default, count_same, count_none, count_filter}
use Rattle.dwarf_inline.proofs.Items.{Ascending, items_ascending}
use Rattle.dwarf_inline.proofs.KeptEntries.{nothing, Kept, kept_long, kept_at, item_kept}
use Rattle.dwarf_inline.proofs.CheckedItems.{entry_checked}

pub levels_are : (p : ℕ → Bool) (old kept new : List ℕ) (end n : ℕ) → n ≡ length new → new ≡ kept ++ end ∷ [] → kept ≡ filter p old → n ≡ count_by p old + 1
levels_are p old kept new end n is push filtered =
    is ∙ ap length push ∙ length-append kept (end ∷ []) ∙ ap (λ (k : ℕ). k + 1) (ap length filtered ∙ length-filter p old)

-- ---- one more item

later_only : (i j : ℕ) (old : List ℕ) → i ≤ j → open_at j (filter (λ end. nat_lt i end) old) ≡ open_at j old
later_only i j old le =
    count_filter (λ end. nat_lt i end) (λ end. nat_lt j end) old (λ end later. let far : j < end = ltb-true j end later in lt-ltb i end (omega arith))

abbrev one_if : Bool → ℕ
one_if b = cond b 1 0

counts_one : (info : DebugInfo) (j : ℕ) (item : Indexed) (end : ℕ) (b : Bool) → is_inlined item.1 ≡ b → end ≡ end_of info item
    → cond b (one_if (nat_lt j end)) 0 ≡ one_if (is_open info j item)
counts_one info j item end true inlined is = rw (inlined, is) refl
counts_one info j item end false inlined is = rw (inlined) refl

opens : (j : ℕ) (item : Indexed) (end : ℕ) (old : List ℕ) (b : Bool) → is_inlined item.1 ≡ b → item.0 ≤ j
    → open_at j (opened (subroutine_entry item) end old) ≡ open_at j old + cond b (cond (nat_lt j end) 1 0) 0
opens j item end old true inlined le =
    ap (λ (t : Bool). open_at j (cond t (filter (λ other. nat_lt item.0 other) old ++ end ∷ []) old)) inlined
    ∙ sum_by_push (λ x. cond (nat_lt j x) 1 0) (filter (λ other. nat_lt item.0 other) old) end
    ∙ ap (λ (n : ℕ). n + cond (nat_lt j end) 1 0) (later_only item.0 j old le)
opens j item end old false inlined le =
    ap (λ (t : Bool). open_at j (cond t (filter (λ other. nat_lt item.0 other) old ++ end ∷ []) old)) inlined ∙ omega arith

pub opens_more : (info : DebugInfo) (items : List Indexed) (k : ℕ) (d : Indexed) (end : ℕ) (old new : List ℕ) → k < length items → end ≡ end_of info (get_or items k d)
    → AreOpen info (take k items) old → new ≡ opened (subroutine_entry (get_or items k d)) end old → AreOpen info (take (k + 1) items) new
opens_more info items k d end old new lt is so_far are = λ j seen.
    let item : Indexed = get_or items k d in
    let grown : take (k + 1) items ≡ take k items ++ item ∷ [] = take_more items k d lt in
    let low : item.0 ≤ j =
    subst (λ (e : Indexed). e.0 ≤ j) (get_or-take (k + 1) items k d (omega arith)) (seen k d (omega (arith, length-take (k + 1) items))) in
    let before : All (λ e. e.0 ≤ j) (take k items) =
    λ i e within. let near : i < k = omega (arith, length-take k items) in
    subst (λ (f : Indexed). f.0 ≤ j) (get_or-take (k + 1) items i e (omega arith) ∙ sym (get_or-take k items i e near)) (seen i e (omega (arith, length-take k items, length-take (k + 1) items))) in
    ap (open_at j) are ∙ opens j item end old (is_inlined item.1) refl low
    ∙ ap (λ (n : ℕ). n + cond (is_inlined item.1) (cond (nat_lt j end) 1 0) 0) (so_far j before)
    ∙ ap (λ (n : ℕ). count_by (is_open info j) (take k items) + n) (counts_one info j item end (is_inlined item.1) refl is)
    ∙ sym (sum_by_push (λ e. cond (is_open info j e) 1 0) (take k items) item)
    ∙ ap (count_by (is_open info j)) (sym grown)

-- ---- the levels of an item

abbrev encloses : DebugInfo → Indexed → Indexed → Bool
encloses info e f = is_inlined f.1 && (f.0 == e.0 || is_below info f e)

and_first : (a b : Bool) → (a && b) ≡ true → a ≡ true
and_first true b is = refl
and_first false b is = absurd cc

above : (info : DebugInfo) (e f : Indexed) → f.0 < e.0 → encloses info e f ≡ is_open info e.0 f
above info e f lt = rw (ne_eqb f.0 e.0 (λ same. omega arith), lt-ltb f.0 e.0 lt) refl

not_behind : (info : DebugInfo) (e f : Indexed) → e.0 < f.0 → encloses info e f ≡ false
not_behind info e f lt = rw (ne_eqb f.0 e.0 (λ same. omega arith), le-ltb f.0 e.0 (omega arith)) (and_false (is_inlined f.1))

itself : (info : DebugInfo) (e : Indexed) → is_inlined e.1 ≡ true → encloses info e e ≡ true
itself info e inlined = rw (inlined, eq-eqb e.0 e.0 refl) refl

among_items : (info : DebugInfo) (e : Indexed) → inlined_levels info e ≡ count_by (encloses info e) (item_entries info)
among_items info e =
    sym (count_filter (λ f. is_item f.1) (encloses info e) (indexed info)
    (λ f passes. or_right _ (is_inlined f.1) (and_first (is_inlined f.1) (f.0 == e.0 || is_below info f e) passes)))

levels_split : (info : DebugInfo) (items : List Indexed) (k : ℕ) (d : Indexed) → Ascending items → k < length items → is_inlined (get_or items k d).1 ≡ true
    → count_by (encloses info (get_or items k d)) items ≡ count_by (is_open info (get_or items k d).0) (take k items) + 1
levels_split info items k d up lt inlined =
    let e : Indexed = get_or items k d in
    let test : Indexed → ℕ = λ f. cond (encloses info e f) 1 0 in
    let rest : List Indexed = drop (k + 1) items in
    let front : count_by (encloses info e) (take k items) ≡ count_by (is_open info e.0) (take k items) =
    count_same (encloses info e) (is_open info e.0) (take k items) (λ i c within.
    let near : i < k = omega (arith, length-take k items) in
    let is : get_or (take k items) i c ≡ get_or items i d = get_or-take k items i c near ∙ any_default items i c d (omega arith) in
    subst (λ (f : Indexed). encloses info e f ≡ is_open info e.0 f) (sym is) (above info e (get_or items i d) (up i k d near lt))) in
    let none : count_by (encloses info e) rest ≡ 0 =
    count_none (encloses info e) rest (λ i c within.
    let far : k + 1 + i < length items = omega (arith, length-drop (k + 1) items) in
    let is : get_or rest i c ≡ get_or items (k + 1 + i) d = get_or-drop (k + 1) items i c ∙ any_default items (k + 1 + i) c d far in
    subst (λ (f : Indexed). encloses info e f ≡ false) (sym is) (not_behind info e (get_or items (k + 1 + i) d) (up k (k + 1 + i) d (omega arith) far))) in
    let here : sum_by test (drop k items) ≡ test e + sum_by test rest = ap (sum_by test) (drop_more items k d lt) ∙ sum_by-cons test e rest in
    let one : test e ≡ 1 = ap (λ (b : Bool). cond b 1 0) (itself info e inlined) in
    let all : sum_by test (take k items) + sum_by test (drop k items) ≡ sum_by test items = sum_by-take-drop test items k in
    omega arith

pub levels_now : (info : DebugInfo) (items : List Indexed) (k : ℕ) (d : Indexed) (ends : List ℕ) → items ≡ item_entries info → k < length items
    → AreOpen info (take k items) ends → is_inlined (get_or items k d).1 ≡ true
    → inlined_levels info (get_or items k d) ≡ open_at (get_or items k d).0 ends + 1
levels_now info items k d ends same lt open_ends inlined =
    let e : Indexed = get_or items k d in
    let up : Ascending items = subst Ascending (sym same) (items_ascending info) in
    let seen : All (λ f. f.0 ≤ e.0) (take k items) =
    λ i c within.
    let near : i < k = omega (arith, length-take k items) in
    let is : get_or (take k items) i c ≡ get_or items i d = get_or-take k items i c near ∙ any_default items i c d (omega arith) in
    let lower : (get_or items i d).0 < e.0 = up i k d near lt in
    subst (λ (f : Indexed). f.0 ≤ e.0) (sym is) (omega arith) in
    among_items info e ∙ ap (count_by (encloses info e)) (sym same) ∙ levels_split info items k d up lt inlined
    ∙ ap (λ (n : ℕ). n + 1) (sym (open_ends e.0 seen))

-- an item is checked by how many are open
told : (info : DebugInfo) (items : List SubroutineEntry) (k : ℕ) (d : SubroutineEntry) (ends : List ℕ) → Kept info items → k < length items
    → AreOpen info (take k (item_entries info)) ends
    → checked_entry info (get_or items k d) (open_at (get_or items k d).index ends + 1) ≡ checked_item info (get_or (item_entries info) k nothing)
told info items k d ends same lt open_ends =
    let e : Indexed = get_or (item_entries info) k nothing in
    let within : k < length (item_entries info) = omega (arith, kept_long info items same) in
    ap (λ (s : SubroutineEntry). checked_entry info s (open_at s.index ends + 1)) (kept_at info items k d same lt)
    ∙ entry_checked info e (open_at e.0 ends + 1) (λ inlined. levels_now info (item_entries info) k nothing ends refl within open_ends inlined)

pub opens_kept : (info : DebugInfo) (items : List SubroutineEntry) (k : ℕ) (item : SubroutineEntry) (end : ℕ) (old new : List ℕ) → Kept info items → k < length items → item ≡ get_or items k item
    → end ≡ end_of info (get_or (item_entries info) k nothing) → AreOpen info (take k (item_entries info)) old → new ≡ opened item end old
    → AreOpen info (take (k + 1) (item_entries info)) new
opens_kept info items k item end old new same lt read is so_far are =
    opens_more info (item_entries info) k nothing end old new (omega (arith, kept_long info items same)) is so_far
    (are ∙ ap (λ (s : SubroutineEntry). opened s end old) (item_kept info items k item same lt read))

-- the same of an entry of the same debug information
pub told_of : (info own : DebugInfo) (items : List SubroutineEntry) (k : ℕ) (item : SubroutineEntry) (ends : List ℕ) → own ≡ info → Kept info items → k < length items
    → item ≡ get_or items k item → AreOpen info (take k (item_entries info)) ends
    → checked_entry own item (open_at item.index ends + 1) ≡ checked_item info (get_or (item_entries info) k nothing)
told_of info own items k item ends one same lt is open_ends =
    ap (λ (i : DebugInfo). checked_entry i item (open_at item.index ends + 1)) one
    ∙ ap (λ (s : SubroutineEntry). checked_entry info s (open_at s.index ends + 1)) is ∙ told info items k item ends same lt open_ends
