-- Items as they are kept of the entries.
use Rattle.std.proofs.Math.ListN.{set}
use Rattle.std.proofs.Common.{◌≡◌, ◌≢◌, ℕ, ◌+◌, ◌<◌, ◌≤◌, List, length, map, get_or, inl, inr, refl, sym, ap, ◌∙◌, subst, arith, get_or-set_other, get_or-set_same}
use Rattle.std.specs.Prelude.{option_map, slice_get, Option, Some}
use Rattle.std.proofs.lemmas.List.{length-map, get_or-map}
use Rattle.std.proofs.lemmas.Grind.{same_number_lists}
use Rattle.std.proofs.lemmas.Bool.{cases_lt}
use Rattle.dwarf_info.specs.declared.entry.InfoEntry.{InfoEntry}
use Rattle.dwarf_info.specs.Subroutines.{Indexed, SubroutineEntry, item_entries, subroutine_entry}
use Rattle.dwarf_info.specs.Units.{DebugInfo}
use Rattle.dwarf_inline.specs.Nesting.{end_of, item_after}
use Rattle.dwarf_inline.specs.private.Ends.{AreEndsFrom, AreAftersFrom, after_at, depths_of, end_at}
use Rattle.dwarf_inline.proofs.Items.{item_there, item_end, end_there, after_between, after_ends, after_inside}

-- what is read behind the end of a list
abbrev pub nothing : Indexed
nothing = (0, record { offset = 0; depth = 0; tag = 0; «unit» = 0 })

abbrev pub Kept : DebugInfo → List SubroutineEntry → Type 0
Kept info items = items ≡ map subroutine_entry (item_entries info)

pub kept_long : (info : DebugInfo) (items : List SubroutineEntry) → Kept info items → length items ≡ length (item_entries info)
kept_long info items same = ap length same ∙ length-map (item_entries info) subroutine_entry

pub kept_at : (info : DebugInfo) (items : List SubroutineEntry) (k : ℕ) (d : SubroutineEntry) → Kept info items → k < length items
    → get_or items k d ≡ subroutine_entry (get_or (item_entries info) k nothing)
kept_at info items k d same lt =
    ap (λ (es : List SubroutineEntry). get_or es k d) same ∙ get_or-map subroutine_entry (item_entries info) k nothing d (omega (arith, kept_long info items same))

pub kept_index : (info : DebugInfo) (items : List SubroutineEntry) (k : ℕ) (d : SubroutineEntry) → Kept info items → k < length items
    → (get_or items k d).index ≡ (get_or (item_entries info) k nothing).0
kept_index info items k d same lt = ap (λ (s : SubroutineEntry). s.index) (kept_at info items k d same lt)

pub kept_offset : (info : DebugInfo) (items : List SubroutineEntry) (k : ℕ) (d : SubroutineEntry) → Kept info items → k < length items
    → option_map (λ (e : InfoEntry). e.offset) (slice_get info.entries (get_or items k d).index) ≡ Some (get_or items k d).offset
kept_offset info items k d same lt =
    let e : Indexed = get_or (item_entries info) k nothing in
    let there : slice_get info.entries e.0 ≡ Some e.1 = item_there info (item_entries info) k nothing refl (omega (arith, kept_long info items same)) in
    subst (λ (s : SubroutineEntry). option_map (λ (e : InfoEntry). e.offset) (slice_get info.entries s.index) ≡ Some s.offset) (sym (kept_at info items k d same lt))
    (ap (λ (o : Option InfoEntry). option_map (λ (e : InfoEntry). e.offset) o) there)

-- ---- an item that was read

pub item_kept : (info : DebugInfo) (items : List SubroutineEntry) (k : ℕ) (item : SubroutineEntry) → Kept info items → k < length items → item ≡ get_or items k item
    → item ≡ subroutine_entry (get_or (item_entries info) k nothing)
item_kept info items k item same lt is = is ∙ kept_at info items k item same lt

pub item_offset : (info : DebugInfo) (items : List SubroutineEntry) (k : ℕ) (item : SubroutineEntry) → Kept info items → k < length items → item ≡ get_or items k item
    → option_map (λ (e : InfoEntry). e.offset) (slice_get info.entries item.index) ≡ Some item.offset
item_offset info items k item same lt is =
    subst (λ (s : SubroutineEntry). option_map (λ (e : InfoEntry). e.offset) (slice_get info.entries s.index) ≡ Some s.offset) (sym is) (kept_offset info items k item same lt)

pub item_index : (info : DebugInfo) (items : List SubroutineEntry) (k : ℕ) (item : SubroutineEntry) → Kept info items → k < length items → item ≡ get_or items k item
    → item.index ≡ (get_or (item_entries info) k nothing).0
item_index info items k item same lt is = ap (λ (s : SubroutineEntry). s.index) (item_kept info items k item same lt is)

-- ---- the item after one

pub end_within_ends : (info : DebugInfo) (items : List SubroutineEntry) (ends : List ℕ) (k index : ℕ) (item : SubroutineEntry) → Kept info items → AreEndsFrom (depths_of info) 0 ends → k < length items
    → item ≡ get_or items k item → index ≡ item.index → index < length ends
end_within_ends info items ends k index item same are lt is at =
    omega (arith, at, item_index info items k item same lt is, end_there info (item_entries info) ends k nothing refl are (omega (arith, kept_long info items same)))

pub end_is : (info : DebugInfo) (items : List SubroutineEntry) (ends : List ℕ) (k index : ℕ) (item : SubroutineEntry) → Kept info items → AreEndsFrom (depths_of info) 0 ends → k < length items
    → item ≡ get_or items k item → index ≡ item.index → get_or ends index 0 ≡ end_of info (get_or (item_entries info) k nothing)
end_is info items ends k index item same are lt is at =
    ap (λ (n : ℕ). get_or ends n 0) (at ∙ item_index info items k item same lt is)
    ∙ item_end info (item_entries info) ends k nothing refl are (omega (arith, kept_long info items same))

-- one step on among the items after one
pub after_step : (info : DebugInfo) (items : List SubroutineEntry) (afters : List ℕ) (k after end index : ℕ) (item : SubroutineEntry) → Kept info items → AreAftersFrom info (k + 1) afters
    → end ≡ end_at info k → k < after → after < length items → item ≡ get_or items after item → index ≡ item.index → index < end
    → (after < get_or afters after 0) × (get_or afters after 0 ≤ length items) × (get_or afters after 0 ≤ after_at info k)
after_step info items afters k after end index item same are end_is behind within is at inside =
    let long : length items ≡ length (item_entries info) = kept_long info items same in
    let near : after < length (item_entries info) = omega arith in
    let there = item_index info items after item same within is in
    let is : get_or afters after 0 ≡ after_at info after = are.are after (omega arith) near in
    let between = after_between info after nothing near in
    let first : after < after_at info after = between.0 in
    let last : after_at info after ≤ length (item_entries info) = between.1 in
    let inner : after_at info after ≤ after_at info k = after_inside info k after nothing behind near (omega arith) in
    (omega arith, omega arith, omega arith)

pub after_stops : (info : DebugInfo) (items : List SubroutineEntry) (k after end index : ℕ) (item : SubroutineEntry) → Kept info items → end ≡ end_at info k
    → after < length items → item ≡ get_or items after item → index ≡ item.index → end ≤ index → after ≤ after_at info k → after ≡ after_at info k
after_stops info items k after end index item same end_is within is at past covered =
    let there = item_index info items after item same within is in
    let most : after_at info k ≤ after = after_ends info k after nothing (omega (arith, kept_long info items same)) (omega arith) in
    omega arith

pub after_most : (info : DebugInfo) (items : List SubroutineEntry) (k : ℕ) → Kept info items → k < length items → (k < after_at info k) × (after_at info k ≤ length items)
after_most info items k same lt =
    let between = after_between info k nothing (omega (arith, kept_long info items same)) in
    let first : k < after_at info k = between.0 in
    let last : after_at info k ≤ length (item_entries info) = between.1 in
    (first, omega (arith, kept_long info items same))

-- one more of them, from the last to the first
pub one_more_after : (info : DebugInfo) (afters : List ℕ) (start k after : ℕ) → start ≡ k + 1 → k < length afters → AreAftersFrom info start afters
    → after ≡ after_at info k → AreAftersFrom info k (set afters k after)
one_more_after info afters start k after next room are is = record {
  are = λ j from there. elim (cases_lt k j) [
    | inl later ↦
        let ne : j ≢ k = omega arith in
        get_or-set_other afters k j after 0 ne ∙ are.are j (omega arith) there
    | inr le ↦
        let same : j ≡ k = omega arith in
        subst (λ (n : ℕ). get_or (set afters k after) n 0 ≡ after_at info n) (sym same) (get_or-set_same afters k after 0 room ∙ is)
  ];
}

-- all of them
pub all_afters : (info : DebugInfo) (items : List SubroutineEntry) (afters : List ℕ) → Kept info items → length afters ≡ length items → AreAftersFrom info 0 afters
    → afters ≡ map (item_after info) (item_entries info)
all_afters info items afters same long are =
    let whole : length afters ≡ length (item_entries info) = long ∙ kept_long info items same in
    same_number_lists afters (map (item_after info) (item_entries info)) (whole ∙ sym (length-map (item_entries info) (item_after info)))
    (λ k lt. are.are k (omega arith) (omega arith) ∙ sym (get_or-map (item_after info) (item_entries info) k nothing 0 (omega arith)))
