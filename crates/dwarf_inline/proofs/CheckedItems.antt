-- The checks of items, gone through one by one.
use Rattle.std.proofs.Common.{◌≡◌, ℕ, ◌+◌, ◌<◌, ◌≤◌, Bool, true, false, refl, List, [], ◌∷◌, ◌++◌, length, take, drop, map, get_or, Result, Ok, sym, ap, ◌∙◌, subst}
use Rattle.std.specs.List.{flat_map}
use Rattle.std.proofs.lemmas.List.{append-nil, drop_more, drop_all, map_more, take_more}
use Rattle.std.proofs.lemmas.Grind.{flat_map-append}
use Rattle.prof_bytes.specs.declared.fail.Fail.{Fail}
use Rattle.prof_bytes.specs.declared.fail.Fail.TheVariants.{Fault, Memory}
use Rattle.prof_bytes.specs.Outcome.{FailsBy, ◌>>=◌}
use Rattle.dwarf_info.specs.Units.{DebugInfo}
use Rattle.dwarf_info.specs.Queries.{EntryAt, entry_with}
use Rattle.dwarf_inline.specs.declared.fault.StructureFault.{StructureFault}
use Rattle.dwarf_info.specs.Subroutines.{Indexed, is_inlined, subroutine_entry}
use Rattle.dwarf_inline.specs.Links.{identity}
use Rattle.dwarf_inline.specs.Nesting.{inlined_levels}
use Rattle.dwarf_inline.specs.private.Levels.{checked_entry}
use Rattle.dwarf_inline.specs.Structure.{checked_item, checked_items}

abbrev Checked : Type 0
Checked = Result (Unit {0}) StructureFault

next : (info : DebugInfo) (items : List Indexed) (k : ℕ) (d : Indexed) → k < length items
    → checked_items info (drop k items) ≡ checked_item info (get_or items k d) >>= (λ u. checked_items info (drop (k + 1) items))
unfolding checked_items
next info items k d lt = ap (checked_items info) (drop_more items k d lt)

pub passes_on : (info : DebugInfo) (items : List Indexed) (k : ℕ) (d : Indexed) (total : Checked) → k < length items → checked_item info (get_or items k d) ≡ Ok tt
    → checked_items info (drop k items) ≡ total → checked_items info (drop (k + 1) items) ≡ total
passes_on info items k d total lt good so_far =
    sym (next info items k d lt ∙ ap (λ (r : Checked). r >>= (λ u. checked_items info (drop (k + 1) items))) good) ∙ so_far

pub all_pass : (info : DebugInfo) (items : List Indexed) (k : ℕ) (total : Checked) → length items ≤ k → checked_items info (drop k items) ≡ total → total ≡ Ok tt
unfolding checked_items
all_pass info items k total past so_far = sym so_far ∙ ap (checked_items info) (drop_all k items past)

fails_then : (fail : Fail StructureFault) (item : Checked) (rest : Unit {0} → Checked) → FailsBy fail item → FailsBy fail (item >>= rest)
fails_then (Fault f) item rest at = ap (λ (r : Checked). r >>= rest) at
fails_then (Memory m) item rest at = tt

pub fails_at : (info : DebugInfo) (items : List Indexed) (k : ℕ) (d : Indexed) (fail : Fail StructureFault) (total : Checked) → k < length items
    → FailsBy fail (checked_item info (get_or items k d)) → checked_items info (drop k items) ≡ total → FailsBy fail total
fails_at info items k d fail total lt at so_far =
    subst (λ (r : Checked). FailsBy fail r) (sym (next info items k d lt) ∙ so_far)
    (fails_then fail (checked_item info (get_or items k d)) (λ u. checked_items info (drop (k + 1) items)) at)

-- an item by its levels
levels_told : (info : DebugInfo) (e : Indexed) (levels : ℕ) (b : Bool) → is_inlined e.1 ≡ b → (b ≡ true → inlined_levels info e ≡ levels)
    → checked_entry info (subroutine_entry e) levels ≡ checked_item info e
levels_told info e levels true is told = ap (checked_entry info (subroutine_entry e)) (sym (told refl))
levels_told info e levels false is told = rw is refl

pub entry_checked : (info : DebugInfo) (e : Indexed) (levels : ℕ) → (is_inlined e.1 ≡ true → inlined_levels info e ≡ levels)
    → checked_entry info (subroutine_entry e) levels ≡ checked_item info e
entry_checked info e levels told = levels_told info e levels (is_inlined e.1) refl told

-- the identity that was found by an item's entry
pub identity_by : (info own : DebugInfo) (found : EntryAt) (i j : ℕ) → own ≡ info → i ≡ j → found ≡ entry_with own (identity own i) → found ≡ entry_with info (identity info j)
identity_by info own found i j same index is =
    is ∙ ap (λ (o : DebugInfo). entry_with o (identity o i)) same ∙ ap (λ (n : ℕ). entry_with info (identity info n)) index

pub one_more : {Y : Type 0} (f : Indexed → Y) (items : List Indexed) (k : ℕ) (d : Indexed) (x : Y) (old new : List Y) → k < length items → x ≡ f (get_or items k d)
    → old ≡ map f (take k items) → new ≡ old ++ x ∷ [] → new ≡ map f (take (k + 1) items)
one_more f items k d x old new lt is was push =
    push ∙ ap (λ xs. xs ++ x ∷ []) was ∙ ap (λ y. map f (take k items) ++ y ∷ []) is ∙ sym (map_more f items k d lt)

pub some_more : {Y : Type 0} (f : Indexed → List Y) (items : List Indexed) (k : ℕ) (d : Indexed) (xs old new : List Y) → k < length items → xs ≡ f (get_or items k d)
    → old ≡ flat_map f (take k items) → new ≡ old ++ xs → new ≡ flat_map f (take (k + 1) items)
some_more f items k d xs old new lt is was push =
    push ∙ ap (λ ys. ys ++ xs) was ∙ ap (λ ys. flat_map f (take k items) ++ ys) (is ∙ sym (append-nil (f (get_or items k d))))
    ∙ sym (ap (flat_map f) (take_more items k d lt) ∙ flat_map-append f (take k items) (get_or items k d ∷ []))
