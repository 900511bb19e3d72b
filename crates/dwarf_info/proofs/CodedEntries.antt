-- An entry whose code is declared.
use Rattle.std.proofs.Common.{◌≡◌, ℕ, ◌-◌, false, List, [], Some, Result, Ok, Err, refl, sym, ap, ◌∙◌, ◌==◌}
use Rattle.std.specs.Prelude.{if◌then◌else◌}
use Rattle.prof_bytes.specs.Outcome.{◌>>=◌}
use Rattle.prof_bytes.specs.Fields.{Input, answered, uleb_from}
use Rattle.dwarf_forms.specs.declared.declaration.Abbrev.{Abbrev}
use Rattle.dwarf_forms.specs.declared.value.FormFault.{FormFault}
use Rattle.dwarf_forms.specs.Runs.{RunStep}
use Rattle.dwarf_info.specs.declared.entry.InfoEntry.{InfoEntry}
use Rattle.dwarf_info.specs.declared.fault.InfoFault.{InfoFault}
use Rattle.dwarf_info.specs.declared.fault.InfoFault.TheVariants.{BadUnit}
use Rattle.dwarf_info.specs.Values.{value_of, values_from, entry_values, declaration_of}
use Rattle.dwarf_info.specs.Entries.{entry_from, declared_entry}

-- a value and the input after it, as a call answers them
abbrev pub answer : {X F : Type 0} → Result X F → Input F → Result X F × Input F
answer result input = (result, input)

pub was_read : {X F : Type 0} (x : X) (old new : Input F) (read : Result (X × Input F) F) → answer (Ok x) new ≡ answered old read → read ≡ Ok (x, new)
was_read {X = X} {F = F} x old new (Ok r) e =
    let first : r.0 ≡ x = ap (λ (p : Result X F × Input F). or_this p.0) (sym e) in
    let second : r.1 ≡ new = ap (λ (p : Result X F × Input F). p.1) (sym e) in
    rw (← first, ← second) refl
  where
    or_this : Result X F → X
    or_this (Ok y) = y
    or_this (Err fault) = x
was_read {X = X} {F = F} x old new (Err fault) e =
    let both : answer {X = X} {F = F} (Ok x) new ≡ answer (Err fault) old = e in
    let first : result_of (Ok x) ≡ result_of (Err fault) = ap (λ (p : Result X F × Input F). p.0) both in
    absurd cc
  where
    result_of : Result X F → Result X F
    result_of r = r

pub coded_value : (attribute : ℕ) (table : List Abbrev) (input after : Input FormFault) (code : ℕ) (d : Abbrev)
    → uleb_from input ≡ Ok (code, after) → declaration_of table code ≡ Some d
    → value_of attribute (entry_values table input) ≡ value_of attribute (values_from d.specs after)
coded_value attribute table input after code d read found = rw (read, found) refl

pub coded_entry : (table : List Abbrev) (index depth offset code : ℕ) (input set after : Input InfoFault) (d : Abbrev) (step : RunStep ℕ InfoEntry InfoFault)
    → offset ≡ input.at.offset → set ≡ record input { missing = BadUnit offset } → uleb_from set ≡ Ok (code, after) → (code == 0) ≡ false
    → declaration_of table code ≡ Some d → step ≡ declared_entry index depth offset (Some d) after → step ≡ entry_from table index depth input
unfolding entry_from
coded_entry table index depth offset code input set after d step offset_is set_is read more found step_is =
    let same : record input { missing = BadUnit input.at.offset } ≡ set = ap (λ (o : ℕ). record input { missing = BadUnit o }) (sym offset_is) ∙ sym set_is in
    let whole : entry_from table index depth input ≡ declared_entry index depth input.at.offset (Some d) after =
    ap (λ (r : Result (ℕ × Input InfoFault) InfoFault). r >>= coded) (ap uleb_from same ∙ read) ∙ rw (more, found) refl in
    step_is ∙ ap (λ (o : ℕ). declared_entry index depth o (Some d) after) offset_is ∙ sym whole
  where
    coded : ℕ × Input InfoFault → RunStep ℕ InfoEntry InfoFault
    coded r = if r.0 == 0 then Ok ([], depth - 1, r.1) else declared_entry index depth input.at.offset (declaration_of table r.0) r.1
