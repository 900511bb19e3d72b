-- Entries that were located: those that they refer to, and their declarations.
use Rattle.std.proofs.Common.{◌≡◌, ℕ, ◌<◌, ◌≤◌, Bool, true, false, List, length, take, Option, Some, None, Result, Ok, Err, refl, sym, ap, ◌∙◌, subst, arith}
use Rattle.std.specs.Prelude.{option_map, option_and_then, IfSome, nat_le, if◌then◌else◌}
use Rattle.std.specs.Result.{result_ok}
use Rattle.std.proofs.lemmas.Option.{slice_get-get_or, same_Some}
use Rattle.prof_bytes.specs.Fields.{Input, taken, uleb_from}
use Rattle.prof_bytes.specs.Reading.{left_of, moved}
use Rattle.prof_bytes.specs.Leb.{uleb_at}
use Rattle.dwarf_forms.specs.declared.declaration.Abbrev.{Abbrev}
use Rattle.dwarf_forms.specs.declared.declaration.BadTable.{BadTable}
use Rattle.dwarf_forms.specs.declared.value.FormFault.{FormFault}
use Rattle.dwarf_forms.specs.declared.value.FormFault.TheVariants.{Short}
use Rattle.dwarf_forms.specs.Abbreviations.{table_at}
use Rattle.dwarf_forms.specs.Sections.{input_at}
use Rattle.dwarf_info.specs.declared.entry.InfoEntry.{InfoEntry}
use Rattle.dwarf_info.specs.declared.entry.UnitContext.{UnitContext}
use Rattle.dwarf_info.specs.declared.located.DeclaredAt.{DeclaredAt}
use Rattle.dwarf_info.specs.Sections.{Sections, section_up_to}
use Rattle.dwarf_info.specs.Values.{declaration_of, entry_values, coded_values, declared_values, values_from}
use Rattle.dwarf_info.specs.Units.{DebugInfo, or_none}
use Rattle.dwarf_info.specs.Queries.{entry_with, entry_at, link_of}
use Rattle.dwarf_info.specs.private.Located.{IsDeclaredAt}
use Rattle.dwarf_info.proofs.Bounds.{link_bound}

-- ---- links

no_entry : InfoEntry
no_entry = record { offset = 0; depth = 0; tag = 0; «unit» = 0 }

linked_by : (info : DebugInfo) (o : Option ℕ) → IfSome o (λ j. j < length info.entries) → option_and_then (entry_at info) o ≡ option_map (entry_with info) o
linked_by info None within = refl
linked_by info (Some j) within = ap (λ (o : Option InfoEntry). option_map (λ (e : InfoEntry). entry_with info j) o) (slice_get-get_or info.entries j no_entry within)

-- each link leads to an entry
pub linked_there : (info : DebugInfo) (i : ℕ) → option_and_then (entry_at info) (link_of info i) ≡ option_map (entry_with info) (link_of info i)
linked_there info i = linked_by info (link_of info i) (link_bound info i)

-- ---- the declaration of an entry

reader_there : (bytes : List ℕ) (offset : ℕ) (reader : Input FormFault) (within : Bool)
    → Some reader ≡ result_ok (if within then Ok (record { at = record { whole = bytes; offset = offset }; missing = Short }) else Err Short)
    → reader ≡ record { at = record { whole = bytes; offset = offset }; missing = Short }
reader_there bytes offset reader true is = same_Some _ _ is
reader_there bytes offset reader false is = absurd cc

kept_rest : (input after : Input FormFault) (code : ℕ) (read : Option (ℕ × ℕ)) → taken input read ≡ Ok (code, after)
    → after ≡ record { at = record { whole = input.at.whole; offset = after.at.offset }; missing = input.missing }
kept_rest input after code None is = absurd cc
kept_rest input after code (Some r) is =
    let same : record input { at = moved r.1 input.at } ≡ after = ap (λ (o : Result (ℕ × Input FormFault) FormFault). after_or o) is in
    subst (λ (a : Input FormFault). a ≡ record { at = record { whole = input.at.whole; offset = a.at.offset }; missing = input.missing }) same refl
  where
    after_or : Result (ℕ × Input FormFault) FormFault → Input FormFault
    after_or (Ok p) = p.1
    after_or (Err fault) = after

pub declared_there : (sections : Sections) (context : UnitContext) (table : List Abbrev) (bytes : List ℕ) (offset code : ℕ) (read : Result (Input FormFault) FormFault)
    (reader after : Input FormFault) (d : DeclaredAt) → table_at sections.abbrev_bytes context.header.debug_abbrev_offset ≡ Ok table
    → bytes ≡ take context.header.end sections.info → read ≡ input_at bytes offset Short → Some reader ≡ result_ok read
    → uleb_from reader ≡ Ok (code, after) → declaration_of table code ≡ Some d.by.now → d.first ≡ after.at.offset → d.first ≤ length after.at.whole
    → IsDeclaredAt sections context offset d
declared_there sections context table bytes offset code read reader after d known front read_is some coded found first_is within =
    let start : Input FormFault = section_up_to context.header.end sections.info offset Short in
    let own : reader ≡ record { at = record { whole = bytes; offset = offset }; missing = Short } =
    reader_there bytes offset reader (nat_le offset (length bytes)) (some ∙ ap (λ (r : Result (Input FormFault) FormFault). result_ok r) read_is) in
    let here : reader ≡ start = own ∙ ap (λ (bs : List ℕ). let i : Input FormFault = record { at = record { whole = bs; offset = offset }; missing = Short } in i) front in
    let there : uleb_from start ≡ Ok (code, after) = ap (λ (i : Input FormFault). uleb_from i) (sym here) ∙ coded in
    let rest : after ≡ section_up_to context.header.end sections.info after.at.offset Short = kept_rest start after code (uleb_at (left_of start.at)) there in
    record {
      within = let long = ap (λ (i : Input FormFault). length i.at.whole) rest in omega arith;
      are =
          ap (λ (r : Result (List Abbrev) BadTable). entry_values (or_none r) start) known
          ∙ ap (λ (r : Result (ℕ × Input FormFault) FormFault). coded_values table r) there
          ∙ ap (λ (o : Option Abbrev). declared_values o after) found
          ∙ ap (λ (i : Input FormFault). values_from d.by.now.specs i) (rest ∙ ap (λ (n : ℕ). section_up_to context.header.end sections.info n Short) (sym first_is));
    }
