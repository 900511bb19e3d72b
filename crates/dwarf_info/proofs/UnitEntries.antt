-- The values of an entry with its unit.
use Rattle.std.proofs.Common.{◌≡◌, ℕ, List, Option, Some, None, refl, sym, ap, ◌∙◌}
use Rattle.std.specs.Prelude.{slice_get, option_map, option_and_then}
use Rattle.dwarf_forms.specs.declared.value.FormFault.TheVariants.{Short}
use Rattle.dwarf_forms.specs.Abbreviations.{table_at}
use Rattle.dwarf_forms.specs.Values.{FormValue}
use Rattle.dwarf_info.specs.declared.entry.UnitContext.{UnitContext}
use Rattle.dwarf_info.specs.declared.entry.InfoEntry.{InfoEntry}
use Rattle.dwarf_info.specs.Sections.{section_up_to}
use Rattle.dwarf_info.specs.Values.{value_of, entry_values}
use Rattle.dwarf_info.specs.Units.{DebugInfo, or_none}
use Rattle.dwarf_info.specs.Queries.{UnitEntry, unit_entry, attribute_value}

abbrev with_unit : InfoEntry → Option UnitContext → Option UnitEntry
with_unit e ou = option_map (λ u. record { entry = e; context = u }) ou

unit_is : (e : InfoEntry) (ou : Option UnitContext) (s : UnitEntry) → with_unit e ou ≡ Some s → ou ≡ Some s.context
unit_is e None s same = absurd cc
unit_is e (Some u) s same = ap (λ (o : Option UnitEntry). option_map (λ t. t.context) o) same

there_is : (units : List UnitContext) (oe : Option InfoEntry) (s : UnitEntry) → option_and_then (λ e. with_unit e (slice_get units e.«unit»)) oe ≡ Some s → (k : ℕ) × (slice_get units k ≡ Some s.context)
there_is units None s same = absurd cc
there_is units (Some e) s same = (e.«unit», unit_is e (slice_get units e.«unit») s same)

abbrev Shown : Type 0
Shown = UnitContext × ℕ

abbrev shown : Option UnitEntry → Option Shown
shown o = option_map (λ s. (s.context, s.entry.offset)) o

abbrev pub Finds : DebugInfo → ℕ → UnitContext → ℕ → Option FormValue → Type 0
Finds info attribute read offset r =
    r ≡ value_of attribute (entry_values (or_none (table_at info.sections.abbrev_bytes read.header.debug_abbrev_offset)) (section_up_to read.header.end info.sections.info offset Short))

abbrev read_or : UnitContext → Option Shown → UnitContext
read_or d None = d
read_or d (Some p) = p.0

same_read : (t : UnitEntry) (u : UnitContext) (n : ℕ) → shown (Some t) ≡ Some (u, n) → t.context ≡ u
same_read t u n e = ap (λ (p : Option Shown). read_or u p) e

abbrev offset_or : Option Shown → ℕ
offset_or None = 0
offset_or (Some p) = p.1

same_offset : (t : UnitEntry) (u : UnitContext) (n : ℕ) → shown (Some t) ≡ Some (u, n) → t.entry.offset ≡ n
same_offset t u n e = ap offset_or e

found_in : (info : DebugInfo) (i attribute : ℕ) (read : UnitContext) (offset : ℕ) (r : Option FormValue) (o : Option UnitEntry) → unit_entry info i ≡ o
    → shown o ≡ Some (read, offset) → Finds info attribute read offset r
    → r ≡ option_and_then (attribute_value info attribute) o
found_in info i attribute read offset r None at is finds = absurd cc
found_in info i attribute read offset r (Some s) at is finds =
    let first : s.context ≡ read = same_read s read offset is in
    let second : s.entry.offset ≡ offset = same_offset s read offset is in
    finds
    ∙ ap (λ (u : UnitContext). value_of attribute (entry_values (or_none (table_at info.sections.abbrev_bytes u.header.debug_abbrev_offset)) (section_up_to u.header.end info.sections.info offset Short))) (sym first)
    ∙ ap (λ (n : ℕ). value_of attribute (entry_values (or_none (table_at info.sections.abbrev_bytes s.context.header.debug_abbrev_offset)) (section_up_to s.context.header.end info.sections.info n Short))) (sym second)

abbrev pub some_shown : UnitContext × ℕ → Option (UnitContext × ℕ)
some_shown p = Some p

pub found : (info : DebugInfo) (i attribute : ℕ) (read : UnitContext) (offset : ℕ) (r : Option FormValue)
    → some_shown (read, offset) ≡ option_map (λ s. (s.context, s.entry.offset)) (unit_entry info i) → Finds info attribute read offset r
    → r ≡ option_and_then (attribute_value info attribute) (unit_entry info i)
found info i attribute read offset r is finds = found_in info i attribute read offset r (unit_entry info i) refl (sym is) finds
