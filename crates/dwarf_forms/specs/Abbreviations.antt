-- Abbreviation tables. DWARF 5, section 7.5.3.
use Rattle.std.specs.Prelude.{ℕ, ℤ, pos, ◌==◌, ◌&&◌, not, List, length, find, Option, Some, None, option_map}
use Rattle.std.specs.Prelude.{Result, Ok, if◌then◌else◌}
use Rattle.prof_bytes.specs.Reading.{left_of}
use Rattle.prof_bytes.specs.Fields.{Input, number_from, uleb_from, sleb_from}
use Rattle.prof_bytes.specs.Outcome.{◌>>=◌}
use Rattle.dwarf_forms.specs.declared.constants.TheConstants.{DW_CHILDREN_no, DW_FORM_implicit_const}
use Rattle.dwarf_forms.specs.declared.declaration.Spec.{Spec}
use Rattle.dwarf_forms.specs.declared.declaration.Abbrev.{Abbrev}
use Rattle.dwarf_forms.specs.declared.declaration.BadTable.{BadTable}
use Rattle.dwarf_forms.specs.Lists.{list_from}
use Rattle.dwarf_forms.specs.Sections.{input_at}

-- the fault of a table
abbrev pub bad : BadTable
bad = record {}

-- the constant that DW_FORM_implicit_const keeps in the declaration
abbrev pub implicit_from : ℕ → Input BadTable → Result (ℤ × Input BadTable) BadTable
implicit_from form input = if form == DW_FORM_implicit_const then sleb_from input else Ok (pos 0, input)

-- an attribute of a declaration, or the pair 0, 0 that closes the list
abbrev pub unless_closing : Spec → Option Spec
unless_closing spec = if (spec.attribute == 0) && (spec.form == 0) then None else Some spec

-- an attribute's name and form, with its constant; none for the pair that closes the list
unfoldable pub attribute_from : Input BadTable → Result (Option Spec × Input BadTable) BadTable
attribute_from input = do
  (attribute, input) ← uleb_from input
  (form, input) ← uleb_from input
  (implicit, input) ← implicit_from form input
  Ok (unless_closing (record { attribute = attribute; form = form; implicit = implicit }), input)

-- the attributes of a declaration
abbrev pub attributes_from : Input BadTable → Result (List Spec × Input BadTable) BadTable
attributes_from input = list_from attribute_from (length (left_of input.at)) input

-- what is declared at an offset under a code: tag, whether children follow, attributes
unfoldable pub declared_from : ℕ → ℕ → Input BadTable → Result (Option Abbrev × Input BadTable) BadTable
declared_from offset code input = do
  (tag, input) ← uleb_from input
  (children, input) ← number_from 1 input
  (specs, input) ← attributes_from input
  Ok (
    Some (record {
      offset = offset;
      code = code;
      tag = tag;
      children = not (children == DW_CHILDREN_no);
      specs = specs;
    }),
    input,
  )

-- a declaration, or the code 0 that closes the table
unfoldable pub declaration_from : Input BadTable → Result (Option Abbrev × Input BadTable) BadTable
declaration_from input = do
  (code, after) ← uleb_from input
  if code == 0 then Ok (None, after) else declared_from input.at.offset code after

-- the table that begins at an offset
abbrev pub table_from : Input BadTable → Result (List Abbrev × Input BadTable) BadTable
table_from input = list_from declaration_from (length (left_of input.at)) input

-- the table at an offset of the section's bytes
abbrev pub table_at : List ℕ → ℕ → Result (List Abbrev) BadTable
table_at bytes offset = do
  input ← input_at bytes offset bad
  (declarations, end) ← table_from input
  Ok declarations

-- the code of a declaration, and the input at its attributes
unfoldable pub code_from : Input BadTable → Result (ℕ × Input BadTable) BadTable
code_from input = do
  (code, input) ← uleb_from input
  (tag, input) ← uleb_from input
  (children, input) ← number_from 1 input
  Ok (code, input)

-- the code that is declared at an offset of the section's bytes
abbrev pub code_at : List ℕ → ℕ → Result ℕ BadTable
code_at bytes offset = do
  input ← input_at bytes offset bad
  (code, after) ← uleb_from input
  Ok code

-- the input at the attributes of the declaration at an offset
abbrev pub specs_at : List ℕ → ℕ → Result (Input BadTable) BadTable
specs_at bytes offset = do
  input ← input_at bytes offset bad
  (code, after) ← code_from input
  Ok after

-- the offset of the first declaration of a code
abbrev pub offset_of_code : ℕ → List Abbrev → Option ℕ
offset_of_code code declared = option_map (λ d. d.offset) (find (λ d. d.code == code) declared)

-- the offset of the first declaration of a code in the table at an offset
abbrev pub first_declaration : List ℕ → ℕ → ℕ → Result (Option ℕ) BadTable
first_declaration bytes offset code = do
  declared ← table_at bytes offset
  Ok (offset_of_code code declared)
