-- The value that a form gives. DWARF 5, sections 7.5.5 and 7.5.6.
use Rattle.std.specs.Prelude.{ℕ, ℤ, pos, ◌==◌, not, Bool, true, List, Option, Some, None, Result, Ok, Err}
use Rattle.std.specs.Prelude.{if◌then◌else◌}
use Rattle.prof_bytes.specs.Fields.{Input, number_from, uleb_from, sleb_from, bytes_from, text_from}
use Rattle.prof_bytes.specs.Reading.{At}
use Rattle.prof_bytes.specs.Outcome.{◌>>=◌}
use Rattle.dwarf_forms.specs.declared.constants.TheConstants.{DW_FORM_indirect, DW_FORM_implicit_const}
use Rattle.dwarf_forms.specs.declared.encoding.Size.{Size}
use Rattle.dwarf_forms.specs.declared.encoding.Size.TheVariants.{One, Two, Three, Four, Eight, Uleb}
use Rattle.dwarf_forms.specs.declared.encoding.WordClass.{WordClass}
use Rattle.dwarf_forms.specs.declared.encoding.WordClass.TheVariants as words
use Rattle.dwarf_forms.specs.declared.encoding.NumberClass.{NumberClass}
use Rattle.dwarf_forms.specs.declared.encoding.NumberClass.TheVariants as numbers
use Rattle.dwarf_forms.specs.declared.encoding.Encoding.{Encoding}
use Rattle.dwarf_forms.specs.declared.encoding.Encoding.TheVariants as encodings
use Rattle.dwarf_forms.specs.declared.value.Value.{Value}
use Rattle.dwarf_forms.specs.declared.value.Value.TheVariants as values
use Rattle.dwarf_forms.specs.declared.value.FormFault.{FormFault}
use Rattle.dwarf_forms.specs.declared.value.FormFault.TheVariants.{Unknown, Short}
use Rattle.dwarf_forms.specs.Forms.{encoding_of}

-- a value without where it lies in memory
pub data FormValue : Type 0 where
  Address : ℕ → FormValue
  Number : ℕ → FormValue
  Signed : ℤ → FormValue
  Bytes : List ℕ → FormValue
  Name : List ℕ → FormValue
  Flag : Bool → FormValue
  StrAt : ℕ → FormValue
  LineStrAt : ℕ → FormValue
  StrIndex : ℕ → FormValue
  AddrIndex : ℕ → FormValue
  UnitRef : ℕ → FormValue
  InfoRef : ℕ → FormValue
  Section : ℕ → FormValue
  ListIndex : ℕ → FormValue
  Passed : FormValue

-- what contracts see of a value: its numbers, and the bytes that it refers to
abbrev pub form_value : Value → FormValue
form_value (values.Address n) = Address n
form_value (values.Number n) = Number n
form_value (values.Signed z) = Signed z
form_value (values.Bytes bytes) = Bytes bytes.now
form_value (values.Name text) = Name text.now
form_value (values.Flag b) = Flag b
form_value (values.StrAt n) = StrAt n
form_value (values.LineStrAt n) = LineStrAt n
form_value (values.StrIndex n) = StrIndex n
form_value (values.AddrIndex n) = AddrIndex n
form_value (values.UnitRef n) = UnitRef n
form_value (values.InfoRef n) = InfoRef n
form_value (values.Section n) = Section n
form_value (values.ListIndex n) = ListIndex n
form_value values.Passed = Passed

-- what a number of four bytes is, by the class of its form
abbrev pub word_value : WordClass → ℕ → FormValue
word_value words.Address n = Address n
word_value words.StrAt n = StrAt n
word_value words.LineStrAt n = LineStrAt n
word_value words.InfoRef n = InfoRef n
word_value words.Section n = Section n

-- what a number of another size is, by the class of its form; a flag is false where it is 0
abbrev pub number_value : NumberClass → ℕ → FormValue
number_value numbers.Number n = Number n
number_value numbers.Flag n = Flag (not (n == 0))
number_value numbers.StrIndex n = StrIndex n
number_value numbers.AddrIndex n = AddrIndex n
number_value numbers.UnitRef n = UnitRef n
number_value numbers.ListIndex n = ListIndex n
number_value numbers.Passed n = Passed

-- a number of a size
abbrev pub sized_from : {F : Type 0} → Size → Input F → Result (ℕ × Input F) F
sized_from One input = number_from 1 input
sized_from Two input = number_from 2 input
sized_from Three input = number_from 3 input
sized_from Four input = number_from 4 input
sized_from Eight input = number_from 8 input
sized_from Uleb input = uleb_from input

-- a field as a value
abbrev pub as_value : {X F : Type 0} → (X → FormValue) → Result (X × Input F) F
    → Result (FormValue × Input F) F
as_value value field = do
  (x, input) ← field
  Ok (value x, input)

-- bytes after their length
abbrev pub sized_block_from : {F : Type 0} → Size → Input F → Result (List ℕ × Input F) F
sized_block_from size input = do
  (length, input) ← sized_from size input
  bytes_from length input

-- the value of an encoding; `implicit` is the constant that the declaration holds
abbrev pub encoded_from : {F : Type 0} → Encoding → ℤ → Input F → Result (FormValue × Input F) F
encoded_from (encodings.Word class) implicit input = as_value (word_value class) (number_from 4 input)
encoded_from (encodings.Number size class) implicit input = as_value (number_value class) (sized_from size input)
encoded_from encodings.Sleb implicit input = as_value Signed (sleb_from input)
encoded_from (encodings.Block size) implicit input = as_value Bytes (sized_block_from size input)
encoded_from encodings.Data16 implicit input = as_value Bytes (bytes_from 16 input)
encoded_from encodings.String implicit input = as_value Name (text_from input)
encoded_from encodings.FlagPresent implicit input = Ok (Flag true, input)
encoded_from encodings.ImplicitConst implicit input = Ok (Signed implicit, input)

-- the value of an encoding; the fault `unknown` where there is none
abbrev pub known_from : {F : Type 0} → F → Option Encoding → ℤ → Input F → Result (FormValue × Input F) F
known_from unknown None implicit input = Err unknown
known_from unknown (Some encoding) implicit input = encoded_from encoding implicit input

-- the value of a form that has an encoding of its own
abbrev pub direct_from : {F : Type 0} → F → ℕ → ℤ → Input F → Result (FormValue × Input F) F
direct_from unknown form implicit input = known_from unknown (encoding_of form) implicit input

-- the value of a form that DW_FORM_indirect names. DW_FORM_implicit_const cannot be named there, since it has no
-- constant, nor can DW_FORM_indirect
abbrev pub named_from : {F : Type 0} → F → ℕ → Input F → Result (FormValue × Input F) F
named_from unknown form input =
    if form == DW_FORM_implicit_const then Err unknown else direct_from unknown form (pos 0) input

-- the value of DW_FORM_indirect: the number of a form, and a value of that form
abbrev pub indirect_from : {F : Type 0} → F → Input F → Result (FormValue × Input F) F
indirect_from unknown input = do
  (form, input) ← uleb_from input
  named_from unknown form input

-- the value of a form, and the input after it; `unknown` is the fault of a form that is not one of
-- DWARF 5, or that `DW_FORM_indirect` may not name
unfoldable pub value_from : {F : Type 0} → F → ℕ → ℤ → Input F → Result (FormValue × Input F) F
value_from unknown form implicit input =
    if form == DW_FORM_indirect then indirect_from unknown input else direct_from unknown form implicit input

-- the value of a form at an offset of bytes, and the offset after it
abbrev pub form_value_at : ℕ → ℤ → At → Result (FormValue × At) FormFault
form_value_at form implicit at = do
  (value, input) ← value_from Unknown form implicit (record { at = at; missing = Short })
  Ok (value, input.at)
