-- A name has no 0 byte.
use Rattle.std.proofs.Common.{◌==◌, ◌+◌, ℕ, ℤ, pos, Bool, true, false, cond, List, length, take, Option, Some, None, Result, Ok, Err}
use Rattle.std.specs.Prelude.{IfOk, nat_lt, option_map, if◌then◌else◌}
use Rattle.prof_bytes.specs.Fields.{Input, taken, number_from, uleb_from, sleb_from, bytes_from}
use Rattle.prof_bytes.specs.Reading.{left_of}
use Rattle.prof_bytes.specs.Outcome.{◌>>=◌}
use Rattle.dwarf_forms.specs.declared.constants.TheConstants.{DW_FORM_indirect, DW_FORM_implicit_const}
use Rattle.dwarf_forms.specs.declared.encoding.WordClass.{WordClass}
use Rattle.dwarf_forms.specs.declared.encoding.WordClass.TheVariants as words
use Rattle.dwarf_forms.specs.declared.encoding.NumberClass.{NumberClass}
use Rattle.dwarf_forms.specs.declared.encoding.NumberClass.TheVariants as numbers
use Rattle.dwarf_forms.specs.declared.encoding.Encoding.{Encoding}
use Rattle.dwarf_forms.specs.declared.encoding.Encoding.TheVariants as encodings
use Rattle.dwarf_forms.specs.Forms.{encoding_of}
use Rattle.dwarf_forms.specs.Sections.{HasNoZero}
use Rattle.dwarf_forms.specs.Values.{FormValue, as_value, word_value, number_value, Signed, Bytes, Name, sized_from, sized_block_from, encoded_from}
use Rattle.dwarf_forms.specs.Values.{known_from, direct_from, named_from, indirect_from, value_from}
use Rattle.dwarf_forms.proofs.Texts.{first_zero, front_whole}

-- what is read has no 0 byte in a name
abbrev pub IsWhole : {F : Type 0} → Result (FormValue × Input F) F → Type 0
IsWhole {F} read = IfOk read (λ (r : FormValue × Input F). HasNoZero r.0)

word_whole : (class : WordClass) (n : ℕ) → HasNoZero (word_value class n)
word_whole words.Address n = tt
word_whole words.StrAt n = tt
word_whole words.LineStrAt n = tt
word_whole words.InfoRef n = tt
word_whole words.Section n = tt

number_whole : (class : NumberClass) (n : ℕ) → HasNoZero (number_value class n)
number_whole numbers.Number n = tt
number_whole numbers.Flag n = tt
number_whole numbers.StrIndex n = tt
number_whole numbers.AddrIndex n = tt
number_whole numbers.UnitRef n = tt
number_whole numbers.ListIndex n = tt
number_whole numbers.Passed n = tt

as_value_whole : {X F : Type 0} (value : X → FormValue) (field : Result (X × Input F) F) → ((x : X) → HasNoZero (value x)) → IsWhole (as_value value field)
as_value_whole value (Ok r) each = each r.0
as_value_whole value (Err fault) each = tt

text_whole : {F : Type 0} (input : Input F) (bytes : List ℕ) (b : Bool)
    → IsWhole (as_value Name (taken input (option_map (λ (end : ℕ). (take end bytes, end + 1)) (cond b (Some (first_zero bytes)) None))))
text_whole input bytes true = front_whole bytes
text_whole input bytes false = tt

encoded_whole : {F : Type 0} (encoding : Encoding) (implicit : ℤ) (input : Input F) → IsWhole (encoded_from encoding implicit input)
encoded_whole (encodings.Word class) implicit input = as_value_whole (word_value class) (number_from 4 input) (word_whole class)
encoded_whole (encodings.Number size class) implicit input = as_value_whole (number_value class) (sized_from size input) (number_whole class)
encoded_whole encodings.Sleb implicit input = as_value_whole Signed (sleb_from input) (λ _. tt)
encoded_whole (encodings.Block size) implicit input = as_value_whole Bytes (sized_block_from size input) (λ _. tt)
encoded_whole encodings.Data16 implicit input = as_value_whole Bytes (bytes_from 16 input) (λ _. tt)
encoded_whole encodings.String implicit input = text_whole input (left_of input.at) (nat_lt (first_zero (left_of input.at)) (length (left_of input.at)))
encoded_whole encodings.FlagPresent implicit input = tt
encoded_whole encodings.ImplicitConst implicit input = tt

direct_whole : {F : Type 0} (unknown : F) (form : ℕ) (implicit : ℤ) (input : Input F) → IsWhole (direct_from unknown form implicit input)
direct_whole unknown form implicit input = known (encoding_of form)
  where
    known : (found : Option Encoding) → IsWhole (known_from unknown found implicit input)
    known None = tt
    known (Some encoding) = encoded_whole encoding implicit input

whole_if : {F : Type 0} (b : Bool) (one other : Result (FormValue × Input F) F) → IsWhole one → IsWhole other → IsWhole (if b then one else other)
whole_if true one other a b = a
whole_if false one other a b = b

named_whole : {F : Type 0} (unknown : F) (form : ℕ) (input : Input F) → IsWhole (named_from unknown form input)
named_whole unknown form input = whole_if (form == DW_FORM_implicit_const) (Err unknown) (direct_from unknown form (pos 0) input) tt (direct_whole unknown form (pos 0) input)

whole_then : {F : Type 0} (read : Result (ℕ × Input F) F) (next : ℕ × Input F → Result (FormValue × Input F) F) → ((r : ℕ × Input F) → IsWhole (next r)) → IsWhole (read >>= next)
whole_then (Ok r) next each = each r
whole_then (Err fault) next each = tt

-- the value of a form
pub value_whole : {F : Type 0} (unknown : F) (form : ℕ) (implicit : ℤ) (input : Input F) → IsWhole (value_from unknown form implicit input)
unfolding value_from
value_whole unknown form implicit input =
    whole_if (form == DW_FORM_indirect) (indirect_from unknown input) (direct_from unknown form implicit input)
    (whole_then (uleb_from input) _ (λ r. named_whole unknown r.0 r.1))
    (direct_whole unknown form implicit input)
