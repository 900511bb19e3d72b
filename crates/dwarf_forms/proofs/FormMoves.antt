-- The value of a form is read from the same bytes.
use Rattle.std.proofs.Common.{◌≡◌, ℕ, ℤ, pos, Option, Some, None, Result, arith}
use Rattle.std.specs.Prelude.{◌==◌, true, IfOk}
use Rattle.prof_bytes.specs.Outcome.{GivesAt}
use Rattle.dwarf_forms.specs.declared.value.Value.{Value}
use Rattle.prof_bytes.specs.Fields.{Input, number_from, uleb_from, sleb_from, bytes_from, text_from}
use Rattle.dwarf_forms.specs.declared.constants.TheConstants.{DW_FORM_indirect, DW_FORM_implicit_const}
use Rattle.dwarf_forms.specs.declared.encoding.Size.{Size}
use Rattle.dwarf_forms.specs.declared.encoding.Size.TheVariants as sizes
use Rattle.dwarf_forms.specs.declared.encoding.Encoding.{Encoding}
use Rattle.dwarf_forms.specs.declared.encoding.Encoding.TheVariants as encodings
use Rattle.dwarf_forms.specs.Forms.{encoding_of}
use Rattle.dwarf_forms.specs.Values.{FormValue, form_value, as_value, word_value, number_value, Signed, Bytes, Name, Flag, sized_from, sized_block_from, encoded_from}
use Rattle.dwarf_forms.specs.Values.{known_from, direct_from, named_from, indirect_from, value_from}
use Rattle.dwarf_forms.proofs.Moves.{Moves, number_moves, uleb_moves, sleb_moves, bytes_moves, text_moves, moves_then, moves_less, uleb_passes, moves_if, stays, keeps}

sized_moves : {F : Type 0} (size : Size) (input : Input F) → Moves 1 input (sized_from size input)
sized_moves sizes.One input = number_moves 1 input
sized_moves sizes.Two input = moves_less 2 1 input (number_from 2 input) (omega arith) (number_moves 2 input)
sized_moves sizes.Three input = moves_less 3 1 input (number_from 3 input) (omega arith) (number_moves 3 input)
sized_moves sizes.Four input = moves_less 4 1 input (number_from 4 input) (omega arith) (number_moves 4 input)
sized_moves sizes.Eight input = moves_less 8 1 input (number_from 8 input) (omega arith) (number_moves 8 input)
sized_moves sizes.Uleb input = uleb_moves input

as_value_moves : {X F : Type 0} (count : ℕ) (value : X → FormValue) (input : Input F) (field : Result (X × Input F) F)
    → Moves count input field → Moves 0 input (as_value value field)
as_value_moves count value input field moves =
    moves_then 0 0 input field _ (moves_less count 0 input field (omega arith) moves) (λ r. stays r.1 (value r.0))

block_moves : {F : Type 0} (size : Size) (input : Input F) → Moves 1 input (sized_block_from size input)
block_moves size input = moves_then 1 0 input (sized_from size input) _ (sized_moves size input) (λ r. moves_less r.0 0 r.1 (bytes_from r.0 r.1) (omega arith) (bytes_moves r.0 r.1))

encoded_moves : {F : Type 0} (encoding : Encoding) (implicit : ℤ) (input : Input F) → Moves 0 input (encoded_from encoding implicit input)
encoded_moves (encodings.Word class) implicit input = as_value_moves 4 (word_value class) input (number_from 4 input) (number_moves 4 input)
encoded_moves (encodings.Number size class) implicit input = as_value_moves 1 (number_value class) input (sized_from size input) (sized_moves size input)
encoded_moves encodings.Sleb implicit input = as_value_moves 1 Signed input (sleb_from input) (sleb_moves input)
encoded_moves (encodings.Block size) implicit input = as_value_moves 1 Bytes input (sized_block_from size input) (block_moves size input)
encoded_moves encodings.Data16 implicit input = as_value_moves 16 Bytes input (bytes_from 16 input) (bytes_moves 16 input)
encoded_moves encodings.String implicit input = as_value_moves 1 Name input (text_from input) (text_moves input)
encoded_moves encodings.FlagPresent implicit input = stays input (Flag true)
encoded_moves encodings.ImplicitConst implicit input = stays input (Signed implicit)

direct_moves : {F : Type 0} (unknown : F) (form : ℕ) (implicit : ℤ) (input : Input F) → Moves 0 input (direct_from unknown form implicit input)
direct_moves unknown form implicit input = known (encoding_of form)
  where
    known : (found : Option Encoding) → Moves 0 input (known_from unknown found implicit input)
    known None = tt
    known (Some encoding) = encoded_moves encoding implicit input

named_moves : {F : Type 0} (unknown : F) (form : ℕ) (input : Input F) → Moves 0 input (named_from unknown form input)
named_moves unknown form input = moves_if 0 input (form == DW_FORM_implicit_const) _ (direct_from unknown form (pos 0) input) tt (direct_moves unknown form (pos 0) input)

pub value_moves : {F : Type 0} (unknown : F) (form : ℕ) (implicit : ℤ) (input : Input F) → Moves 0 input (value_from unknown form implicit input)
unfolding value_from
value_moves unknown form implicit input =
    moves_if 0 input (form == DW_FORM_indirect) (indirect_from unknown input) (direct_from unknown form implicit input)
    (moves_then 0 0 input (uleb_from input) _ (uleb_passes input) (λ r. named_moves unknown r.0 r.1))
    (direct_moves unknown form implicit input)

pub form_keeps : {F : Type 0} (unknown : F) (form : ℕ) (implicit : ℤ) (old new : Input F) (result : Result Value F)
    → GivesAt form_value result new (value_from unknown form implicit old) → IfOk result (λ _. new.at.whole ≡ old.at.whole)
form_keeps unknown form implicit old new result gives =
    keeps 0 form_value result old new (value_from unknown form implicit old) (value_moves unknown form implicit old) gives
