-- Common information entries of .eh_frame (LSB, core specification, "The Common Information Entry Format"; the letter S
-- is an extension of GNU's).
use Rattle.std.specs.Prelude.{ℕ, ℤ, ◌-◌, ◌==◌, ◌||◌, ◌&&◌, Bool, true, false, nat_lt, List, [], ◌∷◌, length}
use Rattle.std.specs.Prelude.{Option, Some, None, option_map, Result, Ok, Err, if◌then◌else◌}
use Rattle.std.specs.List.{list_any, list_all}
use Rattle.prof_bytes.specs.Reading.{left_of, up_to}
use Rattle.prof_bytes.specs.Outcome.{◌>>=◌}
use Rattle.prof_bytes.specs.Fields.{Input, number_from, uleb_from, sleb_from, text_from, bytes_from}
use Rattle.cfi_table.specs.declared.fault.FrameFault.{FrameFault}
use Rattle.cfi_table.specs.declared.instruction.AlignmentFactors.{AlignmentFactors}
use Rattle.cfi_table.specs.Instructions.{Reading}
use Rattle.cfi_table.specs.Entries.{last_bytes, factors_from}
use Rattle.eh_frame.specs.declared.constants.TheConstants.{LETTER_DATA, LETTER_ADDRESSES, LETTER_LANGUAGE_DATA}
use Rattle.eh_frame.specs.declared.constants.TheConstants.{LETTER_PERSONALITY, LETTER_SIGNAL_FRAME}
use Rattle.eh_frame.specs.declared.address.Application.{Application}
use Rattle.eh_frame.specs.declared.address.Application.TheVariants as applications
use Rattle.eh_frame.specs.declared.cie.EhCie.{EhCie}
use Rattle.eh_frame.specs.Addresses.{format_of, application_of, pointer_from}

-- ---- the augmentation

-- the letters R, L, P and S
abbrev pub is_letter : ℕ → Bool
is_letter letter =
    letter == LETTER_ADDRESSES || letter == LETTER_LANGUAGE_DATA || letter == LETTER_PERSONALITY
    || letter == LETTER_SIGNAL_FRAME

-- it is empty, or z and then such letters
abbrev pub is_read_augmentation : List ℕ → Bool
is_read_augmentation [] = true
is_read_augmentation (first ∷ letters) = first == LETTER_DATA && list_all is_letter letters

-- the application, where the pointer's format is supported
abbrev pub if_supported : Application → Bool → Option Application
if_supported application true = Some application
if_supported application false = None

-- the data of a letter, where others follow it: the application of addresses after it. Nothing where the CIE is
-- passed over. The last of several encodings of addresses counts
unfoldable pub letter_from : ℕ → List ℕ → Application → Input FrameFault → Reading (Option Application)
letter_from letter others application input =
    if letter == LETTER_ADDRESSES then (do
      (encoding, input) ← number_from 1 input
      Ok (if list_any (λ l. l == LETTER_ADDRESSES) others then Some application else application_of encoding, input))
    else if letter == LETTER_LANGUAGE_DATA then (do
      (encoding, input) ← number_from 1 input
      Ok (Some application, input))
    else if letter == LETTER_PERSONALITY then (do
      (encoding, input) ← number_from 1 input
      (known, input) ← pointer_from (format_of encoding) input
      Ok (if_supported application known, input))
    else Ok (Some application, input)

-- what comes next, unless the CIE is passed over
abbrev pub unless_passed : {X Y : Type 0} → Option X → (X → Result (Option Y) FrameFault)
    → Result (Option Y) FrameFault
unless_passed None next = Ok None
unless_passed (Some x) next = next x

-- the application of addresses after all letters
unfoldable pub application_from : List ℕ → Application → Input FrameFault → Result (Option Application) FrameFault
application_from [] application input = Ok (Some application)
application_from (letter ∷ others) application input = do
  (found, input) ← letter_from letter others application input
  unless_passed found (λ next. application_from others next input)

-- ---- a CIE's fields. Nothing where it is passed over: the fields after the one that shows it are not read

-- the initial instructions are the bytes that are left, up to the entry's end
abbrev pub eh_cie_with : ℕ → AlignmentFactors → ℕ → Bool → Input FrameFault → Application → EhCie
eh_cie_with end factors register has_data input application = record {
  factors = factors;
  return_address_register = register;
  application = application;
  has_data = has_data;
  initial_instructions = last_bytes end (length (left_of input.at));
}

-- the bytes up to where another input begins
abbrev pub until : Input FrameFault → Input FrameFault → Input FrameFault
until behind input = record input { at = up_to behind.at.offset input.at }

-- the augmentation data have a length, and the letters say what they are
unfoldable pub cie_from_letters : ℕ → AlignmentFactors → ℕ → List ℕ → Input FrameFault
    → Result (Option EhCie) FrameFault
cie_from_letters end factors register letters input = do
  (size, within) ← uleb_from input
  (bytes, behind) ← bytes_from size within
  application ← application_from letters applications.Absolute (until behind within)
  Ok (option_map (eh_cie_with end factors register true behind) application)

-- the fields from the augmentation data on, if there are any
abbrev pub cie_from_data : ℕ → AlignmentFactors → ℕ → List ℕ → Input FrameFault → Result (Option EhCie) FrameFault
cie_from_data end factors register [] input =
    Ok (Some (eh_cie_with end factors register false input applications.Absolute))
cie_from_data end factors register (first ∷ letters) input = cie_from_letters end factors register letters input

-- no return address register above 31
unfoldable pub eh_cie_from_factors : ℕ → ℕ → List ℕ → Input FrameFault → Result (Option EhCie) FrameFault
eh_cie_from_factors end version augmentation input = do
  (read, input) ← factors_from version input
  if nat_lt read.1 32 then cie_from_data end read.0 read.1 augmentation input else Err input.missing

-- the fields from the augmentation on
unfoldable pub eh_cie_from_augmentation : ℕ → ℕ → Input FrameFault → Result (Option EhCie) FrameFault
eh_cie_from_augmentation end version input = do
  (augmentation, input) ← text_from input
  if is_read_augmentation augmentation then eh_cie_from_factors end version augmentation input else Ok None

-- versions 1 and 3
unfoldable pub eh_cie_from : ℕ → Input FrameFault → Result (Option EhCie) FrameFault
eh_cie_from end input = do
  (version, input) ← number_from 1 input
  if version == 1 || version == 3 then eh_cie_from_augmentation end version input else Err input.missing
