-- What is at an offset of a section.
use Rattle.std.specs.Prelude.{◌≡◌, ℕ, ◌==◌, nat_le, List, length, drop, Option, option_map, Result, Ok, Err}
use Rattle.std.specs.Prelude.{if◌then◌else◌}
use Rattle.std.specs.List.{before_first}
use Rattle.prof_bytes.specs.Fields.{Input}
use Rattle.prof_bytes.specs.Reading.{text_at}
use Rattle.dwarf_forms.specs.declared.text.SectionText.{SectionText}
use Rattle.dwarf_forms.specs.Values.{FormValue, Name}

-- the bytes of a section from an offset on, each missing field of which is this fault; the fault where it lies past
-- the section's end
abbrev pub input_at : {F : Type 0} → List ℕ → ℕ → F → Result (Input F) F
input_at section offset missing =
    if nat_le offset (length section)
    then Ok (record { at = record { whole = section; offset = offset }; missing = missing })
    else Err missing

-- the text at an offset of a section, up to its 0 byte
abbrev pub text_in : List ℕ → ℕ → Option (List ℕ)
text_in section offset = option_map (λ r. r.0) (text_at (drop offset section))

-- ---- texts as the code has them

-- the bytes before the first 0 byte; all where there is none
abbrev pub before_zero : List ℕ → List ℕ
before_zero bytes = before_first (λ byte. byte == 0) bytes

-- the text that begins where the code says
abbrev pub section_text : SectionText → List ℕ
section_text text = before_zero text.bytes.now

-- a value is no name, or a name without a 0 byte
abbrev pub HasNoZero : FormValue → Type 0
HasNoZero (Name text) = before_zero text ≡ text
HasNoZero other = Unit {0}
