-- What the values of attributes mean; none where one counts as absent. DWARF 5, sections 7.5.5, 7.26 and 7.27.
use Rattle.std.specs.Prelude.{ℕ, ◌^◌, pos, nat_lt, List, Option, Some, None, option_and_then, if◌then◌else◌}
use Rattle.dwarf_forms.specs.Values.{FormValue, Address, Number, Signed, Name, StrAt, LineStrAt, StrIndex, AddrIndex}
use Rattle.dwarf_forms.specs.Values.{Section}
use Rattle.dwarf_forms.specs.Sections.{text_in}
use Rattle.dwarf_info.specs.Sections.{Sections, element_in}

-- an offset in a section
abbrev pub section_value : FormValue → Option ℕ
section_value (Section n) = Some n
section_value other = None

-- a constant of 32 bits
abbrev pub constant_value : FormValue → Option ℕ
constant_value (Number n) = if nat_lt n (2 ^ 32) then Some n else None
constant_value (Signed (pos n)) = if nat_lt n (2 ^ 32) then Some n else None
constant_value other = None

-- a text, by the unit's base into .debug_str_offsets
abbrev pub text_value : Sections → Option ℕ → FormValue → Option (List ℕ)
text_value sections base (Name text) = Some text
text_value sections base (StrAt n) = text_in sections.str_bytes n
text_value sections base (LineStrAt n) = text_in sections.line_str n
text_value sections base (StrIndex i) =
    option_and_then (text_in sections.str_bytes) (element_in sections.str_offsets base i)
text_value sections base other = None

-- an address, by the unit's base into .debug_addr
abbrev pub address_value : Sections → Option ℕ → FormValue → Option ℕ
address_value sections base (Address n) = Some n
address_value sections base (AddrIndex i) = element_in sections.addr base i
address_value sections base other = None
