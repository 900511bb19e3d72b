-- There is nothing past the end of a section.
use Rattle.std.proofs.Common.{◌≡◌, ℕ, ◌<◌, List, [], take, length, None, refl, ap, ◌∙◌, arith}
use Rattle.std.proofs.Math.ListN.{drop_of_length-le}
use Rattle.std.specs.Prelude.{option_map}
use Rattle.prof_bytes.specs.Fields.{Input, taken}
use Rattle.prof_bytes.specs.Number.{number_at}
use Rattle.prof_bytes.specs.Reading.{left_of}
use Rattle.prof_bytes.specs.Leb.{uleb_at}
use Rattle.dwarf_forms.specs.declared.declaration.Abbrev.{Abbrev}
use Rattle.dwarf_forms.specs.declared.value.FormFault.{FormFault}
use Rattle.dwarf_forms.specs.declared.value.FormFault.TheVariants.{Short}
use Rattle.dwarf_info.specs.Values.{value_of, entry_values, coded_values}
use Rattle.dwarf_info.specs.Sections.{section_word, section_up_to}

pub no_word_past : (section : List ℕ) (offset : ℕ) → length section < offset → section_word section offset ≡ None
no_word_past section offset past = ap (λ (bytes : List ℕ). option_map (λ r. r.0) (number_at 4 bytes)) (drop_of_length-le section (omega arith)) ∙ refl

pub no_value_past : (attribute : ℕ) (declared : List Abbrev) (end : ℕ) (section : List ℕ) (offset : ℕ)
    → length (take end section) < offset → value_of attribute (entry_values declared (section_up_to end section offset Short)) ≡ None
no_value_past attribute declared end section offset past =
    let input : Input FormFault = section_up_to end section offset Short in
    let none : left_of input.at ≡ [] = drop_of_length-le (take end section) (omega arith) in
    ap (λ (bytes : List ℕ). value_of attribute (coded_values declared (taken input (uleb_at bytes)))) none ∙ refl
