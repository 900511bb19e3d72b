use Rattle.std.proofs.Common.{◌≡◌, ap, ◌∙◌, sym, List, ℕ, Option, map}
use Rattle.std.specs.Prelude.{find, option_map}
use Rattle.std.specs.Option.{option_map_or}
use Rattle.elf_image.specs.declared.part.Section.{Section}
use Rattle.elf_image.specs.Fields.{same_bytes}
use Rattle.elf_image.specs.Image.{NamedSection, named, address_of_name}
use Rattle.elf_image.proofs.Tables.{find_map}
use Rattle.elf_image.proofs.image.address_named.Goals as goal

abbrev address_in : Option NamedSection → ℕ
address_in o = option_map_or (λ s. s.address) o 0

-- the address of what was found among the code's sections
address_found : (sections : List Section) (name : List ℕ) (o : Option Section) → o ≡ find (λ s. same_bytes s.name.now name) sections → address_in (option_map named o) ≡ address_of_name (map named sections) name
address_found sections name o is = ap (λ (o : Option Section). address_in (option_map named o)) is ∙ sym (ap address_in (find_map (λ s. same_bytes s.name name) named sections))

pub returns-in-Some : goal.returns-in-Some
returns-in-Some c = address_found c.args.sections.now c.args.name.now _ c.in-Some.ensures

pub returns-in-None : goal.returns-in-None
returns-in-None c = address_found c.args.sections.now c.args.name.now _ c.in-None.ensures
