-- What the sections of a guest hold.
use Rattle.std.proofs.Common.{◌≡◌, ℕ, List, [], All, IsOk, codes, refl, sym, ap, subst}
use Rattle.std.proofs.lemmas.List.Elements.{All-from_recursion}
use Rattle.elf_image.specs.Image.{NamedSection, address_of_name, bytes_of_name}
use Rattle.eh_frame.specs.Descriptions.{descriptions_of_both}
use Rattle.guest_laws.specs.Known.{debug_information_names}
use Rattle.guest_laws.specs.Read.{guest_image, guest_sections}
use Rattle.guest_laws.proofs.Frames.{frames_are_read}
use Rattle.guest_laws.proofs.Programs.{guest_sections_are}

pub frames_of_guests : (number : ℕ) → IsOk (descriptions_of_both (bytes_of_name (guest_image number).sections (codes ".debug_frame")) (bytes_of_name (guest_image number).sections (codes ".eh_frame"))
    (address_of_name (guest_image number).sections (codes ".eh_frame")) (guest_image number).segments)
frames_of_guests number =
    subst (λ (all : List NamedSection). IsOk (descriptions_of_both (bytes_of_name all (codes ".debug_frame")) (bytes_of_name all (codes ".eh_frame")) (address_of_name all (codes ".eh_frame")) (guest_image number).segments))
    (sym (guest_sections_are number)) (frames_are_read 0 (guest_image number).segments)

pub no_eh_frame : (number : ℕ) → bytes_of_name (guest_image number).sections (codes ".eh_frame") ≡ []
no_eh_frame number = ap (λ (all : List NamedSection). bytes_of_name all (codes ".eh_frame")) (guest_sections_are number)

abbrev IsEmpty : List NamedSection → List ℕ → Type 0
IsEmpty all name = bytes_of_name all name ≡ []

all_empty : All (IsEmpty guest_sections) debug_information_names
all_empty = All-from_recursion (IsEmpty guest_sections) debug_information_names (refl, (refl, (refl, (refl, (refl, (refl, (refl, (refl, tt))))))))

pub no_debug_information : (number : ℕ) → All (λ name. bytes_of_name (guest_image number).sections name ≡ []) debug_information_names
no_debug_information number = subst (λ (all : List NamedSection). All (IsEmpty all) debug_information_names) (sym (guest_sections_are number)) all_empty
