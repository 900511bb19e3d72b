-- No section has more bytes than the file.
use Rattle.std.proofs.Common.{ℕ, ◌≤◌, List, [], ◌∷◌, length, take, drop, map, find, filter, Some, true, false, cond, arith}
use Rattle.std.specs.Option.{option_map_or}
use Rattle.std.proofs.lemmas.List.{length-take, length-drop}
use Rattle.elf_image.specs.Fields.{same_bytes}
use Rattle.elf_image.specs.Image.{NamedSection, bytes_of_name}
use Rattle.elf_image.specs.declared.header.SectionHeader.{SectionHeader}
use Rattle.elf_image.specs.Headers.{has_bytes, is_section, section_bytes, section_of, section_headers, sections}

bytes_small : (file : List ℕ) (h : SectionHeader) → length (section_bytes file h) ≤ length file
bytes_small file h =
    let taken = length-take h.sh_size (drop h.sh_offset file) in
    let dropped = length-drop h.sh_offset file in
    elim (has_bytes h) as (λ b. length (cond b (take h.sh_size (drop h.sh_offset file)) []) ≤ length file) [ true ↦ omega (arith, taken, dropped) | false ↦ omega arith ]

small_in : (file : List ℕ) (hs : List SectionHeader) (name : List ℕ) → length (bytes_of_name (map (section_of file) hs) name) ≤ length file
small_in file [] name = omega arith
small_in file (h ∷ hs) name =
    elim (same_bytes (section_of file h).name name) as (λ b. length (option_map_or (λ (s : NamedSection). s.bytes) (cond b (Some (section_of file h)) (find (λ s. same_bytes s.name name) (map (section_of file) hs))) []) ≤ length file) [
      | true ↦ bytes_small file h
      | false ↦ small_in file hs name
    ]

pub sections_small : (file name : List ℕ) → length (bytes_of_name (sections file) name) ≤ length file
unfolding sections
sections_small file name = small_in file (filter is_section (section_headers file)) name
