-- Parts of a file that are appended one after the other.
use Rattle.std.proofs.Common.{◌≡◌, ℕ, List, [], ◌++◌, sym, ap, subst, ◌∙◌}
use Rattle.std.specs.List.{flat_map}
use Rattle.prof_bytes.proofs.Appending.{two_parts}
use Rattle.guest_gen.specs.declared.file.Sizes.{Sizes}
use Rattle.guest_gen.specs.File.{elf_header, guest_file, program_header, section_header_bytes, guest_section_headers, shstrtab, strtab, symtab}
use Rattle.guest_gen.specs.Frames.{debug_frame}
use Rattle.guest_gen.specs.private.Fits.{sized}

pub four_parts : (start a b c d p q r s : List ℕ) → a ≡ start ++ p → b ≡ a ++ q → c ≡ b ++ r → d ≡ c ++ s → d ≡ start ++ (p ++ q ++ r ++ s)
four_parts start a b c d p q r s ea eb ec ed = two_parts start c d (p ++ q ++ r) s (two_parts start b c (p ++ q) r (two_parts start a b p q ea eb) ec) ed

abbrev Follows : List ℕ → List ℕ → List ℕ → List ℕ → Sizes → Type 0
Follows code frames symbols names sizes = (a b c d e f g h : List ℕ) → a ≡ elf_header sizes → b ≡ a ++ program_header sizes → c ≡ b ++ code → d ≡ c ++ frames
    → e ≡ d ++ symbols → f ≡ e ++ names → g ≡ f ++ shstrtab → h ≡ g ++ flat_map section_header_bytes (guest_section_headers sizes) → h ≡ guest_file code

base : (code : List ℕ) → Follows code debug_frame symtab strtab (sized code debug_frame symtab strtab)
unfolding guest_file
base code a b c d e f g h ea eb ec ed ee ef eg eh =
    eh ∙ ap (λ (l : List ℕ). l ++ flat_map section_header_bytes (guest_section_headers (sized code debug_frame symtab strtab)))
    (eg ∙ ap (λ (l : List ℕ). l ++ shstrtab) (ef ∙ ap (λ (l : List ℕ). l ++ strtab) (ee ∙ ap (λ (l : List ℕ). l ++ symtab) (ed ∙ ap (λ (l : List ℕ). l ++ debug_frame) (ec ∙ ap (λ (l : List ℕ). l ++ code) (eb ∙ ap (λ (l : List ℕ). l ++ program_header (sized code debug_frame symtab strtab)) ea))))))

file_made : (code frames symbols names : List ℕ) → frames ≡ debug_frame → symbols ≡ symtab → names ≡ strtab → Follows code frames symbols names (sized code frames symbols names)
file_made code frames symbols names frames_are symbols_are names_are =
    subst (λ (l : List ℕ). Follows code l symbols names (sized code l symbols names)) (sym frames_are) (subst (λ (l : List ℕ). Follows code debug_frame l names (sized code debug_frame l names)) (sym symbols_are)
    (subst (λ (l : List ℕ). Follows code debug_frame symtab l (sized code debug_frame symtab l)) (sym names_are) (base code)))

pub file_sized : (code frames symbols names : List ℕ) (sizes : Sizes) → sizes ≡ sized code frames symbols names → frames ≡ debug_frame → symbols ≡ symtab → names ≡ strtab → Follows code frames symbols names sizes
file_sized code frames symbols names sizes are frames_are symbols_are names_are = subst (Follows code frames symbols names) (sym are) (file_made code frames symbols names frames_are symbols_are names_are)

-- after nothing
pub from_none : (start out part : List ℕ) → start ≡ [] → out ≡ start ++ part → out ≡ part
from_none start out part none is = is ∙ ap (λ (l : List ℕ). l ++ part) none
