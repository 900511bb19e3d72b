-- What lies where in a guest's file.
use Rattle.std.proofs.Common.{◌≡◌, ℕ, ◌+◌, List, [], ◌∷◌, ◌++◌, length, refl, sym, ap, ap₂, ◌∙◌, arith, append_assoc, append-nil, length-append, subst}
use Rattle.std.specs.List.{flat_map}
use Rattle.prof_bytes.specs.Number.{words}
use Rattle.guest_gen.specs.Code.{code, entry}
use Rattle.guest_gen.specs.File.{e_ident, elf_header, frames_at, guest_file, guest_section_headers, halves, headers_at, names_at, program_header, section_header_bytes, section_names_at, shstrtab, sizes_of, strtab, symbols_at, symtab}
use Rattle.guest_gen.specs.Frames.{debug_frame}
use Rattle.guest_gen.specs.Guest.{guest_of}
use Rattle.guest_gen.proofs.Lengths.{code_long, frames_long, names_long, symbols_long}
use Rattle.guest_laws.proofs.Parts.{HasPart, first_part, later_part}

-- ---- the parts of the file

-- the file's header, with the place of the section headers
unfoldable pub head_bytes : ℕ → List ℕ
head_bytes place = e_ident ++ halves (2 ∷ 243 ∷ []) ++ words (1 ∷ entry ∷ 52 ∷ place ∷ 0 ∷ []) ++ halves (52 ∷ 32 ∷ 1 ∷ 40 ∷ 5 ∷ 4 ∷ [])

-- the program header, with the size of the code
unfoldable pub segment_bytes : ℕ → List ℕ
segment_bytes size = words (1 ∷ 84 ∷ entry ∷ entry ∷ size ∷ size ∷ 5 ∷ 4 ∷ [])

-- the section headers, with the places and the sizes of the sections
unfoldable pub table_bytes : ℕ → ℕ → ℕ → ℕ → ℕ → ℕ → ℕ → List ℕ
table_bytes a b c d e f g =
    words (0 ∷ 0 ∷ 0 ∷ 0 ∷ 0 ∷ 0 ∷ 0 ∷ 0 ∷ 0 ∷ 0 ∷ []) ++ (words (1 ∷ 1 ∷ 0 ∷ 0 ∷ a ∷ b ∷ 0 ∷ 0 ∷ 0 ∷ 0 ∷ []) ++ (words (14 ∷ 2 ∷ 0 ∷ 0 ∷ c ∷ d ∷ 3 ∷ 1 ∷ 0 ∷ 16 ∷ [])
    ++ (words (22 ∷ 3 ∷ 0 ∷ 0 ∷ e ∷ f ∷ 0 ∷ 0 ∷ 0 ∷ 0 ∷ []) ++ (words (30 ∷ 3 ∷ 0 ∷ 0 ∷ g ∷ 40 ∷ 0 ∷ 0 ∷ 0 ∷ 0 ∷ []) ++ []))))

unfoldable pub front : List ℕ
front = head_bytes 5178 ++ segment_bytes 2512

unfoldable pub back : List ℕ
back = table_bytes 2596 1552 4148 800 4948 190 5138

pub front_long : length front ≡ 84
unfolding front head_bytes segment_bytes
front_long = refl

pub back_long : length back ≡ 200
unfolding back table_bytes
back_long = refl

pub section_names_long : length shstrtab ≡ 40
section_names_long = refl

head_is : (own : List ℕ) → length own ≡ 2512 → elf_header (sizes_of own) ≡ head_bytes 5178
unfolding elf_header head_bytes
head_is own long =
    let a = frames_long in
    let b = symbols_long in
    let c = names_long in
    let place : headers_at (sizes_of own) ≡ 5178 = omega (arith, long, a, b, c) in
    ap head_bytes place

segment_is : (own : List ℕ) → length own ≡ 2512 → program_header (sizes_of own) ≡ segment_bytes 2512
unfolding program_header segment_bytes
segment_is own long = ap segment_bytes long

table_bytes_are : (own : List ℕ) → length own ≡ 2512 → flat_map section_header_bytes (guest_section_headers (sizes_of own)) ≡ back
unfolding section_header_bytes table_bytes back
table_bytes_are own long =
    let a = frames_long in
    let b = symbols_long in
    let c = names_long in
    let p : frames_at (sizes_of own) ≡ 2596 = omega (arith, long) in
    let q : symbols_at (sizes_of own) ≡ 4148 = omega (arith, long, a) in
    let r : names_at (sizes_of own) ≡ 4948 = omega (arith, long, a, b) in
    let t : section_names_at (sizes_of own) ≡ 5138 = omega (arith, long, a, b, c) in
    ap (λ (n : ℕ). table_bytes n (length debug_frame) (symbols_at (sizes_of own)) (length symtab) (names_at (sizes_of own)) (length strtab) (section_names_at (sizes_of own))) p
    ∙ ap (λ (n : ℕ). table_bytes 2596 n (symbols_at (sizes_of own)) (length symtab) (names_at (sizes_of own)) (length strtab) (section_names_at (sizes_of own))) a
    ∙ ap (λ (n : ℕ). table_bytes 2596 1552 n (length symtab) (names_at (sizes_of own)) (length strtab) (section_names_at (sizes_of own))) q
    ∙ ap (λ (n : ℕ). table_bytes 2596 1552 4148 n (names_at (sizes_of own)) (length strtab) (section_names_at (sizes_of own))) b
    ∙ ap (λ (n : ℕ). table_bytes 2596 1552 4148 800 n (length strtab) (section_names_at (sizes_of own))) r
    ∙ ap (λ (n : ℕ). table_bytes 2596 1552 4148 800 4948 n (section_names_at (sizes_of own))) c
    ∙ ap (λ (n : ℕ). table_bytes 2596 1552 4148 800 4948 190 n) t

regrouped : (a b c d e f g : List ℕ) → (((((a ++ b) ++ c) ++ d) ++ e) ++ f) ++ g ≡ a ++ (b ++ (c ++ (d ++ (e ++ (f ++ g)))))
regrouped a b c d e f g = simp append_assoc

-- what lies where in a guest's file
pub record IsGuestFile (file : List ℕ) : Type 0 where
  pub head : HasPart file front 0
  pub frames : HasPart file debug_frame 2596
  pub symbols : HasPart file symtab 4148
  pub names : HasPart file strtab 4948
  pub section_names : HasPart file shstrtab 5138
  pub headers : HasPart file back 5178
  pub long : length file ≡ 5378

all_of : (part : List ℕ) → HasPart part part 0
all_of part = record { before = []; after = []; is = sym (append-nil part); at = refl }

-- seven parts, one after the other
placed : (own : List ℕ) → length own ≡ 2512 → IsGuestFile (front ++ (own ++ (debug_frame ++ (symtab ++ (strtab ++ (shstrtab ++ back))))))
placed own long =
    let r5 : List ℕ = shstrtab ++ back in
    let r4 : List ℕ = strtab ++ r5 in
    let r3 : List ℕ = symtab ++ r4 in
    let r2 : List ℕ = debug_frame ++ r3 in
    let r1 : List ℕ = own ++ r2 in
    let seven = section_names_long in
    let from_own : (part : List ℕ) (offset : ℕ) → HasPart r2 part offset → HasPart (front ++ r1) part (84 + (2512 + offset)) = λ part offset h.
    later_part front r1 part 84 (2512 + offset) front_long (later_part own r2 part 2512 offset long h) in
    let from_frames : (part : List ℕ) (offset : ℕ) → HasPart r3 part offset → HasPart (front ++ r1) part (84 + (2512 + (1552 + offset))) = λ part offset h.
    from_own part (1552 + offset) (later_part debug_frame r3 part 1552 offset frames_long h) in
    let from_symbols : (part : List ℕ) (offset : ℕ) → HasPart r4 part offset → HasPart (front ++ r1) part (84 + (2512 + (1552 + (800 + offset)))) = λ part offset h.
    from_frames part (800 + offset) (later_part symtab r4 part 800 offset symbols_long h) in
    let from_names : (part : List ℕ) (offset : ℕ) → HasPart r5 part offset → HasPart (front ++ r1) part (84 + (2512 + (1552 + (800 + (190 + offset))))) = λ part offset h.
    from_symbols part (190 + offset) (later_part strtab r5 part 190 offset names_long h) in
    let l1 = length-append front r1 in
    let l2 = length-append own r2 in
    let l3 = length-append debug_frame r3 in
    let l4 = length-append symtab r4 in
    let l5 = length-append strtab r5 in
    let l6 = length-append shstrtab back in
    let a = front_long in
    let b = frames_long in
    let c = symbols_long in
    let d = names_long in
    let e = back_long in
    record {
      head = first_part front r1;
      frames = from_own debug_frame 0 (first_part debug_frame r3);
      symbols = from_frames symtab 0 (first_part symtab r4);
      names = from_symbols strtab 0 (first_part strtab r5);
      section_names = from_names shstrtab 0 (first_part shstrtab back);
      headers = from_names back 40 (later_part shstrtab back back 40 0 section_names_long (all_of back));
      long = omega (arith, l1, l2, l3, l4, l5, l6, a, b, c, d, e, seven, long);
    }

file_is : (own : List ℕ) → length own ≡ 2512 → guest_file own ≡ front ++ (own ++ (debug_frame ++ (symtab ++ (strtab ++ (shstrtab ++ back)))))
unfolding guest_file front
file_is own long =
    let with_table : List ℕ → List ℕ = λ t. (((((((elf_header (sizes_of own) ++ program_header (sizes_of own)) ++ own) ++ debug_frame) ++ symtab) ++ strtab) ++ shstrtab) ++ t) in
    let with_heads : List ℕ → List ℕ → List ℕ = λ h p. (((((((h ++ p) ++ own) ++ debug_frame) ++ symtab) ++ strtab) ++ shstrtab) ++ back) in
    ap with_table (table_bytes_are own long) ∙ ap₂ with_heads (head_is own long) (segment_is own long)
    ∙ regrouped (head_bytes 5178 ++ segment_bytes 2512) own debug_frame symtab strtab shstrtab back

pub guest_file_is : (number : ℕ) → IsGuestFile (guest_of number).elf
guest_file_is number = (let long = code_long number in subst IsGuestFile (sym (file_is (code number) long)) (placed (code number) long))
