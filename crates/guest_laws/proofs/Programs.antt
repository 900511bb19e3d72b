-- The program of a guest is read.
use Rattle.std.proofs.Common.{◌≡◌, ℕ, zero, suc, ◌+◌, ◌*◌, ◌%◌, ◌<◌, ◌≤◌, ◌==◌, ◌&&◌, not, Bool, true, false, cond, List, [], ◌∷◌, map, filter, find, slice_get, slice_index, codes, Option, Some, None, is_none, unwrap_or, option_map, Ok, refl, ap, ap₂, ◌∙◌, arith, lit≤, lit<}
use Rattle.std.specs.Fmt.{digits}
use Rattle.std.specs.List.{range_with_len}
use Rattle.std.specs.Option.{option_map_or}
use Rattle.std.proofs.Math.Path.{fun_ext}
use Rattle.std.proofs.lemmas.Bool.{agree_below, agree_below_at, and_right}
use Rattle.elf_image.specs.declared.elf.TheConstants.{SHT_STRTAB, SHT_SYMTAB}
use Rattle.elf_image.specs.Fields.{number_of, string_in, table_entries}
use Rattle.elf_image.specs.Image.{NamedSection}
use Rattle.elf_image.specs.Headers.{bytes_of_index, is_function, is_load, is_section, load_headers, program_header_at, program_headers, section_bytes, section_header_at, section_headers, section_name_of, section_of, sections, segment_of, segments, symbol_entry, symbol_name, symbol_table}
use Rattle.elf_image.specs.Refusals.{bad_table, compressed_code, compressed_section, differs, first_of, function_with_unterminated_name, header_place, is_string_table, not_elf, not_riscv32_exec, overfilled, section_outside, shared, too_high, unfilled, unterminated_name}
use Rattle.elf_image.specs.Reading.{checked_all_segments, checked_each_segment, checked_header, checked_sections, checked_symbols, image_of, image_of_file}
use Rattle.guest_gen.specs.Code.{entry}
use Rattle.guest_gen.specs.File.{shstrtab, strtab, symtab}
use Rattle.guest_gen.specs.Frames.{debug_frame}
use Rattle.guest_gen.specs.Guest.{guest_of}
use Rattle.guest_gen.proofs.Lengths.{frames_long, names_long, symbols_long}
use Rattle.guest_laws.specs.Read.{code_segment, guest_image, guest_sections, unloaded}
use Rattle.guest_laws.proofs.Parts.{byte_in_part, bytes_of_part, number_in_part}
use Rattle.guest_laws.proofs.Places.{IsGuestFile, back, back_long, front, front_long, guest_file_is, head_bytes, section_names_long, segment_bytes, table_bytes}

-- ---- the file's header

head_number : (file : List ℕ) → IsGuestFile file → (count k value : ℕ) → k + count ≤ 84 → number_of count front k ≡ value → number_of count file k ≡ value
head_number file g count k value within is =
    let long = front_long in
    number_in_part file front 0 g.head count k k (omega (arith, within, long)) (let e : k ≡ 0 + k = omega arith in e) ∙ is

head_byte : (file : List ℕ) → IsGuestFile file → (k value : ℕ) → k < 84 → slice_index front k ≡ value → slice_index file k ≡ value
head_byte file g k value within is =
    let long = front_long in
    byte_in_part file front 0 g.head k k (omega (arith, within, long)) (let e : k ≡ 0 + k = omega arith in e) ∙ is

record Header (file : List ℕ) : Type 0 where
  mag0 : slice_index file 0 ≡ 0x7f
  mag1 : slice_index file 1 ≡ 0x45
  mag2 : slice_index file 2 ≡ 0x4c
  mag3 : slice_index file 3 ≡ 0x46
  class : slice_index file 4 ≡ 1
  order : slice_index file 5 ≡ 1
  format : slice_index file 6 ≡ 1
  kind : number_of 2 file 16 ≡ 2
  machine : number_of 2 file 18 ≡ 243
  version : number_of 4 file 20 ≡ 1
  phoff : number_of 4 file 28 ≡ 52
  shoff : number_of 4 file 32 ≡ 5178
  flags : number_of 4 file 36 ≡ 0
  phentsize : number_of 2 file 42 ≡ 32
  phnum : number_of 2 file 44 ≡ 1
  shentsize : number_of 2 file 46 ≡ 40
  shnum : number_of 2 file 48 ≡ 5
  shstrndx : number_of 2 file 50 ≡ 4

header_is : (file : List ℕ) → IsGuestFile file → Header file
unfolding number_of front head_bytes segment_bytes
header_is file g = record {
  mag0 = head_byte file g 0 0x7f (lit< tt) refl;
  mag1 = head_byte file g 1 0x45 (lit< tt) refl;
  mag2 = head_byte file g 2 0x4c (lit< tt) refl;
  mag3 = head_byte file g 3 0x46 (lit< tt) refl;
  class = head_byte file g 4 1 (lit< tt) refl;
  order = head_byte file g 5 1 (lit< tt) refl;
  format = head_byte file g 6 1 (lit< tt) refl;
  kind = head_number file g 2 16 2 (lit≤ tt) refl;
  machine = head_number file g 2 18 243 (lit≤ tt) refl;
  version = head_number file g 4 20 1 (lit≤ tt) refl;
  phoff = head_number file g 4 28 52 (lit≤ tt) refl;
  shoff = head_number file g 4 32 5178 (lit≤ tt) refl;
  flags = head_number file g 4 36 0 (lit≤ tt) refl;
  phentsize = head_number file g 2 42 32 (lit≤ tt) refl;
  phnum = head_number file g 2 44 1 (lit≤ tt) refl;
  shentsize = head_number file g 2 46 40 (lit≤ tt) refl;
  shnum = head_number file g 2 48 5 (lit≤ tt) refl;
  shstrndx = head_number file g 2 50 4 (lit≤ tt) refl;
}

header_ok : (file : List ℕ) → IsGuestFile file → checked_header file ≡ Ok tt
unfolding checked_header not_elf not_riscv32_exec compressed_code header_place
header_ok file g =
    let h = header_is file g in
    rw (h.mag0, h.mag1, h.mag2, h.mag3, h.class, h.order, h.format, h.kind, h.machine, h.version, h.phoff, h.shoff, h.flags, h.phentsize, h.phnum, h.shentsize, h.shnum, h.shstrndx, g.long) refl

-- ---- the segment

cells : {X : Type 0} (x y : X) (xs ys : List X) → x ≡ y → xs ≡ ys → x ∷ xs ≡ y ∷ ys
cells {X} x y xs ys a b = ap₂ (λ (z : X) (zs : List X). z ∷ zs) a b

text_header_is : (file : List ℕ) → IsGuestFile file → program_header_at file 52 ≡ program_header_at front 52
text_header_is file g =
    let long = front_long in
    let field : (k : ℕ) → k ≤ 80 → number_of 4 file k ≡ number_of 4 front k = λ k few.
    number_in_part file front 0 g.head 4 k k (omega (arith, few, long)) (omega arith) in
    let a = field 52 (lit≤ tt) in
    let b = field 56 (lit≤ tt) in
    let c = field 60 (lit≤ tt) in
    let d = field 68 (lit≤ tt) in
    let e = field 72 (lit≤ tt) in
    let f = field 76 (lit≤ tt) in
    rw (a, b, c, d, e, f) refl

program_headers_are : (file : List ℕ) → IsGuestFile file → program_headers file ≡ program_header_at front 52 ∷ []
unfolding program_headers
program_headers_are file g =
    let h = header_is file g in
    ap₂ (λ (o n : ℕ). table_entries (program_header_at file) o 32 n) h.phoff h.phnum ∙ cells _ _ _ _ (text_header_is file g) refl

load_headers_are : (file : List ℕ) → IsGuestFile file → load_headers file ≡ program_header_at front 52 ∷ []
unfolding load_headers number_of front head_bytes segment_bytes
load_headers_are file g = ap (filter is_load) (program_headers_are file g)

pub segments_are : (file : List ℕ) → IsGuestFile file → segments file ≡ code_segment ∷ []
unfolding segments number_of front head_bytes segment_bytes
segments_are file g = ap (map segment_of) (load_headers_are file g)

none_overfilled : overfilled (program_header_at front 52 ∷ []) ≡ None
unfolding overfilled number_of front head_bytes segment_bytes
none_overfilled = refl

none_unfilled : (file : List ℕ) → IsGuestFile file → unfilled file (program_header_at front 52 ∷ []) ≡ None
unfolding unfilled number_of front head_bytes segment_bytes
none_unfilled file g = rw g.long refl

none_too_high : too_high (program_header_at front 52 ∷ []) ≡ None
unfolding too_high number_of front head_bytes segment_bytes
none_too_high = refl

none_shared : shared (program_header_at front 52 ∷ []) ≡ None
unfolding shared number_of front head_bytes segment_bytes
none_shared = refl

segments_ok : (file : List ℕ) → IsGuestFile file → checked_all_segments file ≡ Ok tt
unfolding checked_all_segments checked_each_segment
segments_ok file g =
    let loads = load_headers_are file g in
    let a : overfilled (load_headers file) ≡ None = ap overfilled loads ∙ none_overfilled in
    let b : unfilled file (load_headers file) ≡ None = ap (unfilled file) loads ∙ none_unfilled file g in
    let c : too_high (load_headers file) ≡ None = ap too_high loads ∙ none_too_high in
    let d : shared (load_headers file) ≡ None = ap shared loads ∙ none_shared in
    rw (a, b, c, d) refl

-- ---- the section headers

-- a header's fields in the file are those in the table
section_header_in : (file : List ℕ) → IsGuestFile file → (k at : ℕ) → k + 40 ≤ 200 → at ≡ 5178 + k → section_header_at file at ≡ record (section_header_at back k) { offset = at }
section_header_in file g k at within is =
    let long = back_long in
    let field : (f : ℕ) → f ≤ 36 → number_of 4 file (at + f) ≡ number_of 4 back (k + f) = λ f few.
    number_in_part file back 5178 g.headers 4 (k + f) (at + f) (omega (arith, within, few, long)) (omega (arith, is)) in
    let a = field 0 (omega arith) in
    let b = field 4 (omega arith) in
    let c = field 8 (omega arith) in
    let d = field 12 (omega arith) in
    let e = field 16 (omega arith) in
    let f = field 20 (omega arith) in
    let h = field 24 (omega arith) in
    let i = field 36 (omega arith) in
    rw (a, b, c, d, e, f, h, i) refl

section_headers_are : (file : List ℕ) → IsGuestFile file → section_headers file ≡ map (λ (k : ℕ). record (section_header_at back (40 * k)) { offset = 5178 + 40 * k }) (range_with_len 0 5)
unfolding section_headers
section_headers_are file g =
    let h = header_is file g in
    ap₂ (λ (o n : ℕ). table_entries (section_header_at file) o 40 n) h.shoff h.shnum
    ∙ cells _ _ _ _ (section_header_in file g 0 5178 (lit≤ tt) refl) (cells _ _ _ _ (section_header_in file g 40 5218 (lit≤ tt) refl) (cells _ _ _ _ (section_header_in file g 80 5258 (lit≤ tt) refl)
    (cells _ _ _ _ (section_header_in file g 120 5298 (lit≤ tt) refl) (cells _ _ _ _ (section_header_in file g 160 5338 (lit≤ tt) refl) refl))))

-- ---- the sections

-- what is made of headers that are others
module _ {H X : Type 0} (hs ks : List H) (same : hs ≡ ks) where
  by_index : (make : H → X) (n : ℕ) (none : X) → option_map_or make (slice_get hs n) none ≡ option_map_or make (slice_get ks n) none
  by_index make n none = ap (λ (l : List H). option_map_or make (slice_get l n) none) same

  by_filter : (own : H → Bool) (make : H → X) → map make (filter own hs) ≡ map make (filter own ks)
  by_filter own make = ap (λ (l : List H). map make (filter own l)) same

by_first : {H : Type 0} (hs ks : List H) → hs ≡ ks → (own : H → Bool) → find own hs ≡ find own ks
by_first {H} hs ks same own = ap (λ (l : List H). find own l) same

applied : {A B : Type 0} (f g : A → B) (x : A) → f ≡ g → f x ≡ g x
applied {A} {B} f g x same = ap (λ (h : A → B). h x) same

-- the first of some headers whose name is missing, where the names are these
first_by : {H : Type 0} (own : H → Bool) (place : H → ℕ) (name_of other : H → Option (List ℕ)) (hs : List H) → name_of ≡ other
    → option_map place (find (λ h. own h && is_none (name_of h)) hs) ≡ option_map place (find (λ h. own h && is_none (other h)) hs)
first_by {H} own place name_of other hs same = ap (λ (f : H → Option (List ℕ)). option_map place (find (λ h. own h && is_none (f h)) hs)) same

-- the string tables
section_string_table : (file : List ℕ) → IsGuestFile file → bytes_of_index file 4 ≡ shstrtab
unfolding number_of back table_bytes
section_string_table file g =
    by_index (section_headers file) (map (λ (k : ℕ). record (section_header_at back (40 * k)) { offset = 5178 + 40 * k }) (range_with_len 0 5)) (section_headers_are file g) (section_bytes file) 4 [] ∙ bytes_of_part file shstrtab 5138 40 g.section_names section_names_long

symbol_string_table : (file : List ℕ) → IsGuestFile file → bytes_of_index file 3 ≡ strtab
unfolding number_of back table_bytes
symbol_string_table file g =
    by_index (section_headers file) (map (λ (k : ℕ). record (section_header_at back (40 * k)) { offset = 5178 + 40 * k }) (range_with_len 0 5)) (section_headers_are file g) (section_bytes file) 3 [] ∙ bytes_of_part file strtab 4948 190 g.names names_long

names_found : (file : List ℕ) → IsGuestFile file → section_name_of file ≡ (λ h. string_in shstrtab h.sh_name)
unfolding section_name_of
names_found file g =
    let own = header_is file g in
    fun_ext (λ h. ap (λ (n : ℕ). cond (n == 0) (Some []) (string_in (bytes_of_index file n) h.sh_name)) own.shstrndx ∙ ap (λ (b : List ℕ). string_in b h.sh_name) (section_string_table file g))

within_file : (file : List ℕ) → IsGuestFile file → section_outside file (section_headers file) ≡ None
unfolding section_outside number_of back table_bytes
within_file file g = ap (section_outside file) (section_headers_are file g) ∙ rw g.long refl

names_end : (file : List ℕ) → IsGuestFile file → unterminated_name file (section_headers file) ≡ None
unfolding unterminated_name string_in number_of back table_bytes
names_end file g =
    ap (unterminated_name file) (section_headers_are file g) ∙ first_by is_section (λ h. h.offset) (section_name_of file) (λ h. string_in shstrtab h.sh_name) (map (λ (k : ℕ). record (section_header_at back (40 * k)) { offset = 5178 + 40 * k }) (range_with_len 0 5)) (names_found file g)

none_compressed : (file : List ℕ) → IsGuestFile file → compressed_section file (section_headers file) ≡ None
unfolding compressed_section number_of back table_bytes
none_compressed file g = ap (compressed_section file) (section_headers_are file g)

sections_ok : (file : List ℕ) → IsGuestFile file → checked_sections file ≡ Ok tt
unfolding checked_sections
sections_ok file g =
    let a = within_file file g in
    let b = names_end file g in
    let c = none_compressed file g in
    rw (a, b, c) refl

named_is : (found : Option (List ℕ)) (name own bytes : List ℕ) → found ≡ Some name → own ≡ bytes → (let s : NamedSection = record { name = unwrap_or found []; address = 0; bytes = own } in s) ≡ unloaded name bytes
named_is found name own bytes is_name is_bytes =
    let with_parts : Option (List ℕ) → List ℕ → NamedSection = λ n b. record { name = unwrap_or n []; address = 0; bytes = b } in
    ap₂ with_parts is_name is_bytes

record SectionNames : Type 0 where
  frames : string_in shstrtab 1 ≡ Some (codes ".debug_frame")
  symbols : string_in shstrtab 14 ≡ Some (codes ".symtab")
  names : string_in shstrtab 22 ≡ Some (codes ".strtab")
  section_names : string_in shstrtab 30 ≡ Some (codes ".shstrtab")

section_names_are : SectionNames
unfolding string_in
section_names_are = record { frames = refl; symbols = refl; names = refl; section_names = refl }

pub sections_are : (file : List ℕ) → IsGuestFile file → sections file ≡ guest_sections
unfolding sections number_of back table_bytes
sections_are file g =
    let n = section_names_are in
    let found = names_found file g in
    let a = applied (section_name_of file) (λ h. string_in shstrtab h.sh_name) (record (section_header_at back 40) { offset = 5218 }) found ∙ n.frames in
    let b = applied (section_name_of file) (λ h. string_in shstrtab h.sh_name) (record (section_header_at back 80) { offset = 5258 }) found ∙ n.symbols in
    let c = applied (section_name_of file) (λ h. string_in shstrtab h.sh_name) (record (section_header_at back 120) { offset = 5298 }) found ∙ n.names in
    let d = applied (section_name_of file) (λ h. string_in shstrtab h.sh_name) (record (section_header_at back 160) { offset = 5338 }) found ∙ n.section_names in
    by_filter (section_headers file) (map (λ (k : ℕ). record (section_header_at back (40 * k)) { offset = 5178 + 40 * k }) (range_with_len 0 5)) (section_headers_are file g) is_section (section_of file)
    ∙ cells _ _ _ _ (named_is _ (codes ".debug_frame") _ debug_frame a (bytes_of_part file debug_frame 2596 1552 g.frames frames_long))
    (cells _ _ _ _ (named_is _ (codes ".symtab") _ symtab b (bytes_of_part file symtab 4148 800 g.symbols symbols_long))
    (cells _ _ _ _ (named_is _ (codes ".strtab") _ strtab c (bytes_of_part file strtab 4948 190 g.names names_long))
    (cells _ _ _ _ (named_is _ (codes ".shstrtab") _ shstrtab d (bytes_of_part file shstrtab 5138 40 g.section_names section_names_long)) refl)))

-- ---- the symbols

table_is : (file : List ℕ) → IsGuestFile file → symbol_table file ≡ Some (record (section_header_at back 80) { offset = 5258 })
unfolding symbol_table number_of back table_bytes
table_is file g = by_first (section_headers file) (map (λ (k : ℕ). record (section_header_at back (40 * k)) { offset = 5178 + 40 * k }) (range_with_len 0 5)) (section_headers_are file g) (λ h. h.sh_type == SHT_SYMTAB)

table_ok : (file : List ℕ) → IsGuestFile file → bad_table file (record (section_header_at back 80) { offset = 5258 }) ≡ None
unfolding bad_table number_of back table_bytes
table_ok file g =
    let named : is_string_table (section_headers file) 3 ≡ true = by_index (section_headers file) (map (λ (k : ℕ). record (section_header_at back (40 * k)) { offset = 5178 + 40 * k }) (range_with_len 0 5)) (section_headers_are file g) (λ h. h.sh_type == SHT_STRTAB) 3 false in
    ap (λ (b : Bool). first_of ((differs 16 16, 5258) ∷ (differs (800 % 16) 0, 5258) ∷ (not b, 5258) ∷ [])) named

-- whether the name of a symbol of this number does not end
abbrev endless : ℕ → Bool
endless k = is_none (string_in strtab (number_of 4 symtab (16 * k)))

all_end_there : agree_below endless (λ k. false) 50 ≡ true
unfolding strtab symtab digits string_in number_of
all_end_there = refl

all_end : (k : ℕ) → k < 50 → endless k ≡ false
all_end k few = agree_below_at endless (λ k. false) 50 k all_end_there few

-- each symbol's name ends
name_there : (file : List ℕ) → IsGuestFile file → (k : ℕ) → k < 50 → number_of 4 file (4148 + 16 * k + 0) ≡ number_of 4 symtab (16 * k)
name_there file g k few = (let long = symbols_long in number_in_part file symtab 4148 g.symbols 4 (16 * k) (4148 + 16 * k + 0) (omega (arith, few, long)) (omega arith))

name_ends : (file : List ℕ) → IsGuestFile file → (k : ℕ) → k < 50 → is_none (symbol_name file (record (section_header_at back 80) { offset = 5258 }) (symbol_entry file (4148 + 16 * k))) ≡ false
unfolding number_of back table_bytes
name_ends file g k few =
    ap (λ (b : List ℕ). is_none (string_in b (number_of 4 file (4148 + 16 * k + 0)))) (symbol_string_table file g) ∙ ap (λ (n : ℕ). is_none (string_in strtab n)) (name_there file g k few) ∙ all_end k few

none_there : {S : Type 0} (entry : ℕ → S) (test : S → Bool) (most a n : ℕ) → a + n ≤ most → ((k : ℕ) → k < most → test (entry k) ≡ false) → find test (map entry (range_with_len a n)) ≡ None
none_there entry test most a zero few each = refl
none_there entry test most a (suc n) few each =
    ap (λ (t : Bool). cond t (Some (entry a)) (find test (map entry (range_with_len (a + 1) n)))) (each a (omega arith)) ∙ none_there entry test most (a + 1) n (omega arith) each

first_none : {S : Type 0} {o : Option S} (place : S → ℕ) → o ≡ None → option_map place o ≡ None
first_none {S} place is = ap (λ (o : Option S). option_map place o) is

names_of_symbols_end : (file : List ℕ) → IsGuestFile file → function_with_unterminated_name file (record (section_header_at back 80) { offset = 5258 }) ≡ None
unfolding function_with_unterminated_name number_of back table_bytes
names_of_symbols_end file g =
    first_none (λ s. s.offset) (none_there (λ (k : ℕ). symbol_entry file (4148 + 16 * k)) (λ s. is_function (segments file) s && is_none (symbol_name file (record (section_header_at back 80) { offset = 5258 }) s)) 50 0 50 (lit≤ tt)
    (λ k few. and_right (is_function (segments file) (symbol_entry file (4148 + 16 * k))) _ (name_ends file g k few)))

symbols_ok : (file : List ℕ) → IsGuestFile file → checked_symbols file (symbol_table file) ≡ Ok tt
symbols_ok file g =
    let a = table_ok file g in
    let b = names_of_symbols_end file g in
    ap (checked_symbols file) (table_is file g) ∙ rw (a, b) refl

-- ---- the whole file

file_ok : (file : List ℕ) → IsGuestFile file → image_of file ≡ Ok (image_of_file file)
unfolding image_of
file_ok file g =
    let a = header_ok file g in
    let b = segments_ok file g in
    let c = sections_ok file g in
    let d = symbols_ok file g in
    rw (a, b, c, d) refl

pub programs_are_read : (number : ℕ) → image_of (guest_of number).elf ≡ Ok (guest_image number)
programs_are_read number = file_ok (guest_of number).elf (guest_file_is number)

pub guest_segments_are : (number : ℕ) → (guest_image number).segments ≡ code_segment ∷ []
guest_segments_are number = segments_are (guest_of number).elf (guest_file_is number)

pub guest_sections_are : (number : ℕ) → (guest_image number).sections ≡ guest_sections
guest_sections_are number = sections_are (guest_of number).elf (guest_file_is number)
