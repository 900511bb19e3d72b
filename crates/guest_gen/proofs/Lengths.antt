-- How long the parts are.
use Rattle.std.proofs.Common.{◌≡◌, ℕ, ◌+◌, ◌*◌, ◌%◌, ◌≤◌, List, [], ◌∷◌, ◌++◌, length, codes, decimal, refl, ap, ◌∙◌, arith}
use Rattle.std.specs.List.{flat_map, range_with_len}
use Rattle.std.proofs.lemmas.List.{length-append}
use Rattle.std.proofs.lemmas.Fmt.{length-decimal-le}
use Rattle.std.proofs.lemmas.List.FromFn.{length-range_with_len}
use Rattle.std.specs.Fmt.{digits}
use Rattle.guest_gen.specs.Code.{code, function_bytes, functions_bytes, start_words}
use Rattle.prof_bytes.specs.Number.{word}
use Rattle.guest_gen.specs.declared.file.Sizes.{Sizes}
use Rattle.guest_gen.specs.declared.file.SectionHeader.{SectionHeader}
use Rattle.guest_gen.specs.Draws.{draw, draw_state}
use Rattle.guest_gen.specs.File.{elf_header, guest_file, program_header, section_header_bytes, guest_section_headers, sizes_of, strtab, symtab, shstrtab}
use Rattle.guest_gen.specs.Frames.{debug_frame, fde, fdes}
use Rattle.guest_gen.specs.Guest.{slice_line, slice_lines}

each_long : (f : ℕ → List ℕ) (size : ℕ) → ((i : ℕ) → length (f i) ≡ size) → (ns : List ℕ) → length (flat_map f ns) ≡ size * length ns
each_long f size each [] = omega arith
each_long f size each (n ∷ ns) = (let parts = length-append (f n) (flat_map f ns) in let one = each n in let rest = each_long f size each ns in grind (arith, parts, one, rest))

each_short : (f : ℕ → List ℕ) (size : ℕ) → ((i : ℕ) → length (f i) ≤ size) → (ns : List ℕ) → length (flat_map f ns) ≤ size * length ns
each_short f size each [] = omega arith
each_short f size each (n ∷ ns) = (let parts = length-append (f n) (flat_map f ns) in let one = each n in let rest = each_short f size each ns in grind (arith, parts, one, rest))

function_long : (s i : ℕ) → length (function_bytes s i) ≡ 52
unfolding function_bytes
function_long s i = refl

functions_long : (s count : ℕ) → length (functions_bytes s count) ≡ 52 * count
unfolding functions_bytes
functions_long s count = each_long (function_bytes s) 52 (function_long s) (range_with_len 0 count) ∙ ap (λ (n : ℕ). 52 * n) (length-range_with_len 0 count)

pub code_long : (s : ℕ) → length (code s) ≡ 2512
code_long s =
    let parts = length-append (flat_map word start_words) (functions_bytes s 48) in
    let rest = functions_long s 48 in
    let front : length (flat_map word start_words) ≡ 16 = refl in
    omega (arith, parts, rest, front)

pub frames_long : length debug_frame ≡ 1552
unfolding fdes fde
frames_long = refl

pub symbols_long : length symtab ≡ 800
unfolding symtab digits
symbols_long = refl

pub names_long : length strtab ≡ 190
unfolding strtab digits
names_long = refl

-- ---- of bytes that are these

pub code_size : (bytes : List ℕ) (s : ℕ) → bytes ≡ code s → length bytes ≡ 2512
code_size bytes s is = ap (λ (l : List ℕ). length l) is ∙ code_long s

pub frames_size : (bytes : List ℕ) → bytes ≡ debug_frame → length bytes ≡ 1552
frames_size bytes is = ap (λ (l : List ℕ). length l) is ∙ frames_long

pub symbols_size : (bytes : List ℕ) → bytes ≡ symtab → length bytes ≡ 800
symbols_size bytes is = ap (λ (l : List ℕ). length l) is ∙ symbols_long

pub names_size : (bytes : List ℕ) → bytes ≡ strtab → length bytes ≡ 190
names_size bytes is = ap (λ (l : List ℕ). length l) is ∙ names_long

-- ---- of the whole files

slice_short : (s j : ℕ) → length (slice_line s j) ≤ 42
unfolding slice_line
slice_short s j =
    let at : ℕ = draw_state (2 * j) s in
    let hart : ℕ = draw at 0 % 4 in
    let count : ℕ = 1 + draw at 1 % 997 in
    let a = length-decimal-le 20 hart (omega arith) (omega arith) (omega arith) in
    let b = length-decimal-le 20 count (omega arith) (omega arith) (omega arith) in
    let ab = length-append (decimal hart ++ codes " " ++ decimal count) (codes "\n") in
    let cd = length-append (decimal hart ++ codes " ") (decimal count) in
    let ef = length-append (decimal hart) (codes " ") in
    omega (arith, a, b, ab, cd, ef)

slices_short : (s count : ℕ) → length (slice_lines s count) ≤ 42 * count
unfolding slice_lines
slices_short s count = (let all = each_short (slice_line s) 42 (slice_short s) (range_with_len 0 count) in let many = length-range_with_len 0 count in grind (arith, all, many))

pub schedule_short : (text : List ℕ) (s : ℕ) → text ≡ codes "harts 4\n" ++ slice_lines s 4000 → length text ≤ 4194304
schedule_short text s is =
    let all = ap (λ (l : List ℕ). length l) is in
    let parts = length-append (codes "harts 4\n") (slice_lines s 4000) in
    let rest = slices_short s 4000 in
    omega (arith, all, parts, rest)

header_long : (h : SectionHeader) → length (section_header_bytes h) ≡ 40
unfolding section_header_bytes
header_long h = refl

head_long : (s : Sizes) → length (elf_header s) ≡ 52
unfolding elf_header
head_long s = refl

segment_long : (s : Sizes) → length (program_header s) ≡ 32
unfolding program_header
segment_long s = refl

headers_long : (hs : List SectionHeader) → length (flat_map section_header_bytes hs) ≡ 40 * length hs
headers_long [] = refl
headers_long (h ∷ hs) = (let parts = length-append (section_header_bytes h) (flat_map section_header_bytes hs) in let one = header_long h in let rest = headers_long hs in omega (arith, parts, one, rest))

eight_long : (a b c d e f g h : List ℕ) → length (a ++ b ++ c ++ d ++ e ++ f ++ g ++ h) ≡ length a + length b + length c + length d + length e + length f + length g + length h
eight_long a b c d e f g h =
    let p1 = length-append a b in
    let p2 = length-append (a ++ b) c in
    let p3 = length-append (a ++ b ++ c) d in
    let p4 = length-append (a ++ b ++ c ++ d) e in
    let p5 = length-append (a ++ b ++ c ++ d ++ e) f in
    let p6 = length-append (a ++ b ++ c ++ d ++ e ++ f) g in
    let p7 = length-append (a ++ b ++ c ++ d ++ e ++ f ++ g) h in
    omega (arith, p1, p2, p3, p4, p5, p6, p7)

pub program_short : (text own : List ℕ) → text ≡ guest_file own → length own ≡ 2512 → length text ≤ 67108864
unfolding guest_file
program_short text own is long =
    let sizes : Sizes = sizes_of own in
    let all = ap (λ (l : List ℕ). length l) is in
    let parts = eight_long (elf_header sizes) (program_header sizes) own debug_frame symtab strtab shstrtab (flat_map section_header_bytes (guest_section_headers sizes)) in
    let head = head_long sizes in
    let segment = segment_long sizes in
    let frames = frames_long in
    let symbols = symbols_long in
    let names = names_long in
    let headers = headers_long (guest_section_headers sizes) in
    let section_names : length shstrtab ≡ 40 = refl in
    omega (arith, all, parts, long, head, segment, frames, symbols, names, headers, section_names)
