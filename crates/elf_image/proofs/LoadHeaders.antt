-- Segments whose headers were checked are not empty, lie below the stacks and share no address.
use Rattle.std.proofs.Common.{inl, inr, ◌^◌, ◌≡◌, ℕ, zero, suc, ◌+◌, ◌*◌, ◌<◌, ◌≤◌, Bool, true, false, cond, not, List, [], ◌∷◌, length, get_or, map, None, Result, Ok, Err, refl, arith}
use Rattle.std.specs.Prelude.{filter, All, AllPairs, IsTrue, ◌||◌, ◌&&◌, nat_lt}
use Rattle.std.specs.List.{list_any, range_with_len}
use Rattle.std.proofs.lemmas.Bool.{cases_lt, not-false}
use Rattle.std.proofs.lemmas.Bool.Decides.{nat_tests}
use Rattle.std.proofs.lemmas.List.{get_or-map, length-map}
use Rattle.std.proofs.lemmas.List.FromFn.{length-map-range_with_len}
use Rattle.elf_image.specs.declared.header.ProgramHeader.{ProgramHeader}
use Rattle.prof_bytes.specs.Outcome.{◌>>=◌}
use Rattle.elf_image.specs.declared.fault.ElfFault.{ElfFault}
use Rattle.elf_image.specs.declared.fault.ElfRule.TheVariants.{SegmentPlace}
use Rattle.elf_image.specs.Fields.{lies_within}
use Rattle.elf_image.specs.Image.{IsWithin, are_apart, stacks_begin}
use Rattle.elf_image.specs.Headers.{program_header_at, e_phoff, e_phnum, program_headers, is_load, load_headers, segment_of, segments}
use Rattle.elf_image.specs.Refusals.{share, shares_earlier, overfilled, unfilled, too_high, shared}
use Rattle.elf_image.specs.Reading.{refused_at, checked_header, checked_each_segment, checked_all_segments}
use Rattle.elf_image.proofs.Checked.{passed, passed_last, option_map_none, find_none, within, programs_within}

-- headers with ever higher places, from some place on
abbrev IsAscending : ℕ → List ProgramHeader → Type 0
IsAscending low [] = Unit {0}
IsAscending low (h ∷ hs) = (low ≤ h.offset) × IsAscending (h.offset + 1) hs

from_lower : (a b : ℕ) (hs : List ProgramHeader) → a ≤ b → IsAscending b hs → IsAscending a hs
from_lower a b [] le up = tt
from_lower a b (h ∷ hs) le up = (let x : b ≤ h.offset = up.0 in omega arith, up.1)

filter_ascends : (p : ProgramHeader → Bool) (low : ℕ) (hs : List ProgramHeader) → IsAscending low hs → IsAscending low (filter p hs)
filter_ascends p low [] up = tt
filter_ascends p low (h ∷ hs) up = go (p h) (filter_ascends p (h.offset + 1) hs up.1)
  where
    go : (b : Bool) → IsAscending (h.offset + 1) (filter p hs) → IsAscending low (cond b (h ∷ filter p hs) (filter p hs))
    go true rest = (up.0, rest)
    go false rest = from_lower low (h.offset + 1) (filter p hs) (let x : low ≤ h.offset = up.0 in omega arith) rest

table_ascends : (file : List ℕ) (first a n : ℕ) → IsAscending (first + 32 * a) (map (λ k. program_header_at file (first + 32 * k)) (range_with_len a n))
table_ascends file first a zero = tt
table_ascends file first a (suc n) = (omega arith, from_lower (first + 32 * a + 1) (first + 32 * (a + 1)) _ (omega arith) (table_ascends file first (a + 1) n))

loads_ascend : (file : List ℕ) → IsAscending (e_phoff file + 32 * 0) (load_headers file)
unfolding load_headers program_headers
loads_ascend file = filter_ascends is_load (e_phoff file + 32 * 0) _ (table_ascends file (e_phoff file) 0 (e_phnum file))

place_at : (low : ℕ) (hs : List ProgramHeader) (i : ℕ) (d : ProgramHeader) → IsAscending low hs → i < length hs → low ≤ (get_or hs i d).offset
place_at low [] i d up lt = absurd (omega arith)
place_at low (h ∷ hs) zero d up lt = up.0
place_at low (h ∷ hs) (suc i) d up lt =
    let x : h.offset + 1 ≤ (get_or hs i d).offset = place_at (h.offset + 1) hs i d up.1 (omega arith) in
    let y : low ≤ h.offset = up.0 in
    omega arith

pub places_ascend : (low : ℕ) (hs : List ProgramHeader) (i j : ℕ) (d : ProgramHeader) → IsAscending low hs → i < j → j < length hs → (get_or hs i d).offset < (get_or hs j d).offset
places_ascend low [] i j d up lt within = absurd (omega arith)
places_ascend low (h ∷ hs) i zero d up lt within = absurd (omega arith)
places_ascend low (h ∷ hs) zero (suc j) d up lt within =
    let x : h.offset + 1 ≤ (get_or hs j d).offset = place_at (h.offset + 1) hs j d up.1 (omega arith) in omega arith
places_ascend low (h ∷ hs) (suc i) (suc j) d up lt within = places_ascend (h.offset + 1) hs i j d up.1 (omega arith) (omega arith)

or_false : (a b : Bool) → (a || b) ≡ false → (a ≡ false) × (b ≡ false)
or_false true b e = absurd cc
or_false false b e = (refl, e)

any_none : {X : Type 0} (p : X → Bool) (xs : List X) (i : ℕ) (d : X) → list_any p xs ≡ false → i < length xs → p (get_or xs i d) ≡ false
any_none p [] i d e lt = absurd (omega arith)
any_none p (x ∷ xs) zero d e lt = (or_false (p x) (list_any p xs) e).0
any_none p (x ∷ xs) (suc i) d e lt = any_none p xs i d (or_false (p x) (list_any p xs) e).1 (omega arith)

filter_passes : {X : Type 0} (p : X → Bool) (xs : List X) (i : ℕ) (d : X) → i < length (filter p xs) → p (get_or (filter p xs) i d) ≡ true
filter_passes p [] i d lt = absurd (omega arith)
filter_passes {X} p (x ∷ xs) i d lt = go (p x) refl i lt (λ k below. filter_passes p xs k d below)
  where
    go : (b : Bool) → p x ≡ b → (k : ℕ) → k < length (cond b (x ∷ filter p xs) (filter p xs)) → ((m : ℕ) → m < length (filter p xs) → p (get_or (filter p xs) m d) ≡ true)
        → p (get_or (cond b (x ∷ filter p xs) (filter p xs)) k d) ≡ true
    go true here zero below rest = here
    go true here (suc k) below rest = rest k (omega arith)
    go false here k below rest = rest k below

are_loads : (file : List ℕ) (i : ℕ) (d : ProgramHeader) → i < length (load_headers file) → is_load (get_or (load_headers file) i d) ≡ true
unfolding load_headers
are_loads file i d lt = filter_passes is_load (program_headers file) i d lt

-- ---- what the checks found

pub record Checked (file : List ℕ) (h : ProgramHeader) : Type 0 where
  pub load : is_load h ≡ true
  pub filled : nat_lt h.p_memsz h.p_filesz ≡ false
  pub there : lies_within file h.p_offset h.p_filesz ≡ true
  pub low : nat_lt stacks_begin (h.p_vaddr + h.p_memsz) ≡ false

none_over : (hs : List ProgramHeader) → overfilled hs ≡ None → (i : ℕ) (d : ProgramHeader) → i < length hs → nat_lt (get_or hs i d).p_memsz (get_or hs i d).p_filesz ≡ false
unfolding overfilled
none_over hs e = find_none (λ h. nat_lt h.p_memsz h.p_filesz) hs (option_map_none (λ h. h.offset) _ e)

none_unfilled : (file : List ℕ) (hs : List ProgramHeader) → unfilled file hs ≡ None → (i : ℕ) (d : ProgramHeader) → i < length hs → lies_within file (get_or hs i d).p_offset (get_or hs i d).p_filesz ≡ true
unfolding unfilled
none_unfilled file hs e i d lt = not-false _ (find_none (λ h. not (lies_within file h.p_offset h.p_filesz)) hs (option_map_none (λ h. h.offset) _ e) i d lt)

pub none_high : (hs : List ProgramHeader) → too_high hs ≡ None → (i : ℕ) (d : ProgramHeader) → i < length hs → nat_lt stacks_begin ((get_or hs i d).p_vaddr + (get_or hs i d).p_memsz) ≡ false
unfolding too_high
none_high hs e = find_none (λ h. nat_lt stacks_begin (h.p_vaddr + h.p_memsz)) hs (option_map_none (λ h. h.offset) _ e)

none_shared : (hs : List ProgramHeader) → shared hs ≡ None → (i : ℕ) (d : ProgramHeader) → i < length hs → shares_earlier hs (get_or hs i d) ≡ false
unfolding shared
none_shared hs e = find_none (shares_earlier hs) hs (option_map_none (λ h. h.offset) _ e)

pub record Refused (file : List ℕ) : Type 0 where
  pub over : overfilled (load_headers file) ≡ None
  pub unfilled : unfilled file (load_headers file) ≡ None
  pub high : too_high (load_headers file) ≡ None
  pub shared : shared (load_headers file) ≡ None

each_refused : (file : List ℕ) → checked_each_segment file ≡ Ok tt → (overfilled (load_headers file) ≡ None) × (unfilled file (load_headers file) ≡ None) × (too_high (load_headers file) ≡ None)
unfolding checked_each_segment
each_refused file e =
    let a = passed SegmentPlace (overfilled (load_headers file)) _ tt e in
    let b = passed SegmentPlace (unfilled file (load_headers file)) _ tt a.1 in
    (a.0, b.0, passed_last SegmentPlace (too_high (load_headers file)) b.1)

-- two checks, one after the other
both_passed : (first next : Result (Unit {0}) ElfFault) → (first >>= λ _. next) ≡ Ok tt → (first ≡ Ok tt) × (next ≡ Ok tt)
both_passed (Ok done) next e = (refl, e)
both_passed (Err fault) next e = absurd cc

nothing_refused : (file : List ℕ) → checked_all_segments file ≡ Ok tt → Refused file
unfolding checked_all_segments
nothing_refused file e =
    let both = both_passed (checked_each_segment file) (refused_at SegmentPlace (shared (load_headers file))) e in
    let each = each_refused file both.0 in
    record { over = each.0; unfilled = each.1; high = each.2; shared = passed_last SegmentPlace (shared (load_headers file)) both.1 }

checked_at : (file : List ℕ) → checked_all_segments file ≡ Ok tt → (i : ℕ) (d : ProgramHeader) → i < length (load_headers file) → Checked file (get_or (load_headers file) i d)
checked_at file e i d lt =
    let r = nothing_refused file e in
    record {
      load = are_loads file i d lt;
      filled = none_over (load_headers file) r.over i d lt;
      there = none_unfilled file (load_headers file) r.unfilled i d lt;
      low = none_high (load_headers file) r.high i d lt;
    }

load_takes : (h : ProgramHeader) → is_load h ≡ true → 0 < h.p_memsz
load_takes h e = grind (arith, nat_tests)

filled_fits : (h : ProgramHeader) → nat_lt h.p_memsz h.p_filesz ≡ false → h.p_filesz ≤ h.p_memsz
filled_fits h e = grind (arith, nat_tests)

ends_low : (h : ProgramHeader) → nat_lt stacks_begin (h.p_vaddr + h.p_memsz) ≡ false → h.p_vaddr + h.p_memsz ≤ stacks_begin
ends_low h e = grind (arith, nat_tests)

segment_within : (file : List ℕ) (h : ProgramHeader) → Checked file h → IsWithin file (segment_of h)
segment_within file h c =
    let takes = load_takes h c.load in
    let fits = filled_fits h c.filled in
    record {
      some = omega arith;
      low = ends_low h c.low;
      filled = omega arith;
      there = λ some. within file h.p_offset h.p_filesz c.there some;
    }

all_low : (hs : List ProgramHeader) → too_high hs ≡ None → All (λ h. h.p_vaddr + h.p_memsz ≤ stacks_begin) hs
all_low hs e i d lt = ends_low (get_or hs i d) (none_high hs e i d lt)

pub loads_low : (file : List ℕ) → checked_each_segment file ≡ Ok tt → All (λ h. h.p_vaddr + h.p_memsz ≤ stacks_begin) (load_headers file)
loads_low file e = all_low (load_headers file) (each_refused file e).2

pub loads_take : (file : List ℕ) → All (λ h. 0 < h.p_memsz) (load_headers file)
loads_take file i d lt = load_takes (get_or (load_headers file) i d) (are_loads file i d lt)

pub loads_in_order : (file : List ℕ) → AllPairs (λ g h. g.offset < h.offset) (load_headers file)
loads_in_order file i j d lt within = places_ascend _ (load_headers file) i j d (loads_ascend file) lt within

-- there are as many headers as half a number counts, at most
filter_shorter : (p : ProgramHeader → Bool) (hs : List ProgramHeader) → length (filter p hs) ≤ length hs
filter_shorter p [] = omega arith
filter_shorter p (h ∷ hs) = go (p h) (filter_shorter p hs)
  where
    go : (b : Bool) → length (filter p hs) ≤ length hs → length (cond b (h ∷ filter p hs) (filter p hs)) ≤ length (h ∷ hs)
    go true le = omega arith
    go false le = omega arith

pub few_loads : (file : List ℕ) → length (load_headers file) ≤ e_phnum file
unfolding load_headers program_headers
few_loads file = omega (arith, filter_shorter is_load (map (λ k. program_header_at file (e_phoff file + 32 * k)) (range_with_len 0 (e_phnum file))), length-map-range_with_len (λ k. program_header_at file (e_phoff file + 32 * k)) 0 (e_phnum file))

no_header : ProgramHeader
no_header = record { offset = 0; p_type = 0; p_offset = 0; p_vaddr = 0; p_filesz = 0; p_memsz = 0; p_flags = 0 }

pub all_within : (file : List ℕ) → checked_all_segments file ≡ Ok tt → All (IsWithin file) (segments file)
unfolding segments
all_within file e i d lt =
    let n : i < length (load_headers file) = omega (arith, length-map (load_headers file) segment_of) in
    rw (get_or-map segment_of (load_headers file) i no_header d n) (segment_within file (get_or (load_headers file) i no_header) (checked_at file e i no_header n))

apart_tests : (g h : ProgramHeader) → (nat_lt g.offset h.offset && share g h) ≡ false → g.offset < h.offset → are_apart (segment_of g) (segment_of h) ≡ true
apart_tests g h e lt = grind (arith, nat_tests)

pub all_apart : (file : List ℕ) → checked_all_segments file ≡ Ok tt → AllPairs (λ s t. IsTrue (are_apart s t)) (segments file)
unfolding segments
all_apart file e i j d lt within =
    let n : j < length (load_headers file) = omega (arith, length-map (load_headers file) segment_of) in
    let m : i < length (load_headers file) = omega arith in
    let r = nothing_refused file e in
    let h = get_or (load_headers file) j no_header in
    let g = get_or (load_headers file) i no_header in
    let up : g.offset < h.offset = places_ascend _ (load_headers file) i j no_header (loads_ascend file) lt n in
    let tested = any_none (λ g. nat_lt g.offset h.offset && share g h) (load_headers file) i no_header (none_shared (load_headers file) r.shared j no_header n) m in
    rw (get_or-map segment_of (load_headers file) i no_header d m, get_or-map segment_of (load_headers file) j no_header d n) (apart_tests g h tested up)

-- ---- for the one function that reads them

pub loads_few : (file : List ℕ) → checked_header file ≡ Ok tt → length file ≤ 2 ^ 26 → length (load_headers file) ≤ 2 ^ 21
loads_few file checked small =
    let few = few_loads file in
    elim (cases_lt 0 (e_phnum file)) [
      | inl some ↦ let there = programs_within file checked some in omega arith
      | inr none ↦ omega arith
    ]

pub both_checked : (file : List ℕ) → checked_each_segment file ≡ Ok tt → refused_at SegmentPlace (shared (load_headers file)) ≡ Ok tt → checked_all_segments file ≡ Ok tt
unfolding checked_all_segments
both_checked file each last = rw (each, last) refl

pub segments_are : (file : List ℕ) → map segment_of (load_headers file) ≡ segments file
unfolding segments
segments_are file = refl

pub segments_few : (file : List ℕ) → checked_header file ≡ Ok tt → length file ≤ 2 ^ 26 → length (segments file) ≤ 2 ^ 21
unfolding segments
segments_few file checked small = rw (length-map (load_headers file) segment_of) (loads_few file checked small)
