-- What is kept, as whole memory.
use Rattle.std.proofs.Common.{◌≡◌, ℕ, zero, suc, ◌+◌, ◌-◌, ◌/◌, ◌%◌, ◌^◌, ◌<◌, ◌≤◌, ◌&&◌, Bool, true, false, cond, List, map, length, slice_index, take, drop, Some, None, nat_le, nat_lt, refl, sym, ap, ap₂, subst, ◌∙◌, arith}
use Rattle.std.specs.List.{range_with_len, list_all}
use Rattle.std.proofs.lemmas.List.FromFn.{get_or-map-range_with_len, length-map-range_with_len}
use Rattle.elf_image.specs.declared.part.Segment.{Segment}
use Rattle.prof_bytes.specs.Number.{number_in}
use Rattle.rv_memory.specs.declared.paged_memory.PagedMemory.{PagedMemory}
use Rattle.elf_image.specs.declared.elf.TheConstants.{PF_R, PF_W, PF_X}
use Rattle.rv_memory.specs.AddressSpace.{AddressSpace, byte_at, region_at, may, may_all, memory_number, loaded, byte_after, written, stored, byte_in, grants, IsRegionOf}
use Rattle.rv_memory.specs.private.Paging.{paged_byte, value_after, memory_of, IsPaged}
use Rattle.rv_memory.proofs.Bytes.{byte-each, each-same}
use Rattle.rv_memory.specs.AddressSpace.{has}
use Rattle.rv_memory.specs.AddressSpace.{is_fetched_from, fetched_at}
use Rattle.rv_memory.specs.private.Paging.{covers_all}
use Rattle.std.proofs.lemmas.Bool.{and_parts, eq-eqb}
use Rattle.rv_memory.specs.private.Pages.{Paged}
use Rattle.rv_memory.specs.private.Paging.{page_of}
use Rattle.rv_memory.proofs.Contiguous.{spelled, all-each, granted-low, covers-low, covers-region, found-low, all-granted, in_page-page, part-length}

-- the byte at an address
pub byte-paged : (paged : PagedMemory) (at : ℕ) → at < 2 ^ 32 → byte_at (memory_of paged) at ≡ paged_byte paged at
byte-paged paged at low = byte-each (paged_byte paged) at low

-- so many bytes, from an address on
pub bytes-paged : (paged : PagedMemory) (at count : ℕ) → ((i : ℕ) → i < count → at + i < 2 ^ 32) → map (byte_at (memory_of paged)) (range_with_len at count) ≡ map (paged_byte paged) (range_with_len at count)
bytes-paged paged at count low =
    spelled (map (byte_at (memory_of paged)) (range_with_len at count)) (paged_byte paged) at count (length-map-range_with_len (byte_at (memory_of paged)) at count)
    (λ i few. get_or-map-range_with_len (byte_at (memory_of paged)) at count i (at + i) 0 few refl ∙ byte-paged paged (at + i) (low i few))

-- bytes that may be used end at 2^32 or below
pub granted-end : (paged : PagedMemory) (right at count : ℕ) → IsPaged paged → list_all (may right paged.regions) (range_with_len at count) ≡ true → (i : ℕ) → i < count → at + i < 2 ^ 32
granted-end paged right at count is all i few =
    granted-low paged.regions right (at + i) is.low (all-each (may right paged.regions) at count i all few)

-- a load that may be made
pub loaded-paged : (paged : PagedMemory) (at count : ℕ) → IsPaged paged → may_all PF_R (memory_of paged) at count ≡ true → loaded (memory_of paged) at count ≡ Some (number_in count (map (paged_byte paged) (range_with_len at count)))
loaded-paged paged at count is all =
    ap (λ (t : Bool). cond t (Some (memory_number (memory_of paged) at count)) None) all
    ∙ ap (λ (b : List ℕ). Some (number_in count b)) (bytes-paged paged at count (granted-end paged PF_R at count is all))

-- memory after bytes were written
pub written-paged : (old new : PagedMemory) (at : ℕ) (bytes : List ℕ) → old.regions ≡ new.regions → ((a : ℕ) → paged_byte new a ≡ value_after old at bytes a) → memory_of new ≡ written (memory_of old) at bytes
written-paged old new at bytes same values =
    ap₂ (λ (r : List Segment) (b : List ℕ). let m : AddressSpace = record { regions = r; bytes = b } in m) (sym same)
    (each-same (paged_byte new) (byte_after (memory_of old) at bytes)
    (λ a low. values a ∙ ap (cond (nat_le at a && nat_lt a (at + length bytes)) (slice_index bytes (a - at))) (sym (byte-paged old a low))))

pub stored-paged : (old new : PagedMemory) (at : ℕ) (bytes : List ℕ) → old.regions ≡ new.regions → may_all PF_W (memory_of old) at (length bytes) ≡ true → ((a : ℕ) → paged_byte new a ≡ value_after old at bytes a) → (true, memory_of new) ≡ stored (memory_of old) at bytes
stored-paged old new at bytes same all values =
    let after : Bool × AddressSpace = (true, written (memory_of old) at bytes) in
    ap (λ (m : AddressSpace). let q : Bool × AddressSpace = (true, m) in q) (written-paged old new at bytes same values)
    ∙ sym (ap (λ (t : Bool). cond t after (false, memory_of old)) all)

pub granted-whole : (paged : PagedMemory) (right at count : ℕ) → IsPaged paged → list_all (may right paged.regions) (range_with_len at count) ≡ true → at < 2 ^ 32 → at + count ≤ 2 ^ 32
granted-whole paged right at zero is all small = omega arith
granted-whole paged right at (suc count) is all small =
    let last : at + count < 2 ^ 32 = granted-end paged right at (suc count) is all count (omega arith) in
    omega arith

-- bytes put into what has the same values
pub after-same : (old mid : PagedMemory) (at : ℕ) (bytes : List ℕ) → ((a : ℕ) → paged_byte mid a ≡ paged_byte old a) → (a : ℕ) → value_after mid at bytes a ≡ value_after old at bytes a
after-same old mid at bytes values a = ap (cond (nat_le at a && nat_lt a (at + length bytes)) (slice_index bytes (a - at))) (values a)

-- what a change of the pages leaves
pub regions-same : (old new : PagedMemory) → new ≡ record old { pages = new.pages } → old.regions ≡ new.regions
regions-same old new rest = sym (ap (λ (k : PagedMemory). k.regions) rest)

fetch-low : (pc i : ℕ) → pc + 4 ≤ 2 ^ 32 → i < 4 → pc + i < 2 ^ 32
fetch-low pc i end few = omega arith

-- a fetch that may be made
pub fetched-paged : (paged : PagedMemory) (region : Segment) (pc : ℕ) → IsPaged paged → IsRegionOf paged.regions region → region_at paged.regions pc ≡ Some region → pc % 4 ≡ 0 → pc < 2 ^ 32 → has PF_X region ≡ true → covers_all region pc 4 ≡ true → fetched_at (memory_of paged) pc ≡ Some (number_in 4 (map (paged_byte paged) (range_with_len pc 4)))
fetched-paged paged region pc is own found aligned small granted covered =
    let end : pc + 4 ≤ 2 ^ 32 = covers-low paged.regions region pc 4 is.low own covered small in
    let fetched : is_fetched_from pc (region_at paged.regions pc) ≡ true =
    ap (is_fetched_from pc) found ∙ ap₂ (λ (a b : Bool). a && b) granted (and_parts _ _ covered).1 in
    ap (λ (t : Bool). cond t (Some (memory_number (memory_of paged) pc 4)) None) (ap₂ (λ (a b : Bool). a && b) (eq-eqb (pc % 4) 0 aligned) fetched)
    ∙ ap (λ (b : List ℕ). Some (number_in 4 b)) (bytes-paged paged pc 4 (λ i few. fetch-low pc i end few))

-- a load from a page
page-load : (paged : PagedMemory) (at count n : ℕ) (bytes : List ℕ) → IsPaged paged → covers_all (page_of paged at).region at count ≡ true → has PF_R (page_of paged at).region ≡ true → at % 2 ^ 12 + count ≤ length (page_of paged at).bytes → bytes ≡ take count (drop (at % 2 ^ 12) (page_of paged at).bytes) → n ≡ number_in (length bytes) bytes → loaded (memory_of paged) at count ≡ Some n
page-load paged at count n bytes is covered granted within are number =
    let inside : at % 2 ^ 12 + count ≤ 2 ^ 12 = (let short = is.short (at / 2 ^ 12) in omega (arith, short, within)) in
    let long : length bytes ≡ count = ap length are ∙ part-length (page_of paged at).bytes (at % 2 ^ 12) count within in
    loaded-paged paged at count is (all-granted paged.regions (page_of paged at).region PF_R at count (is.page_regions (at / 2 ^ 12)) covered granted)
    ∙ ap (λ (b : List ℕ). Some (number_in count b)) (sym (are ∙ in_page-page paged at count (page_of paged at).bytes refl inside within))
    ∙ ap (λ (k : ℕ). Some (number_in k bytes)) (sym long)
    ∙ ap (λ (k : ℕ). Some k) (sym number)

pub page-loaded : (paged : PagedMemory) (at count n : ℕ) (page : Paged) (bytes : List ℕ) → IsPaged paged → page ≡ page_of paged at → covers_all page.region at count ≡ true → has PF_R page.region ≡ true → at % 2 ^ 12 + count ≤ length page.bytes → bytes ≡ take count (drop (at % 2 ^ 12) page.bytes) → n ≡ number_in (length bytes) bytes → loaded (memory_of paged) at count ≡ Some n
page-loaded paged at count n page bytes is same covered granted within are number =
    page-load paged at count n bytes is
    (subst (λ (p : Paged). covers_all p.region at count ≡ true) same covered)
    (subst (λ (p : Paged). has PF_R p.region ≡ true) same granted)
    (subst (λ (p : Paged). at % 2 ^ 12 + count ≤ length p.bytes) same within)
    (subst (λ (p : Paged). bytes ≡ take count (drop (at % 2 ^ 12) p.bytes)) same are) number

-- a byte of a region that may not be written is the one that it began with
pub fixed-byte : (paged : PagedMemory) (region : Segment) (at count i : ℕ) → IsPaged paged → IsRegionOf paged.regions region → has PF_W region ≡ false → covers_all region at count ≡ true → i < count → byte_at (memory_of paged) (at + i) ≡ byte_in paged.file.now (at + i) (Some region)
fixed-byte paged region at count i is own fixed covered few =
    let found : region_at paged.regions (at + i) ≡ Some region = covers-region paged.regions region at count i own covered few in
    let low : at + i < 2 ^ 32 = found-low paged.regions region (at + i) is.low found in
    byte-paged paged (at + i) low
    ∙ is.intact (at + i) (ap (grants PF_W) found ∙ fixed)
    ∙ ap (byte_in paged.file.now (at + i)) found
