-- Contiguous bytes: in a page, or in the file's part of one region.
use Rattle.std.proofs.Common.{◌≡◌, ℕ, zero, suc, ◌+◌, ◌/◌, ◌%◌, ◌^◌, ◌<◌, ◌≤◌, ◌&&◌, Bool, true, false, cond, List, [], ◌∷◌, map, length, take, drop, slice_index, get_or, Option, Some, None, IfSome, Bor, nat_le, nat_lt, refl, sym, ap, ap₂, subst, ◌∙◌, arith}
use Rattle.std.specs.List.{range_with_len, list_all}
use Rattle.std.proofs.lemmas.List.{ext_get_or, get_or-drop, get_or-take, length-drop, length-take}
use Rattle.std.proofs.lemmas.Bool.{and_parts, le-leb, leb-true, ltb-true}
use Rattle.std.proofs.lemmas.Bool.Decides.{nat_tests}
use Rattle.std.proofs.lemmas.List.FromFn.{get_or-map-range_with_len, length-map-range_with_len}
use Rattle.std.proofs.Math.Nat.{lt_of_not-le}
use Rattle.elf_image.specs.declared.part.Segment.{Segment}
use Rattle.elf_image.specs.Image.{in_segment}
use Rattle.rv_memory.specs.private.Pages.{Paged}
use Rattle.rv_memory.specs.declared.paged_memory.PagedMemory.{PagedMemory}
use Rattle.elf_image.specs.declared.elf.TheConstants.{PF_W}
use Rattle.rv_memory.specs.AddressSpace.{region_at, first_byte, byte_in, has, may, grants, IsRegionOf}
use Rattle.rv_memory.specs.private.PageCache.{IsInPage}
use Rattle.rv_memory.specs.private.Paging.{page_numbered, page_of, paged_byte, IsPaged, covers_all}

and_false : (a b : Bool) → b ≡ false → (a && b) ≡ false
and_false true b fails = fails
and_false false b fails = refl

-- an element that a list has, whatever is read past its end
pub get_or-any : (xs : List ℕ) (i d e : ℕ) → i < length xs → get_or xs i d ≡ get_or xs i e
get_or-any [] i d e within = absurd (omega arith)
get_or-any (x ∷ xs) zero d e within = refl
get_or-any (x ∷ xs) (suc i) d e within = get_or-any xs i d e (omega arith)

-- a list that has each element of a function's in its offset
pub spelled : (xs : List ℕ) (f : ℕ → ℕ) (at count : ℕ) → length xs ≡ count → ((i : ℕ) → i < count → get_or xs i 0 ≡ f (at + i)) → xs ≡ map f (range_with_len at count)
spelled xs f at count long each =
    ext_get_or 0 xs (map f (range_with_len at count)) (long ∙ sym (length-map-range_with_len f at count))
    (λ i within.
    let inside : i < count = omega arith in
    each i inside ∙ sym (get_or-map-range_with_len f at count i (at + i) 0 inside refl))

-- so many elements of a list, from this offset on
pub part-get : (xs : List ℕ) (offset count i : ℕ) → i < count → get_or (take count (drop offset xs)) i 0 ≡ get_or xs (offset + i) 0
part-get xs offset count i inside = get_or-take count (drop offset xs) i 0 inside ∙ get_or-drop offset xs i 0

pub part-length : (xs : List ℕ) (offset count : ℕ) → offset + count ≤ length xs → length (take count (drop offset xs)) ≡ count
part-length xs offset count within = omega (arith, length-take count (drop offset xs), length-drop offset xs)

-- a part of a part
pub part-again : (xs : List ℕ) (low count offset few : ℕ) → low + count ≤ length xs → offset + few ≤ count → take few (drop offset (take count (drop low xs))) ≡ take few (drop (low + offset) xs)
part-again xs low count offset few within inside =
    let long : length (take count (drop low xs)) ≡ count = part-length xs low count within in
    let both : length (take few (drop offset (take count (drop low xs)))) ≡ few = part-length (take count (drop low xs)) offset few (omega (arith, long, inside)) in
    ext_get_or 0 (take few (drop offset (take count (drop low xs)))) (take few (drop (low + offset) xs))
    (both ∙ sym (part-length xs (low + offset) few (omega arith)))
    (λ i here.
    let lower : i < few = omega (arith, here, both) in
    part-get (take count (drop low xs)) offset few i lower
    ∙ part-get xs low count (offset + i) (omega arith)
    ∙ ap (λ (k : ℕ). get_or xs k 0) (let e : low + (offset + i) ≡ low + offset + i = omega arith in e)
    ∙ sym (part-get xs (low + offset) few i lower))

-- the segment holds each address that it covers
pub covers-holds : (region : Segment) (at count i : ℕ) → covers_all region at count ≡ true → i < count → in_segment (at + i) region ≡ true
covers-holds region at count i covered inside = grind (arith, nat_tests)

pub covers-region : (regions : List Segment) (region : Segment) (at count i : ℕ) → IsRegionOf regions region → covers_all region at count ≡ true → i < count → region_at regions (at + i) ≡ Some region
covers-region regions region at count i own covered inside = own (at + i) (covers-holds region at count i covered inside)

-- addresses of one page
pub page-same : (paged : PagedMemory) (at i : ℕ) → at % 2 ^ 12 + i < 2 ^ 12 → page_of paged (at + i) ≡ page_of paged at
page-same paged at i inside = ap (page_numbered paged) (let e : (at + i) / 2 ^ 12 ≡ at / 2 ^ 12 = omega arith in e)

pub offset-same : (at i : ℕ) → at % 2 ^ 12 + i < 2 ^ 12 → (at + i) % 2 ^ 12 ≡ at % 2 ^ 12 + i
offset-same at i inside = omega arith

-- the bytes of a page, from an address on
pub in_page-page : (paged : PagedMemory) (at count : ℕ) (bytes : List ℕ) → bytes ≡ (page_of paged at).bytes → at % 2 ^ 12 + count ≤ 2 ^ 12 → at % 2 ^ 12 + count ≤ length bytes → take count (drop (at % 2 ^ 12) bytes) ≡ map (paged_byte paged) (range_with_len at count)
in_page-page paged at count bytes are inside within =
    spelled (take count (drop (at % 2 ^ 12) bytes)) (paged_byte paged) at count (part-length bytes (at % 2 ^ 12) count within)
    (λ i few.
    let first : ℕ = first_byte paged.file.now paged.regions (at + i) in
    let here : (page_of paged (at + i)).bytes ≡ bytes = ap (λ (p : Paged). p.bytes) (page-same paged at i (omega arith)) ∙ sym are in
    part-get bytes (at % 2 ^ 12) count i few
    ∙ get_or-any bytes (at % 2 ^ 12 + i) 0 first (omega arith)
    ∙ sym (ap₂ (λ (b : List ℕ) (p : ℕ). get_or b p first) here (offset-same at i (omega arith))))

-- where a page was not made, the bytes are those that the region began with
pub value-first : (paged : PagedMemory) (region : Segment) (at count i : ℕ) → [] ≡ (page_of paged at).bytes → at % 2 ^ 12 + count ≤ 2 ^ 12 → IsRegionOf paged.regions region → covers_all region at count ≡ true → i < count → paged_byte paged (at + i) ≡ byte_in paged.file.now (at + i) (Some region)
value-first paged region at count i none inside own covered few =
    let here : (page_of paged (at + i)).bytes ≡ [] = ap (λ (p : Paged). p.bytes) (page-same paged at i (omega arith)) ∙ sym none in
    ap (λ (b : List ℕ). get_or b ((at + i) % 2 ^ 12) (first_byte paged.file.now paged.regions (at + i))) here
    ∙ ap (byte_in paged.file.now (at + i)) (covers-region paged.regions region at count i own covered few)

pub in_page-first : (paged : PagedMemory) (region : Segment) (at count : ℕ) (bytes : List ℕ) → [] ≡ (page_of paged at).bytes → at % 2 ^ 12 + count ≤ 2 ^ 12 → IsRegionOf paged.regions region → covers_all region at count ≡ true → length bytes ≡ count → ((i : ℕ) → i < count → get_or bytes i 0 ≡ byte_in paged.file.now (at + i) (Some region)) → bytes ≡ map (paged_byte paged) (range_with_len at count)
in_page-first paged region at count bytes none inside own covered long each =
    spelled bytes (paged_byte paged) at count long (λ i few. each i few ∙ sym (value-first paged region at count i none inside own covered few))

-- a test that holds of each address of a range
pub all-range : (p : ℕ → Bool) (at count : ℕ) → ((i : ℕ) → i < count → p (at + i) ≡ true) → list_all p (range_with_len at count) ≡ true
all-range p at zero each = refl
all-range p at (suc count) each =
    let first : p at ≡ true = subst (λ (a : ℕ). p a ≡ true) (omega arith) (each 0 (omega arith)) in
    let others : list_all p (range_with_len (at + 1) count) ≡ true =
    all-range p (at + 1) count (λ i few. subst (λ (a : ℕ). p a ≡ true) (omega arith) (each (suc i) (omega arith))) in
    ap (λ (b : Bool). b && list_all p (range_with_len (at + 1) count)) first ∙ others

pub all-not : (p : ℕ → Bool) (at count i : ℕ) → i < count → p (at + i) ≡ false → list_all p (range_with_len at count) ≡ false
all-not p at zero i few fails = absurd (omega arith)
all-not p at (suc count) zero few fails =
    let first : p at ≡ false = subst (λ (a : ℕ). p a ≡ false) (omega arith) fails in
    ap (λ (b : Bool). b && list_all p (range_with_len (at + 1) count)) first
all-not p at (suc count) (suc i) few fails =
    let rest : list_all p (range_with_len (at + 1) count) ≡ false =
    all-not p (at + 1) count i (omega arith) (subst (λ (a : ℕ). p a ≡ false) (omega arith) fails) in
    and_false (p at) (list_all p (range_with_len (at + 1) count)) rest

pub all-each : (p : ℕ → Bool) (at count i : ℕ) → list_all p (range_with_len at count) ≡ true → i < count → p (at + i) ≡ true
all-each p at zero i all few = absurd (omega arith)
all-each p at (suc count) zero all few = subst (λ (a : ℕ). p a ≡ true) (omega arith) (and_parts _ _ all).0
all-each p at (suc count) (suc i) all few =
    subst (λ (a : ℕ). p a ≡ true) (omega arith) (all-each p (at + 1) count i (and_parts _ _ all).1 (omega arith))

-- what a region grants, it grants each address that it covers
pub all-granted : (regions : List Segment) (region : Segment) (right at count : ℕ) → IsRegionOf regions region → covers_all region at count ≡ true → has right region ≡ true → list_all (may right regions) (range_with_len at count) ≡ true
all-granted regions region right at count own covered granted =
    all-range (may right regions) at count (λ i few. ap (grants right) (covers-region regions region at count i own covered few) ∙ granted)

-- a region with a right grants it from an address of it up to its end
pub granted-up : (regions : List Segment) (region : Segment) (right at a : ℕ) → IsRegionOf regions region → has right region ≡ true → region.start ≤ at → at ≤ a → a < region.end → may right regions a ≡ true
granted-up regions region right at a own granted start low high =
    let held : in_segment a region ≡ true = grind (arith, nat_tests) in
    ap (grants right) (own a held) ∙ granted

-- what is in a page lies in the page's region, and may be used
pub in_page-covered : (page : Paged) (right at count : ℕ) → IsInPage page right at count → covers_all page.region at count ≡ true
in_page-covered page right at count in_page = ap₂ (λ (a b : Bool). a && b) (le-leb page.region.start at in_page.low) (le-leb (at + count) page.region.end in_page.high)

pub in_page-granted : (paged : PagedMemory) (right at count : ℕ) → IsPaged paged → IsInPage (page_of paged at) right at count → list_all (may right paged.regions) (range_with_len at count) ≡ true
in_page-granted paged right at count is in_page =
    all-granted paged.regions (page_of paged at).region right at count (is.page_regions (at / 2 ^ 12))
    (in_page-covered (page_of paged at) right at count in_page) in_page.granted

-- addresses with a right are below 2^32
pub granted-low : (regions : List Segment) (right at : ℕ) → ((a : ℕ) → 2 ^ 32 ≤ a → region_at regions a ≡ None) → may right regions at ≡ true → at < 2 ^ 32
granted-low regions right at low granted =
    lt_of_not-le
    (λ (above : 2 ^ 32 ≤ at).
    let clash : true ≡ false = sym granted ∙ ap (grants right) (low at above) in
    cc)

-- what the file's part gives, as what is kept gives it
pub in_page-none : (paged : PagedMemory) (region : Segment) (at count : ℕ) → [] ≡ (page_of paged at).bytes → at % 2 ^ 12 + count ≤ 2 ^ 12 → IsRegionOf paged.regions region → covers_all region at count ≡ true → (found : Option (Bor (List ℕ))) → IfSome found (λ bytes. length bytes.now ≡ count) → IfSome found (λ bytes. (i : ℕ) → i < count → slice_index bytes.now i ≡ byte_in paged.file.now (at + i) (Some region)) → IfSome found (λ bytes. bytes.now ≡ map (paged_byte paged) (range_with_len at count))
in_page-none paged region at count none inside own covered None long each = tt
in_page-none paged region at count none inside own covered (Some bytes) long each =
    in_page-first paged region at count bytes.now none inside own covered long each

-- an address with a region is below 2^32
pub found-low : (regions : List Segment) (region : Segment) (at : ℕ) → ((a : ℕ) → 2 ^ 32 ≤ a → region_at regions a ≡ None) → region_at regions at ≡ Some region → at < 2 ^ 32
found-low regions region at low found =
    lt_of_not-le
    (λ (above : 2 ^ 32 ≤ at).
    let clash : Some region ≡ None = sym found ∙ low at above in
    cc)

-- a region ends at 2^32 or below
pub covers-low : (regions : List Segment) (region : Segment) (at count : ℕ) → ((a : ℕ) → 2 ^ 32 ≤ a → region_at regions a ≡ None) → IsRegionOf regions region → covers_all region at count ≡ true → at < 2 ^ 32 → at + count ≤ 2 ^ 32
covers-low regions region at zero low own covered small = omega arith
covers-low regions region at (suc count) low own covered small =
    let last : at + count < 2 ^ 32 =
    lt_of_not-le
    (λ (above : 2 ^ 32 ≤ at + count).
    let clash : Some region ≡ None = sym (covers-region regions region at (suc count) count own covered (omega arith)) ∙ low (at + count) above in
    cc) in
    omega arith

-- a region that was found holds the address
found-holds : (at : ℕ) (regions : List Segment) (region : Segment) → region_at regions at ≡ Some region → in_segment at region ≡ true
found-holds at [] region found = absurd cc
found-holds at (x ∷ xs) region found = by_case (in_segment at x) refl (found-holds at xs region)
  where
    by_case : (b : Bool) → in_segment at x ≡ b → (region_at xs at ≡ Some region → in_segment at region ≡ true) → in_segment at region ≡ true
    by_case true e later =
        let here : Some x ≡ Some region = sym (ap (λ (t : Bool). cond t (Some x) (region_at xs at)) e) ∙ found in
        let same : x ≡ region = cc in
        ap (in_segment at) (sym same) ∙ e
    by_case false e later = later (sym (ap (λ (t : Bool). cond t (Some x) (region_at xs at)) e) ∙ found)

pub found-within : (at : ℕ) (regions : List Segment) (found : Option Segment) → found ≡ region_at regions at → IfSome found (λ r. (r.start ≤ at) × (at < r.end))
found-within at regions None is = tt
found-within at regions (Some r) is =
    let tests : (nat_le r.start at ≡ true) × (nat_lt at r.end ≡ true) = and_parts _ _ (found-holds at regions r (sym is)) in
    (leb-true r.start at tests.0, ltb-true at r.end tests.1)

-- where a region can't be written, its bytes are those that it began with
pub in_page-intact : (paged : PagedMemory) (region : Segment) (at count : ℕ) → IsPaged paged → IsRegionOf paged.regions region → covers_all region at count ≡ true → has PF_W region ≡ false → (found : Option (Bor (List ℕ))) → IfSome found (λ bytes. length bytes.now ≡ count) → IfSome found (λ bytes. (i : ℕ) → i < count → slice_index bytes.now i ≡ byte_in paged.file.now (at + i) (Some region)) → IfSome found (λ bytes. bytes.now ≡ map (paged_byte paged) (range_with_len at count))
in_page-intact paged region at count is own covered fixed None long each = tt
in_page-intact paged region at count is own covered fixed (Some bytes) long each =
    spelled bytes.now (paged_byte paged) at count long
    (λ i few.
    let found : region_at paged.regions (at + i) ≡ Some region = covers-region paged.regions region at count i own covered few in
    each i few ∙ sym (is.intact (at + i) (ap (grants PF_W) found ∙ fixed) ∙ ap (byte_in paged.file.now (at + i)) found))
