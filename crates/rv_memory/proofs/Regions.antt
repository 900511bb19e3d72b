-- The regions of a program and its stacks share no address.
use Rattle.std.proofs.Common.{◌≡◌, ℕ, zero, suc, ◌+◌, ◌*◌, ◌/◌, ◌%◌, ◌^◌, ◌<◌, ◌≤◌, ◌&&◌, ◌||◌, inl, inr, Bool, true, false, cond, List, [], ◌∷◌, ◌++◌, map, length, get_or, Some, None, IsTrue, nat_le, nat_lt, refl, sym, ap, ap₂, subst, ◌∙◌, append_assoc, append-nil, arith}
use Rattle.std.specs.List.{AllPairs, find, range_with_len}
use Rattle.std.proofs.lemmas.Bool.{and_parts, le-leb, le-ltb, leb-true, ltb-true}
use Rattle.std.proofs.lemmas.Bool.Decides.{leb_tells}
use Rattle.std.proofs.Math.Bool.{and-false}
use Rattle.std.proofs.lemmas.List.FromFn.{map-range_with_len_more}
use Rattle.std.proofs.lemmas.List.Quantifiers.{all_pairs_push}
use Rattle.elf_image.specs.declared.part.Segment.{Segment}
use Rattle.elf_image.specs.Image.{ProgramImage, IsLoaded, in_segment, are_apart, stacks_begin}
use Rattle.rv_memory.specs.declared.paged_memory.PagedMemory.{PagedMemory}
use Rattle.rv_memory.specs.AddressSpace.{most_stacks, regions_of, stack_of, first_byte, IsRegionOf}
use Rattle.rv_memory.specs.private.Pages.{no_region, PageStore, paged_in, stored_page}
use Rattle.rv_memory.specs.private.Paging.{AreApart, IsPaged}

pub lt-leb : (a b : ℕ) → b < a → nat_le a b ≡ false
lt-leb a b less = elim (leb_tells a b) [ inl h ↦ absurd (omega (arith, h.1)) | inr h ↦ h.0 ]

true-or : (a b : Bool) → a ≡ true → IsTrue (a || b)
true-or a b e = ap (λ (x : Bool). x || b) e

-- what is found is an element
pub find-all : {X : Type 0} (P : X → Type 0) (p : X → Bool) (xs : List X) (r : X) → ((k : ℕ) (d : X) → k < length xs → P (get_or xs k d)) → find p xs ≡ Some r → P r
find-all P p [] r all found = absurd cc
find-all P p (x ∷ xs) r all found = by_case (p x) refl (find-all P p xs r (λ k d few. all (suc k) d (omega arith)))
  where
    by_case : (b : Bool) → p x ≡ b → (find p xs ≡ Some r → P r) → P r
    by_case true e later =
        let here : Some x ≡ Some r = sym (ap (λ (t : Bool). cond t (Some x) (find p xs)) e) ∙ found in
        let same : x ≡ r = cc in
        subst P same (all 0 x (omega arith))
    by_case false e later = later (sym (ap (λ (t : Bool). cond t (Some x) (find p xs)) e) ∙ found)

-- an address of one segment is in none that is apart from it
apart-holds : (s t : Segment) (at : ℕ) → IsTrue (are_apart s t) → in_segment at t ≡ true → in_segment at s ≡ false
apart-holds s t at apart held =
    let within : (nat_le t.start at ≡ true) × (nat_lt at t.end ≡ true) = and_parts _ _ held in
    let low : t.start ≤ at = leb-true t.start at within.0 in
    let high : at < t.end = ltb-true at t.end within.1 in
    either (nat_le s.end t.start) (nat_le t.end s.start) apart
    (λ e. ap₂ (λ (a b : Bool). a && b) refl (le-ltb at s.end (omega (arith, leb-true s.end t.start e))) ∙ and-false (nat_le s.start at))
    (λ e. ap (λ (a : Bool). a && nat_lt at s.end) (lt-leb s.start at (omega (arith, leb-true t.end s.start e))))
  where
    either : (a b : Bool) → (a || b) ≡ true → (a ≡ true → in_segment at s ≡ false) → (b ≡ true → in_segment at s ≡ false) → in_segment at s ≡ false
    either true b one left right = left refl
    either false b one left right = right one

find-none : (p : Segment → Bool) (xs : List Segment) → ((k : ℕ) (d : Segment) → k < length xs → p (get_or xs k d) ≡ false) → find p xs ≡ None
find-none p [] none = refl
find-none p (x ∷ xs) none =
    ap (λ (t : Bool). cond t (Some x) (find p xs)) (none 0 x (omega arith)) ∙ find-none p xs (λ k d few. none (suc k) d (omega arith))

-- regions that are apart in pairs
pub pairs-apart : (xs : List Segment) → AllPairs (λ s t. IsTrue (are_apart s t)) xs → AreApart xs
pairs-apart [] pairs at r found = absurd cc
pairs-apart (x ∷ xs) pairs at r found =
    by_case (in_segment at x) refl (pairs-apart xs (λ i j d before few. pairs (suc i) (suc j) d (omega arith) (omega arith)) at r)
  where
    by_case : (b : Bool) → in_segment at x ≡ b → (find (in_segment at) xs ≡ Some r → IsRegionOf xs r) → IsRegionOf (x ∷ xs) r
    by_case true e tail =
        let here : Some x ≡ Some r = sym (ap (λ (t : Bool). cond t (Some x) (find (in_segment at) xs)) e) ∙ found in
        let same : x ≡ r = cc in
        λ b held.
        let first : in_segment b x ≡ true = ap (in_segment b) same ∙ held in
        ap (λ (t : Bool). cond t (Some x) (find (in_segment b) xs)) first ∙ here
    by_case false e tail =
        let later : find (in_segment at) xs ≡ Some r = sym (ap (λ (t : Bool). cond t (Some x) (find (in_segment at) xs)) e) ∙ found in
        λ b held.
        let apart : IsTrue (are_apart x r) =
        find-all (λ s. IsTrue (are_apart x s)) (in_segment at) xs r (λ k d few. pairs 0 (suc k) d (omega arith) (omega arith)) later in
        ap (λ (t : Bool). cond t (Some x) (find (in_segment b) xs)) (apart-holds x r b apart held)
        ∙ tail later b held

-- segments below the stacks, and so many stacks
record IsStacked (count : ℕ) (xs : List Segment) : Type 0 where
  pub pairs : AllPairs (λ s t. IsTrue (are_apart s t)) xs
  pub below : (k : ℕ) (d : Segment) → k < length xs → (get_or xs k d).end ≤ stacks_begin + count * 0x100000

-- what holds of each element and of one more
push-each : (P : Segment → Type 0) (xs : List Segment) (y : Segment) → ((k : ℕ) (d : Segment) → k < length xs → P (get_or xs k d)) → P y → (k : ℕ) (d : Segment) → k < length (xs ++ y ∷ []) → P (get_or (xs ++ y ∷ []) k d)
push-each P [] y all here zero d few = here
push-each P [] y all here (suc k) d few = absurd (omega arith)
push-each P (x ∷ xs) y all here zero d few = all 0 d (omega arith)
push-each P (x ∷ xs) y all here (suc k) d few = push-each P xs y (λ j e less. all (suc j) e (omega arith)) here k d (omega arith)

-- a stack more
stacked-more : (count : ℕ) (xs : List Segment) → IsStacked count xs → IsStacked (count + 1) (xs ++ stack_of count ∷ [])
stacked-more count xs is = record {
  pairs =
      all_pairs_push (λ s t. IsTrue (are_apart s t)) xs (stack_of count) is.pairs
      (λ k d few. true-or _ _ (le-leb (get_or xs k d).end (stack_of count).start (omega (arith, is.below k d few))));
  below =
      push-each (λ s. s.end ≤ stacks_begin + (count + 1) * 0x100000) xs (stack_of count)
      (λ k d few. let before : (get_or xs k d).end ≤ stacks_begin + count * 0x100000 = is.below k d few in omega arith) (omega arith);
}

pub stacks-more : (xs segments : List Segment) (hart : ℕ) (s : Segment) → xs ≡ segments ++ map stack_of (range_with_len 0 hart) → s ≡ stack_of hart → xs ++ s ∷ [] ≡ segments ++ map stack_of (range_with_len 0 (hart + 1))
stacks-more xs segments hart s are is =
    ap₂ (λ (a : List Segment) (b : Segment). a ++ b ∷ []) are is
    ∙ append_assoc segments (map stack_of (range_with_len 0 hart)) (stack_of hart ∷ [])
    ∙ ap (λ (a : List Segment). segments ++ a) (sym (map-range_with_len_more stack_of 0 hart hart (omega arith)))

-- the program's segments, and no stack
stacked-none : (program : ProgramImage) → IsLoaded program → IsStacked 0 program.segments
stacked-none program is = record {
  pairs = is.apart;
  below = λ k d few. let low : (get_or program.segments k d).end ≤ stacks_begin = (is.within k d few).low in omega arith;
}

stacked-all : (program : ProgramImage) (count : ℕ) → IsLoaded program → IsStacked count (regions_of program count)
stacked-all program zero is = subst (IsStacked 0) (sym (append-nil program.segments)) (stacked-none program is)
stacked-all program (suc count) is =
    let more : IsStacked (count + 1) (regions_of program (count + 1)) =
    subst (IsStacked (count + 1)) (stacks-more (regions_of program count) program.segments count (stack_of count) refl refl) (stacked-more count (regions_of program count) (stacked-all program count is)) in
    subst (λ (n : ℕ). IsStacked n (regions_of program n)) (let e : count + 1 ≡ suc count = omega arith in e) more

no_region-region : (regions : List Segment) → IsRegionOf regions no_region
no_region-region regions at held =
    let none : in_segment at no_region ≡ false = ap₂ (λ (a b : Bool). a && b) refl (le-ltb at 0 (omega arith)) ∙ and-false (nat_le 0 at) in
    let clash : true ≡ false = sym held ∙ none in
    absurd cc

-- what a program's memory begins as
pub of-paged : (paged : PagedMemory) (program : ProgramImage) (harts : ℕ) → IsLoaded program → harts ≤ most_stacks → paged.regions ≡ regions_of program harts → paged.pages ≡ record { blocks = []; bytes = [] } → IsPaged paged × IsRegionOf paged.regions no_region
unfolding stored_page
of-paged paged program harts is few regions pages =
    let stacked : IsStacked harts (regions_of program harts) = stacked-all program harts is in
    let high : (at : ℕ) → 2 ^ 32 ≤ at → (k : ℕ) (d : Segment) → k < length (regions_of program harts) → in_segment at (get_or (regions_of program harts) k d) ≡ false =
    λ at past k d within.
    let below : (get_or (regions_of program harts) k d).end ≤ stacks_begin + harts * 0x100000 = stacked.below k d within in
    ap₂ (λ (a b : Bool). a && b) refl (le-ltb at (get_or (regions_of program harts) k d).end (omega arith)) ∙ and-false (nat_le (get_or (regions_of program harts) k d).start at) in (
      record {
        apart = subst AreApart (sym regions) (pairs-apart (regions_of program harts) stacked.pairs);
        page_regions = λ number. subst (λ (store : PageStore). IsRegionOf paged.regions (paged_in store number).region) (sym pages) (no_region-region paged.regions);
        short = λ number. let e : length (paged_in paged.pages number).bytes ≡ 0 = ap (λ (store : PageStore). length (paged_in store number).bytes) pages in omega (arith, e);
        intact = λ at fixed. ap (λ (store : PageStore). get_or (paged_in store (at / 2 ^ 12)).bytes (at % 2 ^ 12) (first_byte paged.file.now paged.regions at)) pages;
        low = λ at past. ap (find (in_segment at)) regions ∙ find-none (in_segment at) (regions_of program harts) (high at past);
      },
      no_region-region paged.regions,
    )
