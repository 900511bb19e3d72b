-- What a page gives after bytes were put into it.
use Rattle.std.proofs.Common.{◌≡◌, ◌≢◌, ◌==◌, ℕ, suc, ◌+◌, ◌-◌, ◌*◌, ◌/◌, ◌%◌, ◌^◌, ◌<◌, ◌≤◌, ◌&&◌, inl, inr, Bool, true, false, cond, List, [], ◌∷◌, ◌++◌, length, take, drop, get_or, nat_le, nat_lt, refl, sym, ap, ap₂, subst, ◌∙◌, arith}
use Rattle.std.proofs.lemmas.List.{get_or_append_left, get_or-append-add, get_or-drop, get_or-take, length-take, length-drop, length-append}
use Rattle.std.proofs.lemmas.Bool.{eqb-true, eq-eqb, le-leb, le-ltb}
use Rattle.std.proofs.lemmas.Bool.Decides.{leb_tells}
use Rattle.rv_memory.proofs.Contiguous.{get_or-any, all-each, in_page-granted}
use Rattle.rv_memory.specs.declared.paged_memory.PagedMemory.{PagedMemory}
use Rattle.elf_image.specs.declared.elf.TheConstants.{PF_W}
use Rattle.rv_memory.specs.AddressSpace.{first_byte, may, IsRegionOf}
use Rattle.rv_memory.specs.private.Pages.{Paged, PageStore, IsPagedAt, spliced, with_bytes}
use Rattle.elf_image.specs.declared.part.Segment.{Segment}
use Rattle.rv_memory.specs.private.PageCache.{IsInPage}
use Rattle.rv_memory.specs.private.Paging.{IsPaged, page_numbered, page_of, paged_byte, value_after}

pub spliced-length : (bytes : List ℕ) (offset : ℕ) (source : List ℕ) → offset + length source ≤ length bytes → length (spliced bytes offset source) ≡ length bytes
spliced-length bytes offset source within =
    omega (arith, length-append (take offset bytes ++ source) (drop (offset + length source) bytes), length-append (take offset bytes) source, length-take offset bytes, length-drop (offset + length source) bytes)

-- before the bytes, in them and after them
pub spliced-before : (bytes : List ℕ) (offset : ℕ) (source : List ℕ) (k d : ℕ) → offset + length source ≤ length bytes → k < offset → get_or (spliced bytes offset source) k d ≡ get_or bytes k d
spliced-before bytes offset source k d within before =
    get_or_append_left (take offset bytes ++ source) (drop (offset + length source) bytes) d k (omega (arith, length-append (take offset bytes) source, length-take offset bytes))
    ∙ get_or_append_left (take offset bytes) source d k (omega (arith, length-take offset bytes))
    ∙ get_or-take offset bytes k d before

pub spliced-in : (bytes : List ℕ) (offset : ℕ) (source : List ℕ) (k d : ℕ) → offset + length source ≤ length bytes → k < length source → get_or (spliced bytes offset source) (offset + k) d ≡ get_or source k d
spliced-in bytes offset source k d within inside =
    let long : length (take offset bytes) ≡ offset = omega (arith, length-take offset bytes) in
    get_or_append_left (take offset bytes ++ source) (drop (offset + length source) bytes) d (offset + k) (omega (arith, length-append (take offset bytes) source))
    ∙ ap (λ (n : ℕ). get_or (take offset bytes ++ source) (n + k) d) (sym long)
    ∙ get_or-append-add (take offset bytes) source k d

pub spliced-behind : (bytes : List ℕ) (offset : ℕ) (source : List ℕ) (k d : ℕ) → offset + length source ≤ length bytes → get_or (spliced bytes offset source) (offset + length source + k) d ≡ get_or bytes (offset + length source + k) d
spliced-behind bytes offset source k d within =
    let long : length (take offset bytes ++ source) ≡ offset + length source = omega (arith, length-append (take offset bytes) source, length-take offset bytes) in
    ap (λ (n : ℕ). get_or (spliced bytes offset source) (n + k) d) (sym long)
    ∙ get_or-append-add (take offset bytes ++ source) (drop (offset + length source) bytes) k d
    ∙ get_or-drop (offset + length source) bytes k d

unequal : (a b : ℕ) → (a == b) ≡ false → a ≢ b
unequal a b differ same = let clash : true ≡ false = sym (eq-eqb a b same) ∙ differ in cc

le-ltb-suc : (at a : ℕ) → a < at → nat_le at a ≡ false
le-ltb-suc at a before = elim (leb_tells at a) [ inl h ↦ absurd (omega (arith, h.1)) | inr h ↦ h.0 ]

-- whether an address is one of those written
test-in : (at a count : ℕ) → at ≤ a → a < at + count → (nat_le at a && nat_lt a (at + count)) ≡ true
test-in at a count low high =
    ap₂ (λ (x y : Bool). x && y) (le-leb at a low) (le-leb (suc a) (at + count) high)

test-before : (at a count : ℕ) → a < at → (nat_le at a && nat_lt a (at + count)) ≡ false
test-before at a count before = ap (λ (x : Bool). x && nat_lt a (at + count)) (le-ltb-suc at a before)

test-behind : (at a count : ℕ) → at + count ≤ a → (nat_le at a && nat_lt a (at + count)) ≡ false
test-behind at a count behind = ap₂ (λ (x y : Bool). x && y) (le-leb at a (omega arith)) (le-ltb a (at + count) behind)

pub after-in : (paged : PagedMemory) (at a : ℕ) (source : List ℕ) → at ≤ a → a < at + length source → value_after paged at source a ≡ get_or source (a - at) 0
after-in paged at a source low high = ap (λ (t : Bool). cond t (get_or source (a - at) 0) (paged_byte paged a)) (test-in at a (length source) low high)

pub after-before : (paged : PagedMemory) (at a : ℕ) (source : List ℕ) → a < at → value_after paged at source a ≡ paged_byte paged a
after-before paged at a source before = ap (λ (t : Bool). cond t (get_or source (a - at) 0) (paged_byte paged a)) (test-before at a (length source) before)

pub after-behind : (paged : PagedMemory) (at a : ℕ) (source : List ℕ) → at + length source ≤ a → value_after paged at source a ≡ paged_byte paged a
after-behind paged at a source behind = ap (λ (t : Bool). cond t (get_or source (a - at) 0) (paged_byte paged a)) (test-behind at a (length source) behind)

-- what a kept memory gives after bytes were put into one page
pub put-value : (old new : PagedMemory) (at : ℕ) (source : List ℕ) → ((a : ℕ) → first_byte new.file.now new.regions a ≡ first_byte old.file.now old.regions a) → ((n : ℕ) → page_numbered new n ≡ cond (n == at / 2 ^ 12) (with_bytes (page_of old at) (at % 2 ^ 12) source) (page_numbered old n)) → at % 2 ^ 12 + length source ≤ length (page_of old at).bytes → at % 2 ^ 12 + length source ≤ 2 ^ 12 → (a : ℕ) → paged_byte new a ≡ value_after old at source a
put-value old new at source firsts pages within page a = by_page (a / 2 ^ 12 == at / 2 ^ 12) refl
  where
    given : paged_byte new a ≡ get_or (page_of new a).bytes (a % 2 ^ 12) (first_byte old.file.now old.regions a)
    given = ap (get_or (page_of new a).bytes (a % 2 ^ 12)) (firsts a)

    here : (b : Bool) → (a / 2 ^ 12 == at / 2 ^ 12) ≡ b → page_of new a ≡ cond b (with_bytes (page_of old at) (at % 2 ^ 12) source) (page_of old a)
    here b e = pages (a / 2 ^ 12) ∙ ap (λ (t : Bool). cond t (with_bytes (page_of old at) (at % 2 ^ 12) source) (page_of old a)) e

    same_old : a / 2 ^ 12 ≡ at / 2 ^ 12 → get_or (page_of old at).bytes (a % 2 ^ 12) (first_byte old.file.now old.regions a) ≡ paged_byte old a
    same_old same = ap (λ (n : ℕ). get_or (page_numbered old n).bytes (a % 2 ^ 12) (first_byte old.file.now old.regions a)) (sym same)

    inside : a / 2 ^ 12 ≡ at / 2 ^ 12 → at ≤ a → a < at + length source → get_or (spliced (page_of old at).bytes (at % 2 ^ 12) source) (a % 2 ^ 12) (first_byte old.file.now old.regions a) ≡ value_after old at source a
    inside same low high =
        ap (λ (k : ℕ). get_or (spliced (page_of old at).bytes (at % 2 ^ 12) source) k (first_byte old.file.now old.regions a)) (let e : a % 2 ^ 12 ≡ (at % 2 ^ 12) + (a - at) = omega arith in e)
        ∙ spliced-in (page_of old at).bytes (at % 2 ^ 12) source (a - at) (first_byte old.file.now old.regions a) within (omega arith)
        ∙ get_or-any source (a - at) (first_byte old.file.now old.regions a) 0 (omega arith)
        ∙ sym (after-in old at a source low high)

    behind : a / 2 ^ 12 ≡ at / 2 ^ 12 → at + length source ≤ a → get_or (spliced (page_of old at).bytes (at % 2 ^ 12) source) (a % 2 ^ 12) (first_byte old.file.now old.regions a) ≡ value_after old at source a
    behind same high =
        ap (λ (k : ℕ). get_or (spliced (page_of old at).bytes (at % 2 ^ 12) source) k (first_byte old.file.now old.regions a)) (let e : a % 2 ^ 12 ≡ (at % 2 ^ 12) + length source + (a % 2 ^ 12 - ((at % 2 ^ 12) + length source)) = omega arith in e)
        ∙ spliced-behind (page_of old at).bytes (at % 2 ^ 12) source (a % 2 ^ 12 - ((at % 2 ^ 12) + length source)) (first_byte old.file.now old.regions a) within
        ∙ ap (λ (k : ℕ). get_or (page_of old at).bytes k (first_byte old.file.now old.regions a)) (let e : (at % 2 ^ 12) + length source + (a % 2 ^ 12 - ((at % 2 ^ 12) + length source)) ≡ a % 2 ^ 12 = omega arith in e)
        ∙ same_old same
        ∙ sym (after-behind old at a source high)

    before : a / 2 ^ 12 ≡ at / 2 ^ 12 → a < at → get_or (spliced (page_of old at).bytes (at % 2 ^ 12) source) (a % 2 ^ 12) (first_byte old.file.now old.regions a) ≡ value_after old at source a
    before same low =
        spliced-before (page_of old at).bytes (at % 2 ^ 12) source (a % 2 ^ 12) (first_byte old.file.now old.regions a) within (omega arith)
        ∙ same_old same
        ∙ sym (after-before old at a source low)

    in_page : a / 2 ^ 12 ≡ at / 2 ^ 12 → get_or (spliced (page_of old at).bytes (at % 2 ^ 12) source) (a % 2 ^ 12) (first_byte old.file.now old.regions a) ≡ value_after old at source a
    in_page same =
        elim (leb_tells at a) [
          | inl low ↦ (elim (leb_tells (suc a) (at + length source)) [
            | inl high ↦ inside same low.1 high.1
            | inr high ↦ behind same (omega (arith, high.1))
          ])
          | inr low ↦ before same low.1
        ]

    elsewhere : (a / 2 ^ 12 == at / 2 ^ 12) ≡ false → paged_byte old a ≡ value_after old at source a
    elsewhere e =
        let other : a / 2 ^ 12 ≢ at / 2 ^ 12 = unequal (a / 2 ^ 12) (at / 2 ^ 12) e in
        elim (leb_tells at a) [
          | inl low ↦ sym (after-behind old at a source (omega (arith, low.1)))
          | inr low ↦ sym (after-before old at a source low.1)
        ]

    by_page : (b : Bool) → (a / 2 ^ 12 == at / 2 ^ 12) ≡ b → paged_byte new a ≡ value_after old at source a
    by_page true e = given ∙ ap (λ (p : Paged). get_or p.bytes (a % 2 ^ 12) (first_byte old.file.now old.regions a)) (here true e) ∙ in_page (eqb-true (a / 2 ^ 12) (at / 2 ^ 12) e)
    by_page false e = given ∙ ap (λ (p : Paged). get_or p.bytes (a % 2 ^ 12) (first_byte old.file.now old.regions a)) (here false e) ∙ elsewhere e

-- what a kept memory gives after a page was made that holds what its addresses had
pub make-value : (old new : PagedMemory) (number : ℕ) (page : Paged) → ((a : ℕ) → first_byte new.file.now new.regions a ≡ first_byte old.file.now old.regions a) → ((n : ℕ) → page_numbered new n ≡ cond (n == number) page (page_numbered old n)) → length page.bytes ≡ 2 ^ 12 → ((i : ℕ) → i < 2 ^ 12 → get_or page.bytes i 0 ≡ paged_byte old (number * 2 ^ 12 + i)) → (a : ℕ) → paged_byte new a ≡ paged_byte old a
make-value old new number page firsts pages long each a = by_page (a / 2 ^ 12 == number) refl
  where
    here : (b : Bool) → (a / 2 ^ 12 == number) ≡ b → paged_byte new a ≡ get_or (cond b page (page_of old a)).bytes (a % 2 ^ 12) (first_byte old.file.now old.regions a)
    here b e =
        ap (get_or (page_of new a).bytes (a % 2 ^ 12)) (firsts a)
        ∙ ap (λ (p : Paged). get_or p.bytes (a % 2 ^ 12) (first_byte old.file.now old.regions a)) (pages (a / 2 ^ 12) ∙ ap (λ (t : Bool). cond t page (page_of old a)) e)

    by_page : (b : Bool) → (a / 2 ^ 12 == number) ≡ b → paged_byte new a ≡ paged_byte old a
    by_page true e =
        let same : a / 2 ^ 12 ≡ number = eqb-true (a / 2 ^ 12) number e in
        here true e
        ∙ get_or-any page.bytes (a % 2 ^ 12) (first_byte old.file.now old.regions a) 0 (omega arith)
        ∙ each (a % 2 ^ 12) (omega arith)
        ∙ ap (paged_byte old) (let e : number * 2 ^ 12 + a % 2 ^ 12 ≡ a = omega arith in e)
    by_page false e = here false e

-- as many of the bytes as were put
part-in : (paged : PagedMemory) (at a count : ℕ) (source : List ℕ) → at ≤ a → a < at + count → count ≤ length source → value_after paged at (take count source) a ≡ get_or source (a - at) 0
part-in paged at a count source low high few =
    after-in paged at a (take count source) low (omega (arith, length-take count source)) ∙ get_or-take count source (a - at) 0 (omega arith)

part-behind : (paged : PagedMemory) (at a count : ℕ) (source : List ℕ) → at + count ≤ a → count ≤ length source → value_after paged at (take count source) a ≡ paged_byte paged a
part-behind paged at a count source high few = after-behind paged at a (take count source) (omega (arith, length-take count source))

-- one more byte
pub put-more : (old mid new : PagedMemory) (at count byte : ℕ) (source : List ℕ) → count < length source → byte ≡ get_or source count 0 → ((a : ℕ) → paged_byte mid a ≡ value_after old at (take count source) a) → ((a : ℕ) → paged_byte new a ≡ value_after mid (at + count) (byte ∷ []) a) → (a : ℕ) → paged_byte new a ≡ value_after old at (take (count + 1) source) a
put-more old mid new at count byte source few is before after a =
    elim (leb_tells at a) [
      | inl low ↦ (elim (leb_tells (suc a) (at + count)) [
        | inl high ↦ inside low.1 high.1
        | inr high ↦ (elim (leb_tells (suc a) (at + count + 1)) [
          | inl last ↦ here high.1 last.1
          | inr last ↦ behind (omega (arith, last.1))
        ])
      ])
      | inr low ↦ below low.1
    ]
  where
    below : a < at → paged_byte new a ≡ value_after old at (take (count + 1) source) a
    below low =
        after a ∙ after-before mid (at + count) a (byte ∷ []) (omega arith) ∙ before a ∙ after-before old at a (take count source) low
        ∙ sym (after-before old at a (take (count + 1) source) low)

    inside : at ≤ a → a < at + count → paged_byte new a ≡ value_after old at (take (count + 1) source) a
    inside low high =
        after a ∙ after-before mid (at + count) a (byte ∷ []) high ∙ before a ∙ part-in old at a count source low high (omega arith)
        ∙ sym (part-in old at a (count + 1) source low (omega arith) (omega arith))

    here : at + count < suc a → a < at + count + 1 → paged_byte new a ≡ value_after old at (take (count + 1) source) a
    here low high =
        after a
        ∙ after-in mid (at + count) a (byte ∷ []) (omega arith) (omega arith)
        ∙ ap (λ (k : ℕ). get_or (byte ∷ []) k 0) (let e : a - (at + count) ≡ 0 = omega arith in e)
        ∙ is
        ∙ ap (λ (k : ℕ). get_or source k 0) (let e : count ≡ a - at = omega arith in e)
        ∙ sym (part-in old at a (count + 1) source (omega arith) (omega arith) (omega arith))

    behind : at + count + 1 ≤ a → paged_byte new a ≡ value_after old at (take (count + 1) source) a
    behind high =
        after a ∙ after-behind mid (at + count) a (byte ∷ []) (omega arith) ∙ before a ∙ part-behind old at a count source (omega arith) (omega arith)
        ∙ sym (part-behind old at a (count + 1) source (omega arith) (omega arith))

-- what stays over two changes of the pages
pub rest-again : (old mid new : PagedMemory) → mid ≡ record old { pages = mid.pages } → new ≡ record mid { pages = new.pages } → new ≡ record old { pages = new.pages }
rest-again old mid new before after = after ∙ ap (λ (k : PagedMemory). record k { pages = new.pages }) before

-- bytes that are put where they may be written leave all others as they began
pub put-intact : (old new : PagedMemory) (at : ℕ) (source : List ℕ) → ((a : ℕ) → may PF_W old.regions a ≡ false → paged_byte old a ≡ first_byte old.file.now old.regions a) → ((i : ℕ) → i < length source → may PF_W old.regions (at + i) ≡ true) → ((a : ℕ) → paged_byte new a ≡ value_after old at source a) → (a : ℕ) → may PF_W old.regions a ≡ false → paged_byte new a ≡ first_byte old.file.now old.regions a
put-intact old new at source intact granted values a fixed =
    values a
    ∙ (elim (leb_tells at a) [
      | inl low ↦ (elim (leb_tells (suc a) (at + length source)) [
        | inl high ↦
            (let same : at + (a - at) ≡ a = omega (arith, low.1) in
            let writable : may PF_W old.regions a ≡ true = ap (may PF_W old.regions) (sym same) ∙ granted (a - at) (omega (arith, low.1, high.1)) in
            let clash : true ≡ false = sym writable ∙ fixed in
            absurd cc)
        | inr high ↦ after-behind old at a source (omega (arith, high.1)) ∙ intact a fixed
      ])
      | inr low ↦ after-before old at a source low.1 ∙ intact a fixed
    ])

-- pages keep the regions for which they were made
pub put-page_regions : (regions : List Segment) (old new : ℕ → Paged) (number offset : ℕ) (source : List ℕ) → ((n : ℕ) → new n ≡ cond (n == number) (with_bytes (old number) offset source) (old n)) → ((n : ℕ) → IsRegionOf regions (old n).region) → (n : ℕ) → IsRegionOf regions (new n).region
put-page_regions regions old new number offset source pages page_regions n =
    subst (λ (p : Paged). IsRegionOf regions p.region) (sym (pages n)) (by_case (n == number))
  where
    by_case : (b : Bool) → IsRegionOf regions (cond b (with_bytes (old number) offset source) (old n)).region
    by_case true = page_regions number
    by_case false = page_regions n

-- the right to one byte, after a change of the pages
pub granted-one : (old new : PagedMemory) (at i : ℕ) → new ≡ record old { pages = new.pages } → may PF_W old.regions at ≡ true → i < 1 → may PF_W new.regions (at + i) ≡ true
granted-one old new at i rest granted few =
    ap (λ (k : PagedMemory). may PF_W k.regions (at + i)) rest ∙ ap (may PF_W old.regions) (let same : at + i ≡ at = omega arith in same) ∙ granted

-- pages keep their lengths
pub put-short : (old new : ℕ → Paged) (number offset : ℕ) (source : List ℕ) → ((n : ℕ) → new n ≡ cond (n == number) (with_bytes (old number) offset source) (old n)) → offset + length source ≤ length (old number).bytes → ((n : ℕ) → length (old n).bytes ≤ 2 ^ 12) → (n : ℕ) → length (new n).bytes ≤ 2 ^ 12
put-short old new number offset source pages within short n =
    subst (λ (p : Paged). length p.bytes ≤ 2 ^ 12) (sym (pages n)) (by_case (n == number))
  where
    by_case : (b : Bool) → length (cond b (with_bytes (old number) offset source) (old n)).bytes ≤ 2 ^ 12
    by_case true = let e : length (spliced (old number).bytes offset source) ≡ length (old number).bytes = spliced-length (old number).bytes offset source within in let f = short number in omega (arith, e, f)
    by_case false = short n

-- so a memory stays paged when bytes are put into a page
pub put-paged : (old : PagedMemory) (pages : PageStore) (at : ℕ) (source : List ℕ) → IsPaged old → IsPagedAt old.pages pages (at / 2 ^ 12) (with_bytes (page_of old at) (at % 2 ^ 12) source) → at % 2 ^ 12 + length source ≤ length (page_of old at).bytes → at % 2 ^ 12 + length source ≤ 2 ^ 12 → ((i : ℕ) → i < length source → may PF_W old.regions (at + i) ≡ true) → IsPaged (record { file = old.file; regions = old.regions; pages = pages })
put-paged old pages at source is put within inside granted =
    let new : PagedMemory = record { file = old.file; regions = old.regions; pages = pages } in
    record {
      apart = is.apart;
      page_regions = put-page_regions old.regions (page_numbered old) (page_numbered new) (at / 2 ^ 12) (at % 2 ^ 12) source put is.page_regions;
      short = put-short (page_numbered old) (page_numbered new) (at / 2 ^ 12) (at % 2 ^ 12) source put within is.short;
      low = is.low;
      intact = put-intact old new at source is.intact granted (put-value old new at source (λ _. refl) put within inside);
    }

-- and when they are put where they may be, or not at all
in_page-inside : (paged : PagedMemory) (right at count : ℕ) → IsPaged paged → IsInPage (page_of paged at) right at count → at % 2 ^ 12 + count ≤ 2 ^ 12
in_page-inside paged right at count is in_page = let short = is.short (at / 2 ^ 12) in let within = in_page.within in omega (arith, short, within)

pub in_page-paged : (old : PagedMemory) (pages : PageStore) (at : ℕ) (source : List ℕ) (done : Bool) → IsPaged old → (done ≡ false → pages ≡ old.pages) → (done ≡ true → IsInPage (page_of old at) PF_W at (length source)) → (done ≡ true → IsPagedAt old.pages pages (at / 2 ^ 12) (with_bytes (page_of old at) (at % 2 ^ 12) source)) → IsPaged (record { file = old.file; regions = old.regions; pages = pages })
in_page-paged old pages at source false is none in_page put = subst (λ (p : PageStore). IsPaged (record { file = old.file; regions = old.regions; pages = p })) (sym (none refl)) is
in_page-paged old pages at source true is none in_page put =
    put-paged old pages at source is (put refl) (in_page refl).within (in_page-inside old PF_W at (length source) is (in_page refl))
    (λ i few. all-each (may PF_W old.regions) at (length source) i (in_page-granted old PF_W at (length source) is (in_page refl)) few)

pub in_page-value : (old : PagedMemory) (pages : PageStore) (at : ℕ) (source : List ℕ) → IsPaged old → IsInPage (page_of old at) PF_W at (length source) → IsPagedAt old.pages pages (at / 2 ^ 12) (with_bytes (page_of old at) (at % 2 ^ 12) source) → (a : ℕ) → paged_byte (record { file = old.file; regions = old.regions; pages = pages }) a ≡ value_after old at source a
in_page-value old pages at source is in_page put =
    put-value old (record { file = old.file; regions = old.regions; pages = pages }) at source (λ _. refl) put in_page.within (in_page-inside old PF_W at (length source) is in_page)
