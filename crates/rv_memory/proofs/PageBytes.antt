-- The bytes of each page among those of all pages.
use Rattle.std.proofs.Common.{◌≡◌, ◌≢◌, ◌==◌, ℕ, suc, ◌+◌, ◌-◌, ◌%◌, ◌^◌, ◌<◌, ◌≤◌, inl, inr, Bool, true, false, cond, List, [], ◌++◌, length, take, drop, get_or, Option, Some, None, refl, sym, ap, subst, ◌∙◌, arith}
use Rattle.std.proofs.lemmas.Bool.{eqb-true, eq-eqb}
use Rattle.std.proofs.lemmas.Bool.Decides.{leb_tells}
use Rattle.std.proofs.lemmas.List.{ext_get_or, length-drop, drop-append-le, take-append-le}
use Rattle.std.proofs.Math.Seq.{drop-append_seam, take-length}
use Rattle.elf_image.specs.declared.part.Segment.{Segment}
use Rattle.rv_memory.specs.declared.page.Page.{Page}
use Rattle.rv_memory.specs.declared.page_cache.CachedPage.{CachedPage}
use Rattle.rv_memory.specs.private.Pages.{Paged, PageStore, spliced, with_bytes, page_in, stored_page, paged_of, paged_in, IsSetAt}
use Rattle.rv_memory.specs.private.PageCache.{IsPageStore}
use Rattle.rv_memory.proofs.Contiguous.{part-get, part-length}
use Rattle.rv_memory.proofs.Put.{spliced-length, spliced-before, spliced-in, spliced-behind}

-- bytes put into a page, as they are put among the bytes of all pages
page-put : (bytes : List ℕ) (start offset : ℕ) (source : List ℕ) → start + 2 ^ 12 ≤ length bytes → offset + length source ≤ 2 ^ 12
    → take 4096 (drop start (spliced bytes (start + offset) source)) ≡ spliced (take 4096 (drop start bytes)) offset source
page-put bytes start offset source within inside =
    ext_get_or 0 (take 4096 (drop start after)) (spliced page offset source)
    (new_long ∙ sym (spliced-length page offset source put_within ∙ old_long))
    (λ k few.
    elim (leb_tells (suc k) offset) [
      | inl low ↦ before k (omega (arith, few, new_long)) low.1
      | inr low ↦ (elim (leb_tells (suc k) (offset + length source)) [
        | inl high ↦ among k (omega (arith, few, new_long)) (omega (arith, low.1)) high.1
        | inr high ↦ behind k (omega (arith, few, new_long)) (omega (arith, high.1))
      ])
    ])
  where
    after : List ℕ
    after = spliced bytes (start + offset) source

    page : List ℕ
    page = take 4096 (drop start bytes)

    fits : start + offset + length source ≤ length bytes
    fits = omega arith

    old_long : length page ≡ 4096
    old_long = part-length bytes start 4096 within

    put_within : offset + length source ≤ length page
    put_within = omega (arith, old_long, inside)

    new_long : length (take 4096 (drop start after)) ≡ 4096
    new_long = part-length after start 4096 (let same = spliced-length bytes (start + offset) source fits in omega (arith, same, within))

    at : (k : ℕ) → k < 4096 → get_or (take 4096 (drop start after)) k 0 ≡ get_or after (start + k) 0
    at k few = part-get after start 4096 k few

    before : (k : ℕ) → k < 4096 → k < offset → get_or (take 4096 (drop start after)) k 0 ≡ get_or (spliced page offset source) k 0
    before k few low =
        at k few ∙ spliced-before bytes (start + offset) source (start + k) 0 fits (omega arith)
        ∙ sym (spliced-before page offset source k 0 put_within low ∙ part-get bytes start 4096 k few)

    among : (k : ℕ) → k < 4096 → offset ≤ k → k < offset + length source → get_or (take 4096 (drop start after)) k 0 ≡ get_or (spliced page offset source) k 0
    among k few low high =
        at k few
        ∙ ap (λ (i : ℕ). get_or after i 0) (let e : start + k ≡ start + offset + (k - offset) = omega arith in e)
        ∙ spliced-in bytes (start + offset) source (k - offset) 0 fits (omega arith)
        ∙ sym
        (ap (λ (i : ℕ). get_or (spliced page offset source) i 0) (let e : k ≡ offset + (k - offset) = omega arith in e)
        ∙ spliced-in page offset source (k - offset) 0 put_within (omega arith))

    behind : (k : ℕ) → k < 4096 → offset + length source ≤ k → get_or (take 4096 (drop start after)) k 0 ≡ get_or (spliced page offset source) k 0
    behind k few low =
        at k few
        ∙ ap (λ (i : ℕ). get_or after i 0) (let e : start + k ≡ start + offset + length source + (k - (offset + length source)) = omega arith in e)
        ∙ spliced-behind bytes (start + offset) source (k - (offset + length source)) 0 fits
        ∙ ap (λ (i : ℕ). get_or bytes i 0) (let e : start + offset + length source + (k - (offset + length source)) ≡ start + k = omega arith in e)
        ∙ sym
        (ap (λ (i : ℕ). get_or (spliced page offset source) i 0) (let e : k ≡ offset + length source + (k - (offset + length source)) = omega arith in e)
        ∙ spliced-behind page offset source (k - (offset + length source)) 0 put_within
        ∙ ap (λ (i : ℕ). get_or page i 0) (let e : offset + length source + (k - (offset + length source)) ≡ k = omega arith in e)
        ∙ part-get bytes start 4096 k few)

-- the other pages keep theirs
page-apart : (bytes : List ℕ) (other at : ℕ) (source : List ℕ) → other + 4096 ≤ length bytes → at + length source ≤ length bytes → other ≤ at → other + 4096 ≤ at
    → take 4096 (drop other (spliced bytes at source)) ≡ take 4096 (drop other bytes)
page-apart bytes other at source within fits low apart =
    ext_get_or 0 (take 4096 (drop other (spliced bytes at source))) (take 4096 (drop other bytes)) (long ∙ sym (part-length bytes other 4096 within))
    (λ k few.
    let small : k < 4096 = omega (arith, few, long) in
    part-get (spliced bytes at source) other 4096 k small
    ∙ spliced-before bytes at source (other + k) 0 fits (omega arith)
    ∙ sym (part-get bytes other 4096 k small))
  where
    long : length (take 4096 (drop other (spliced bytes at source))) ≡ 4096
    long = part-length (spliced bytes at source) other 4096 (let same = spliced-length bytes at source fits in omega (arith, same, within))

page-behind : (bytes : List ℕ) (other at : ℕ) (source : List ℕ) → other + 4096 ≤ length bytes → at + length source ≤ other
    → take 4096 (drop other (spliced bytes at source)) ≡ take 4096 (drop other bytes)
page-behind bytes other at source within apart =
    ext_get_or 0 (take 4096 (drop other (spliced bytes at source))) (take 4096 (drop other bytes)) (long ∙ sym (part-length bytes other 4096 within))
    (λ k few.
    let small : k < 4096 = omega (arith, few, long) in
    part-get (spliced bytes at source) other 4096 k small
    ∙ ap (λ (i : ℕ). get_or (spliced bytes at source) i 0) (let e : other + k ≡ at + length source + (other + k - (at + length source)) = omega arith in e)
    ∙ spliced-behind bytes at source (other + k - (at + length source)) 0 (omega arith)
    ∙ ap (λ (i : ℕ). get_or bytes i 0) (let e : at + length source + (other + k - (at + length source)) ≡ other + k = omega arith in e)
    ∙ sym (part-get bytes other 4096 k small))
  where
    long : length (take 4096 (drop other (spliced bytes at source))) ≡ 4096
    long = part-length (spliced bytes at source) other 4096 (let same = spliced-length bytes at source (omega arith) in omega (arith, same, within))

page-other : (bytes : List ℕ) (other start offset : ℕ) (source : List ℕ) → other % 4096 ≡ 0 → start % 4096 ≡ 0 → other ≢ start → other + 4096 ≤ length bytes → start + 4096 ≤ length bytes → offset + length source ≤ 4096
    → take 4096 (drop other (spliced bytes (start + offset) source)) ≡ take 4096 (drop other bytes)
page-other bytes other start offset source other_is start_is differ other_in start_in inside =
    elim (leb_tells (suc other) start) [
      | inl low ↦ (let l = low.1 in page-apart bytes other (start + offset) source other_in (omega arith) (omega arith) (omega arith))
      | inr low ↦ (elim (leb_tells (suc start) other) [
        | inl high ↦ (let h = high.1 in page-behind bytes other (start + offset) source other_in (omega arith))
        | inr high ↦ absurd (differ (let l = low.1 in let h = high.1 in omega arith))
      ])
    ]

-- the bytes of a page that was made
pub page-long : (blocks : List (List Page)) (bytes : List ℕ) (entries : List CachedPage) (number start : ℕ) → IsPageStore blocks bytes entries → (page_in blocks number).start ≡ Some start → length (stored_page bytes (Some start)) ≡ 2 ^ 12
unfolding stored_page
page-long blocks bytes entries number start keeps is = part-length bytes start 4096 (keeps.whole number start is)

pub page-none : (blocks : List (List Page)) (bytes : List ℕ) (entries : List CachedPage) (number : ℕ) → IsPageStore blocks bytes entries → stored_page bytes (page_in blocks number).start ≡ [] → (page_in blocks number).start ≡ None
page-none blocks bytes entries number keeps empty = by_start (page_in blocks number).start refl
  where
    by_start : (start : Option ℕ) → (page_in blocks number).start ≡ start → (page_in blocks number).start ≡ None
    by_start None is = is
    by_start (Some start) is =
        let long = page-long blocks bytes entries number start keeps is in
        let none : length (stored_page bytes (Some start)) ≡ 0 = ap (λ (s : Option ℕ). length (stored_page bytes s)) (sym is) ∙ ap length empty in
        absurd (omega (arith, long, none))

-- what the pages have after bytes were put into one of them
pub pages-put : (blocks : List (List Page)) (bytes : List ℕ) (entries : List CachedPage) (number start offset : ℕ) (source : List ℕ) → IsPageStore blocks bytes entries → (page_in blocks number).start ≡ Some start → offset + length source ≤ 2 ^ 12
    → (n : ℕ) → paged_of (spliced bytes (start + offset) source) (page_in blocks n) ≡ cond (n == number) (with_bytes (paged_of bytes (page_in blocks number)) offset source) (paged_of bytes (page_in blocks n))
unfolding stored_page
pages-put blocks bytes entries number start offset source keeps is inside n = by_number (n == number) refl
  where
    after : List ℕ
    after = spliced bytes (start + offset) source

    own : Segment
    own = (page_in blocks number).region

    same : paged_of after (page_in blocks number) ≡ with_bytes (paged_of bytes (page_in blocks number)) offset source
    same =
        ap (λ (s : Option ℕ). let p : Paged = record { region = own; bytes = stored_page after s } in p) is
        ∙ ap (λ (b : List ℕ). let p : Paged = record { region = own; bytes = b } in p) (page-put bytes start offset source (keeps.whole number start is) inside)
        ∙ sym (ap (λ (s : Option ℕ). let p : Paged = record { region = own; bytes = spliced (stored_page bytes s) offset source } in p) is)

    other : (s : Option ℕ) → (page_in blocks n).start ≡ s → n ≢ number → stored_page after s ≡ stored_page bytes s
    other None there differ = refl
    other (Some t) there differ =
        page-other bytes t start offset source (keeps.aligned n t there) (keeps.aligned number start is)
        (λ (e : t ≡ start). differ (keeps.single n number start (there ∙ ap (λ (k : ℕ). Some k) e) is))
        (keeps.whole n t there) (keeps.whole number start is) inside

    by_number : (b : Bool) → (n == number) ≡ b → paged_of after (page_in blocks n) ≡ cond b (with_bytes (paged_of bytes (page_in blocks number)) offset source) (paged_of bytes (page_in blocks n))
    by_number true e = ap (λ (k : ℕ). paged_of after (page_in blocks k)) (eqb-true n number e) ∙ same
    by_number false e =
        ap (λ (b : List ℕ). let p : Paged = record { region = (page_in blocks n).region; bytes = b } in p)
        (other (page_in blocks n).start refl (λ (k : n ≡ number). let clash : true ≡ false = sym (eq-eqb n number k) ∙ e in absurd cc))

-- bytes put in keep their number
pub keeps-long : (blocks : List (List Page)) (bytes after : List ℕ) (entries : List CachedPage) → IsPageStore blocks bytes entries → length after ≡ length bytes → IsPageStore blocks after entries
keeps-long blocks bytes after entries keeps same =
    record {
      round = ap (λ (n : ℕ). n % 2 ^ 12) same ∙ keeps.round;
      aligned = keeps.aligned;
      whole = λ number start is. subst (λ (n : ℕ). start + 2 ^ 12 ≤ n) (sym same) (keeps.whole number start is);
      single = keeps.single;
      cache = keeps.cache;
    }

pub keeps-put : (blocks : List (List Page)) (bytes after : List ℕ) (entries : List CachedPage) (number start offset : ℕ) (source : List ℕ) → IsPageStore blocks bytes entries → (page_in blocks number).start ≡ Some start → offset + length source ≤ 2 ^ 12 → after ≡ spliced bytes (start + offset) source → IsPageStore blocks after entries
keeps-put blocks bytes after entries number start offset source keeps is inside are =
    let whole = keeps.whole number start is in
    keeps-long blocks bytes after entries keeps (ap length are ∙ spliced-length bytes (start + offset) source (omega arith))

-- the same of a store
pub store-put : (store : PageStore) (blocks : List (List Page)) (bytes after : List ℕ) (entries : List CachedPage) (number start offset : ℕ) (source : List ℕ) → IsPageStore blocks bytes entries → record { blocks = blocks; bytes = bytes } ≡ store → (page_in blocks number).start ≡ Some start → offset + length source ≤ 2 ^ 12 → after ≡ spliced bytes (start + offset) source
    → (n : ℕ) → paged_of after (page_in blocks n) ≡ cond (n == number) (with_bytes (paged_in store number) offset source) (paged_in store n)
store-put store blocks bytes after entries number start offset source keeps view is inside are n =
    subst (λ (s : PageStore). paged_of after (page_in blocks n) ≡ cond (n == number) (with_bytes (paged_in s number) offset source) (paged_in s n)) view
    (ap (λ (b : List ℕ). paged_of b (page_in blocks n)) are ∙ pages-put blocks bytes entries number start offset source keeps is inside n)

-- where a page that holds some bytes begins
pub record Begins (blocks : List (List Page)) (number start offset count : ℕ) : Type 0 where
  pub begins : (page_in blocks number).start ≡ Some start
  pub inside : offset + count ≤ 2 ^ 12

pub begins : (store : PageStore) (blocks : List (List Page)) (bytes : List ℕ) (entries : List CachedPage) (page : Page) (number from offset count : ℕ) → IsPageStore blocks bytes entries → record { blocks = blocks; bytes = bytes } ≡ store → page ≡ page_in store.blocks number → page.start ≡ Some from → offset + count ≤ length (paged_in store number).bytes → Begins blocks number from offset count
begins store blocks bytes entries page number from offset count keeps view same is within =
    record { begins = there; inside = omega (arith, within, long) }
  where
    there : (page_in blocks number).start ≡ Some from
    there = ap (λ (s : PageStore). (page_in s.blocks number).start) view ∙ sym (ap (λ (p : Page). p.start) same) ∙ is

    long : length (paged_in store number).bytes ≡ 4096
    long =
        sym (ap (λ (s : PageStore). length (paged_in s number).bytes) view)
        ∙ ap (λ (o : Option ℕ). length (stored_page bytes o)) there
        ∙ page-long blocks bytes entries number from keeps there

-- bytes of one page more
longer : (bytes more : List ℕ) (start : ℕ) → start + 4096 ≤ length bytes → take 4096 (drop start (bytes ++ more)) ≡ take 4096 (drop start bytes)
longer bytes more start within =
    ap (take 4096) (drop-append-le start bytes more (omega arith))
    ∙ take-append-le 4096 (drop start bytes) more (let long = length-drop start bytes in omega (arith, long, within))

last : (bytes more : List ℕ) → length more ≡ 4096 → take 4096 (drop (length bytes) (bytes ++ more)) ≡ more
last bytes more long =
    ap (take 4096) (drop-append_seam bytes more) ∙ ap (λ (n : ℕ). take n more) (sym long) ∙ take-length more

of-more : (blocks : List (List Page)) (bytes more : List ℕ) (entries : List CachedPage) (n : ℕ) (start : Option ℕ) → IsPageStore blocks bytes entries → (page_in blocks n).start ≡ start → stored_page (bytes ++ more) start ≡ stored_page bytes start
unfolding stored_page
of-more blocks bytes more entries n None keeps is = refl
of-more blocks bytes more entries n (Some start) keeps is = longer bytes more start (keeps.whole n start is)

paged-more : (blocks : List (List Page)) (bytes more : List ℕ) (entries : List CachedPage) (n : ℕ) → IsPageStore blocks bytes entries → paged_of (bytes ++ more) (page_in blocks n) ≡ paged_of bytes (page_in blocks n)
paged-more blocks bytes more entries n keeps =
    ap (λ (b : List ℕ). let p : Paged = record { region = (page_in blocks n).region; bytes = b } in p) (of-more blocks bytes more entries n (page_in blocks n).start keeps refl)

-- blocks with the same pages
pub pages-more : (blocks after : List (List Page)) (bytes more : List ℕ) (entries : List CachedPage) → IsPageStore blocks bytes entries → ((n : ℕ) → page_in after n ≡ page_in blocks n) → (n : ℕ) → paged_of (bytes ++ more) (page_in after n) ≡ paged_of bytes (page_in blocks n)
pages-more blocks after bytes more entries keeps same n =
    ap (λ (p : Page). paged_of (bytes ++ more) p) (same n) ∙ paged-more blocks bytes more entries n keeps

-- and with one page more
pub pages-made : (blocks after : List (List Page)) (bytes more : List ℕ) (entries : List CachedPage) (number : ℕ) (region : Segment) → IsPageStore blocks bytes entries → IsSetAt blocks after number (record { region = region; start = Some (length bytes) }) → length more ≡ 2 ^ 12
    → (n : ℕ) → paged_of (bytes ++ more) (page_in after n) ≡ cond (n == number) (record { region = region; bytes = more }) (paged_of bytes (page_in blocks n))
unfolding stored_page
pages-made blocks after bytes more entries number region keeps set long n =
    ap (λ (p : Page). paged_of (bytes ++ more) p) (set n) ∙ by_number (n == number)
  where
    made : Page
    made = record { region = region; start = Some (length bytes) }

    by_number : (b : Bool) → paged_of (bytes ++ more) (cond b made (page_in blocks n)) ≡ cond b (record { region = region; bytes = more }) (paged_of bytes (page_in blocks n))
    by_number true = ap (λ (b : List ℕ). let p : Paged = record { region = region; bytes = b } in p) (last bytes more long)
    by_number false = paged-more blocks bytes more entries n keeps
