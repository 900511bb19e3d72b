-- What is remembered of pages that were used last holds as pages are made.
use Rattle.std.proofs.Common.{◌≡◌, ◌==◌, ℕ, ◌+◌, ◌-◌, ◌*◌, ◌/◌, ◌%◌, ◌^◌, ◌<◌, ◌≤◌, Bool, true, false, cond, List, [], ◌++◌, length, take, drop, get_or, Option, Some, None, Result, Ok, Err, OnOk, OnErr, All, refl, sym, ap, subst, ◌∙◌, arith}
use Rattle.std.proofs.lemmas.Bool.{eqb-true}
use Rattle.std.proofs.lemmas.List.{length-append}
use Rattle.elf_image.specs.declared.part.Segment.{Segment}
use Rattle.prof_bytes.specs.declared.fail.Memory.{Memory}
use Rattle.elf_image.specs.declared.elf.TheConstants.{PF_R, PF_W}
use Rattle.rv_memory.specs.declared.page.Page.{Page}
use Rattle.rv_memory.specs.declared.page_cache.CachedPage.{CachedPage}
use Rattle.rv_memory.specs.private.Pages.{PageStore, page_in, stored_page, paged_of, paged_in, IsSetAt}
use Rattle.rv_memory.specs.private.PageCache.{IsCachedAt, AreCachedFrom, IsCacheOf, IsCacheEntry, IsPageStore, IsInPage, AreInPage}
use Rattle.rv_memory.proofs.Contiguous.{part-again}
use Rattle.rv_memory.proofs.PageBytes.{page-long, page-none, pages-more, pages-made, Begins}

-- addresses of which there are none
pub none-cached : (page : Page) (base right low start : ℕ) → low ≤ 2 ^ 32 → AreCachedFrom page base right low 0 start
none-cached page base right low start fits = record { fits = omega arith; each = λ k few. absurd (omega arith) }

-- no pages at all
pub keeps-none : (blocks : List (List Page)) (bytes : List ℕ) (entries : List CachedPage) → blocks ≡ [] → bytes ≡ [] → All (IsCacheEntry blocks) entries → IsPageStore blocks bytes entries
keeps-none blocks bytes entries no_blocks no_bytes entry =
    record {
      round = ap (λ (b : List ℕ). length b % 2 ^ 12) no_bytes;
      aligned = λ n start is. absurd (not n start is);
      whole = λ n start is. absurd (not n start is);
      single = λ m n start is other. absurd (not n start other);
      cache = entry;
    }
  where
    not : (n start : ℕ) → (page_in blocks n).start ≡ Some start → ⊥
    not n start is =
        let clash : None ≡ Some start = sym (ap (λ (b : List (List Page)). (page_in b n).start) no_blocks) ∙ is in
        absurd cc

pub entry-none : (blocks : List (List Page)) → IsCacheEntry blocks (record { low = 0; readable = 0; writable = 0; start = 0 })
entry-none blocks =
    record {
      number = 0;
      is = record { readable = none-cached (page_in blocks 0) 0 PF_R 0 0 (omega arith); writable = none-cached (page_in blocks 0) 0 PF_W 0 0 (omega arith) };
    }

-- a page that was not made serves no address
cached-not : (page other : Page) (base right low count start : ℕ) → page.start ≡ None → AreCachedFrom page base right low count start → AreCachedFrom other base right low count start
cached-not page other base right low count start none serves =
    record {
      fits = serves.fits;
      each = λ k few.
          let cached = serves.each k few in
          let clash : None ≡ Some cached.start = sym none ∙ cached.begins in
          absurd cc;
    }

entry-made : (blocks after : List (List Page)) (number : ℕ) (page : Page) (entry : CachedPage) → (page_in blocks number).start ≡ None → IsSetAt blocks after number page → IsCacheEntry blocks entry → IsCacheEntry after entry
entry-made blocks after number page entry none set is =
    record { number = is.number; is = subst (λ (p : Page). IsCacheOf p (is.number * 2 ^ 12) entry) (sym (set is.number)) (by_number (is.number == number) refl) }
  where
    by_number : (b : Bool) → (is.number == number) ≡ b → IsCacheOf (cond b page (page_in blocks is.number)) (is.number * 2 ^ 12) entry
    by_number false e = is.is
    by_number true e =
        let here : (page_in blocks is.number).start ≡ None = ap (λ (n : ℕ). (page_in blocks n).start) (eqb-true is.number number e) ∙ none in
        record {
          readable = cached-not (page_in blocks is.number) page (is.number * 2 ^ 12) PF_R entry.low entry.readable entry.start here is.is.readable;
          writable = cached-not (page_in blocks is.number) page (is.number * 2 ^ 12) PF_W entry.low entry.writable entry.start here is.is.writable;
        }

-- blocks with the same pages, and bytes of one page more
pub keeps-more : (blocks after : List (List Page)) (bytes more all : List ℕ) (entries : List CachedPage) → IsPageStore blocks bytes entries → ((n : ℕ) → page_in after n ≡ page_in blocks n) → length more ≡ 2 ^ 12 → all ≡ bytes ++ more → IsPageStore after all entries
keeps-more blocks after bytes more all entries keeps same long are =
    record {
      round = (let r = keeps.round in omega (arith, many, r));
      aligned = λ n start is. keeps.aligned n start (old n start is);
      whole = λ n start is. let w = keeps.whole n start (old n start is) in omega (arith, many, w);
      single = λ m n start is other. keeps.single m n start (old m start is) (old n start other);
      cache = λ k d few.
          let r = keeps.cache k d few in
          record { number = r.number; is = subst (λ (p : Page). IsCacheOf p (r.number * 2 ^ 12) (get_or entries k d)) (sym (same r.number)) r.is };
    }
  where
    many : length all ≡ length bytes + 4096
    many = ap length are ∙ length-append bytes more ∙ ap (λ (n : ℕ). length bytes + n) long

    old : (n start : ℕ) → (page_in after n).start ≡ Some start → (page_in blocks n).start ≡ Some start
    old n start is = ap (λ (p : Page). p.start) (sym (same n)) ∙ is

-- and with one page more
pub keeps-made : (blocks after : List (List Page)) (bytes more all : List ℕ) (entries : List CachedPage) (number : ℕ) (region : Segment) → IsPageStore blocks bytes entries → (page_in blocks number).start ≡ None → IsSetAt blocks after number (record { region = region; start = Some (length bytes) }) → length more ≡ 2 ^ 12 → all ≡ bytes ++ more → IsPageStore after all entries
keeps-made blocks after bytes more all entries number region keeps none set long are =
    record {
      round = (let r = keeps.round in omega (arith, many, r));
      aligned = λ n start is. (case n start (λ s. s % 2 ^ 12 ≡ 0) keeps.round (keeps.aligned n start) is);
      whole = λ n start is.
          case n start (λ s. s + 2 ^ 12 ≤ length all) (omega (arith, many)) (λ before. let w = keeps.whole n start before in omega (arith, many, w)) is;
      single = λ m n start is other. both m n start is other;
      cache = λ k d few. entry-made blocks after number made (get_or entries k d) none set (keeps.cache k d few);
    }
  where
    made : Page
    made = record { region = region; start = Some (length bytes) }

    many : length all ≡ length bytes + 4096
    many = ap length are ∙ length-append bytes more ∙ ap (λ (n : ℕ). length bytes + n) long

    here : (n start : ℕ) (b : Bool) → (n == number) ≡ b → (page_in after n).start ≡ Some start → (cond b made (page_in blocks n)).start ≡ Some start
    here n start b e is = sym (ap (λ (p : Page). p.start) (set n ∙ ap (λ (t : Bool). cond t made (page_in blocks n)) e)) ∙ is

    case : (n start : ℕ) (P : ℕ → Type 0) → P (length bytes) → ((page_in blocks n).start ≡ Some start → P start) → (page_in after n).start ≡ Some start → P start
    case n start P new before is = by_number (n == number) refl
      where
        by_number : (b : Bool) → (n == number) ≡ b → P start
        by_number true e = let last : Some (length bytes) ≡ Some start = here n start true e is in let same : length bytes ≡ start = cc in subst P same new
        by_number false e = before (here n start false e is)

    both : (m n start : ℕ) → (page_in after m).start ≡ Some start → (page_in after n).start ≡ Some start → m ≡ n
    both m n start is other = by_numbers (m == number) refl (n == number) refl
      where
        by_numbers : (a : Bool) → (m == number) ≡ a → (b : Bool) → (n == number) ≡ b → m ≡ n
        by_numbers true e true f = eqb-true m number e ∙ sym (eqb-true n number f)
        by_numbers true e false f =
            let last : Some (length bytes) ≡ Some start = here m start true e is in
            let same : length bytes ≡ start = cc in
            let w = keeps.whole n start (here n start false f other) in
            absurd (omega (arith, same, w))
        by_numbers false e true f =
            let last : Some (length bytes) ≡ Some start = here n start true f other in
            let same : length bytes ≡ start = cc in
            let w = keeps.whole m start (here m start false e is) in
            absurd (omega (arith, same, w))
        by_numbers false e false f = keeps.single m n start (here m start false e is) (here n start false f other)

-- bytes that are there
cached-number : (page : Page) (number right at offset : ℕ) → IsCachedAt page (number * 2 ^ 12) right at offset → number ≡ at / 2 ^ 12
cached-number page number right at offset cached = let above = cached.above in let within = cached.within in omega arith

in_page-here : (blocks : List (List Page)) (bytes : List ℕ) (entries : List CachedPage) (number right at offset count : ℕ) → IsPageStore blocks bytes entries → count ≤ 4 → IsCachedAt (page_in blocks number) (number * 2 ^ 12) right at offset → IsInPage (paged_of bytes (page_in blocks number)) right at count
in_page-here blocks bytes entries number right at offset count keeps few cached =
    let long : length (stored_page bytes (page_in blocks number).start) ≡ 4096 =
    ap (λ (s : Option ℕ). length (stored_page bytes s)) cached.begins ∙ page-long blocks bytes entries number cached.start keeps cached.begins in
    let low = cached.low in
    let high = cached.high in
    let above = cached.above in
    let within = cached.within in
    record { granted = cached.granted; low = low; high = omega arith; within = omega arith }

pub cached-in_page : (blocks : List (List Page)) (bytes : List ℕ) (entries : List CachedPage) (number right at offset count : ℕ) → IsPageStore blocks bytes entries → count ≤ 4 → IsCachedAt (page_in blocks number) (number * 2 ^ 12) right at offset → IsInPage (paged_of bytes (page_in blocks (at / 2 ^ 12))) right at count
cached-in_page blocks bytes entries number right at offset count keeps few cached =
    subst (λ (n : ℕ). IsInPage (paged_of bytes (page_in blocks n)) right at count) (cached-number (page_in blocks number) number right at offset cached)
    (in_page-here blocks bytes entries number right at offset count keeps few cached)

bytes-here : (blocks : List (List Page)) (bytes : List ℕ) (entries : List CachedPage) (number right at offset count : ℕ) → IsPageStore blocks bytes entries → count ≤ 4 → IsCachedAt (page_in blocks number) (number * 2 ^ 12) right at offset
    → take count (drop offset bytes) ≡ take count (drop (at % 2 ^ 12) (stored_page bytes (page_in blocks number).start))
unfolding stored_page
bytes-here blocks bytes entries number right at offset count keeps few cached =
    let above = cached.above in
    let within = cached.within in
    let offset_is = cached.offset_is in
    let whole = keeps.whole number cached.start cached.begins in
    ap (λ (k : ℕ). take count (drop k bytes)) (let e : offset ≡ cached.start + at % 4096 = omega arith in e)
    ∙ sym (part-again bytes cached.start 4096 (at % 4096) count whole (omega arith))
    ∙ sym (ap (λ (s : Option ℕ). take count (drop (at % 4096) (stored_page bytes s))) cached.begins)

pub cached-bytes : (blocks : List (List Page)) (bytes : List ℕ) (entries : List CachedPage) (number right at offset count : ℕ) → IsPageStore blocks bytes entries → count ≤ 4 → IsCachedAt (page_in blocks number) (number * 2 ^ 12) right at offset
    → AreInPage (paged_of bytes (page_in blocks (at / 2 ^ 12))) right at count (take count (drop offset bytes))
cached-bytes blocks bytes entries number right at offset count keeps few cached =
    record {
      in_page = cached-in_page blocks bytes entries number right at offset count keeps few cached;
      are =
          subst (λ (n : ℕ). take count (drop offset bytes) ≡ take count (drop (at % 2 ^ 12) (stored_page bytes (page_in blocks n).start))) (cached-number (page_in blocks number) number right at offset cached)
          (bytes-here blocks bytes entries number right at offset count keeps few cached);
    }

-- and where they begin in their page
cached-begins : (blocks : List (List Page)) (number right at offset count : ℕ) → count ≤ 4 → IsCachedAt (page_in blocks number) (number * 2 ^ 12) right at offset → (start : ℕ) × Begins blocks (at / 2 ^ 12) start (at % 2 ^ 12) count × (offset ≡ start + at % 2 ^ 12)
cached-begins blocks number right at offset count few cached =
    let above = cached.above in
    let within = cached.within in
    let offset_is = cached.offset_is in
    let same : number ≡ at / 2 ^ 12 = cached-number (page_in blocks number) number right at offset cached in
    (cached.start, record { begins = subst (λ (n : ℕ). (page_in blocks n).start ≡ Some cached.start) same cached.begins; inside = omega arith }, omega arith)

-- an address that is among those of a page
cached-at : (page : Page) (base right low count start at offset : ℕ) → AreCachedFrom page base right low count start → (low ≤ at) × (at - low < count) × (offset ≡ start + (at - low)) → IsCachedAt page base right at offset
cached-at page base right low count start at offset serves told =
    subst (λ (a : ℕ). IsCachedAt page base right a offset) (let l = told.0 in let e : low + (at - low) ≡ at = omega (arith, l) in e)
    (subst (λ (o : ℕ). IsCachedAt page base right (low + (at - low)) o) (sym told.2) (serves.each (at - low) told.1))

-- bytes that may be read
pub entry-read : (store : PageStore) (blocks : List (List Page)) (bytes found : List ℕ) (entries : List CachedPage) (entry : CachedPage) (at offset count : ℕ) → IsPageStore blocks bytes entries → record { blocks = blocks; bytes = bytes } ≡ store → IsCacheEntry store.blocks entry
    → (entry.low ≤ at) × (at - entry.low < entry.readable) × (offset ≡ entry.start + (at - entry.low)) → count ≤ 4 → found ≡ take count (drop offset bytes) → AreInPage (paged_in store (at / 2 ^ 12)) PF_R at count found
entry-read store blocks bytes found entries entry at offset count keeps view is told few are =
    let own : IsCacheEntry blocks entry = subst (λ (s : PageStore). IsCacheEntry s.blocks entry) (sym view) is in
    let cached = cached-at (page_in blocks own.number) (own.number * 2 ^ 12) PF_R entry.low entry.readable entry.start at offset own.is.readable told in
    subst (λ (s : PageStore). AreInPage (paged_in s (at / 2 ^ 12)) PF_R at count found) view
    (subst (AreInPage (paged_of bytes (page_in blocks (at / 2 ^ 12))) PF_R at count) (sym are)
    (cached-bytes blocks bytes entries own.number PF_R at offset count keeps few cached))

-- and bytes that may be written
pub record Writes (store : PageStore) (blocks : List (List Page)) (at offset count : ℕ) : Type 0 where
  pub in_page : IsInPage (paged_in store (at / 2 ^ 12)) PF_W at count
  pub start : ℕ
  pub begins : Begins blocks (at / 2 ^ 12) start (at % 2 ^ 12) count
  pub is : offset ≡ start + at % 2 ^ 12

pub entry-write : (store : PageStore) (blocks : List (List Page)) (bytes : List ℕ) (entries : List CachedPage) (entry : CachedPage) (at offset count : ℕ) → IsPageStore blocks bytes entries → record { blocks = blocks; bytes = bytes } ≡ store → IsCacheEntry store.blocks entry
    → (entry.low ≤ at) × (at - entry.low < entry.writable) × (offset ≡ entry.start + (at - entry.low)) → count ≤ 4 → Writes store blocks at offset count
entry-write store blocks bytes entries entry at offset count keeps view is told few =
    let own : IsCacheEntry blocks entry = subst (λ (s : PageStore). IsCacheEntry s.blocks entry) (sym view) is in
    let cached = cached-at (page_in blocks own.number) (own.number * 2 ^ 12) PF_W entry.low entry.writable entry.start at offset own.is.writable told in
    let from = cached-begins blocks own.number PF_W at offset count few cached in
    record {
      in_page =
          subst (λ (s : PageStore). IsInPage (paged_in s (at / 2 ^ 12)) PF_W at count) view
          (cached-in_page blocks bytes entries own.number PF_W at offset count keeps few cached);
      start = from.0;
      begins = from.1;
      is = from.2;
    }

-- a page that was to be made, whether there was memory for it or not
pub keeps-either : (blocks after : List (List Page)) (bytes more all : List ℕ) (entries : List CachedPage) (number start : ℕ) (region : Segment) (result : Result (Unit {0}) Memory) → IsPageStore blocks bytes entries → stored_page bytes (page_in blocks number).start ≡ [] → start ≡ length bytes
    → OnOk result (IsSetAt blocks after number (record { region = region; start = Some start })) → OnErr result ((n : ℕ) → page_in after n ≡ page_in blocks n) → length more ≡ 2 ^ 12 → all ≡ bytes ++ more → IsPageStore after all entries
keeps-either blocks after bytes more all entries number start region (Ok u) keeps new from set same long are =
    keeps-made blocks after bytes more all entries number region keeps (page-none blocks bytes entries number keeps new)
    (subst (λ (s : ℕ). IsSetAt blocks after number (record { region = region; start = Some s })) from set) long are
keeps-either blocks after bytes more all entries number start region (Err e) keeps new from set same long are = keeps-more blocks after bytes more all entries keeps same long are

pub ok-made : (store : PageStore) (blocks after : List (List Page)) (bytes more all : List ℕ) (entries : List CachedPage) (number start : ℕ) (region : Segment) (result : Result (Unit {0}) Memory) → IsPageStore blocks bytes entries → record { blocks = blocks; bytes = bytes } ≡ store → start ≡ length bytes
    → OnOk result (IsSetAt blocks after number (record { region = region; start = Some start })) → length more ≡ 2 ^ 12 → all ≡ bytes ++ more
    → OnOk result ((n : ℕ) → paged_of all (page_in after n) ≡ cond (n == number) (record { region = region; bytes = more }) (paged_in store n))
ok-made store blocks after bytes more all entries number start region (Ok u) keeps view from set long are =
    λ n.
    ap (λ (b : List ℕ). paged_of b (page_in after n)) are
    ∙ pages-made blocks after bytes more entries number region keeps (subst (λ (s : ℕ). IsSetAt blocks after number (record { region = region; start = Some s })) from set) long n
    ∙ ap (λ (s : PageStore). cond (n == number) (record { region = region; bytes = more }) (paged_in s n)) view
ok-made store blocks after bytes more all entries number start region (Err e) keeps view from set long are = tt

pub err-made : (store : PageStore) (blocks after : List (List Page)) (bytes more all : List ℕ) (entries : List CachedPage) (result : Result (Unit {0}) Memory) → IsPageStore blocks bytes entries → record { blocks = blocks; bytes = bytes } ≡ store
    → OnErr result ((n : ℕ) → page_in after n ≡ page_in blocks n) → all ≡ bytes ++ more → OnErr result ((n : ℕ) → paged_of all (page_in after n) ≡ paged_in store n)
err-made store blocks after bytes more all entries (Ok u) keeps view same are = tt
err-made store blocks after bytes more all entries (Err e) keeps view same are =
    λ n.
    ap (λ (b : List ℕ). paged_of b (page_in after n)) are
    ∙ pages-more blocks after bytes more entries keeps same n
    ∙ ap (λ (s : PageStore). paged_in s n) view
