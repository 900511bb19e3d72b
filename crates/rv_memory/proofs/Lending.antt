-- Words in the bytes of a page that are lent.
use Rattle.std.proofs.Common.{◌≡◌, ℕ, ◌+◌, ◌-◌, ◌*◌, ◌/◌, ◌%◌, ◌^◌, ◌<◌, ◌≤◌, ◌&&◌, Bool, true, false, cond, List, length, take, drop, Option, Some, None, IfSome, nat_le, refl, sym, ap, ap₂, subst, ◌∙◌, arith}
use Rattle.std.proofs.lemmas.Bool.{and_parts, leb-true, le-leb}
use Rattle.elf_image.specs.declared.elf.TheConstants.{PF_R}
use Rattle.prof_bytes.specs.Number.{number_in}
use Rattle.scope_types.specs.Memory.{word_in}
use Rattle.rv_memory.specs.AddressSpace.{has, loaded}
use Rattle.rv_memory.specs.declared.paged_memory.PagedMemory.{PagedMemory}
use Rattle.rv_memory.specs.private.Pages.{Paged}
use Rattle.rv_memory.specs.private.Paging.{page_numbered, page_of, memory_of, IsPaged}
use Rattle.rv_memory.specs.private.Lending.{IsWordOf}
use Rattle.rv_memory.proofs.Contiguous.{part-length, part-again}
use Rattle.rv_memory.proofs.Whole.{page-loaded}

-- the bytes that lie in the page's region
pub part-words : (page : Paged) (base low high : ℕ) → has PF_R page.region ≡ true → page.region.start ≤ base + low → low < high → base + high ≤ page.region.end → high ≤ length page.bytes
    → (at : ℕ) → IfSome (word_in (record { base = base + low; bytes = take (high - low) (drop low page.bytes) }) at) (IsWordOf page base at)
part-words page base low high granted from some to within at =
    go (nat_le (base + low) at && nat_le (at + 4) (base + low + length lent)) refl
  where
    lent : List ℕ
    lent = take (high - low) (drop low page.bytes)

    long : length lent ≡ high - low
    long = part-length page.bytes low (high - low) (omega arith)

    word : ℕ
    word = number_in 4 (take 4 (drop (at - (base + low)) lent))

    go : (b : Bool) → (nat_le (base + low) at && nat_le (at + 4) (base + low + length lent)) ≡ b → IfSome (cond b (Some word) None) (IsWordOf page base at)
    go false e = tt
    go true e =
        let tests = and_parts (nat_le (base + low) at) (nat_le (at + 4) (base + low + length lent)) e in
        let above : base + low ≤ at = leb-true (base + low) at tests.0 in
        let before : at + 4 ≤ base + low + length lent = leb-true (at + 4) (base + low + length lent) tests.1 in
        let below : at + 4 ≤ base + high = omega (arith, before, long, some) in
        record {
          low = omega arith;
          within = omega arith;
          covered = ap₂ (λ (a b : Bool). a && b) (le-leb page.region.start at (omega arith)) (le-leb (at + 4) page.region.end (omega arith));
          granted = granted;
          word_is =
              ap (number_in 4) (part-again page.bytes low (high - low) (at - (base + low)) 4 (omega arith) (omega arith)
              ∙ ap (λ (k : ℕ). take 4 (drop k page.bytes)) (let e : low + (at - (base + low)) ≡ at - base = omega arith in e));
        }

-- a word that is in a page is what a load gives
word-loaded : (paged : PagedMemory) (at base a word : ℕ) (page : Paged) → IsPaged paged → page ≡ page_of paged at → base ≡ at / 2 ^ 12 * 2 ^ 12 → IsWordOf page base a word → loaded (memory_of paged) a 4 ≡ Some word
word-loaded paged at base a word page is same base_is cached =
    let short : length page.bytes ≤ 2 ^ 12 = subst (λ (p : Paged). length p.bytes ≤ 2 ^ 12) (sym same) (is.short (at / 2 ^ 12)) in
    let low = cached.low in
    let within = cached.within in
    let offset : a - base ≡ a % 2 ^ 12 = omega arith in
    let here : page_of paged at ≡ page_of paged a = (let e : at / 2 ^ 12 ≡ a / 2 ^ 12 = omega arith in ap (page_numbered paged) e) in
    let bytes : List ℕ = take 4 (drop (a % 2 ^ 12) page.bytes) in
    let inside : a % 2 ^ 12 + 4 ≤ length page.bytes = omega arith in
    page-loaded paged a 4 word page bytes is (same ∙ here) cached.covered cached.granted inside refl
    (cached.word_is ∙ ap (λ (k : ℕ). number_in 4 (take 4 (drop k page.bytes))) offset ∙ sym (ap (λ (k : ℕ). number_in k bytes) (part-length page.bytes (a % 2 ^ 12) 4 inside)))

pub words-loaded : (paged : PagedMemory) (at base a : ℕ) (page : Paged) (word : Option ℕ) → IsPaged paged → page ≡ page_of paged at → base ≡ at / 2 ^ 12 * 2 ^ 12 → IfSome word (IsWordOf page base a) → IfSome word (λ word. loaded (memory_of paged) a 4 ≡ Some word)
words-loaded paged at base a page None is same base_is cached = tt
words-loaded paged at base a page (Some word) is same base_is cached = word-loaded paged at base a word page is same base_is cached
