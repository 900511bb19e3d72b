-- The cache of pages: which addresses of a page may be read and written, and where their bytes are.
use Rattle.std.specs.Prelude.{◌≡◌, ℕ, ◌+◌, ◌-◌, ◌*◌, ◌%◌, ◌^◌, ◌<◌, ◌≤◌, List, All, length, take, drop, true, Some}
use Rattle.elf_image.specs.declared.elf.TheConstants.{PF_R, PF_W}
use Rattle.rv_memory.specs.AddressSpace.{has}
use Rattle.rv_memory.specs.declared.page.Page.{Page}
use Rattle.rv_memory.specs.declared.page_cache.CachedPage.{CachedPage}
use Rattle.rv_memory.specs.private.Pages.{Paged, page_in}

-- four bytes from an address on lie in the page that begins at `base` and in its region, which has the right, and
-- are from this offset on among the bytes of all pages
pub record IsCachedAt (page : Page) (base right at offset : ℕ) : Type 0 where
  pub granted : has right page.region ≡ true
  pub low : page.region.start ≤ at
  pub high : at + 4 ≤ page.region.end
  pub above : base ≤ at
  pub within : at + 4 ≤ base + 2 ^ 12
  pub start : ℕ
  pub begins : page.start ≡ Some start
  pub offset_is : offset ≡ start + (at - base)

-- a given number of addresses from the lowest on do
pub record AreCachedFrom (page : Page) (base right low count start : ℕ) : Type 0 where
  pub fits : low + count ≤ 2 ^ 32
  pub each : (k : ℕ) → k < count → IsCachedAt page base right (low + k) (start + k)

-- what is cached of a page that begins at `base`
pub record IsCacheOf (page : Page) (base : ℕ) (entry : CachedPage) : Type 0 where
  pub readable : AreCachedFrom page base PF_R entry.low entry.readable entry.start
  pub writable : AreCachedFrom page base PF_W entry.low entry.writable entry.start

-- what is cached of one of the pages
pub record IsCacheEntry (blocks : List (List Page)) (entry : CachedPage) : Type 0 where
  pub number : ℕ
  pub is : IsCacheOf (page_in blocks number) (number * 2 ^ 12) entry

-- the bytes of each page that was made are all there, apart from those of the others, and what is cached holds
pub record IsPageStore (blocks : List (List Page)) (bytes : List ℕ) (entries : List CachedPage) : Type 0 where
  pub round : length bytes % 2 ^ 12 ≡ 0
  pub aligned : (number start : ℕ) → (page_in blocks number).start ≡ Some start → start % 2 ^ 12 ≡ 0
  pub whole : (number start : ℕ) → (page_in blocks number).start ≡ Some start → start + 2 ^ 12 ≤ length bytes
  pub single : (m n start : ℕ) → (page_in blocks m).start ≡ Some start → (page_in blocks n).start ≡ Some start → m ≡ n
  pub cache : All (IsCacheEntry blocks) entries

-- a given number of bytes from an address on are in its page, and lie in the page's region, which has the right
pub record IsInPage (page : Paged) (right at count : ℕ) : Type 0 where
  pub granted : has right page.region ≡ true
  pub low : page.region.start ≤ at
  pub high : at + count ≤ page.region.end
  pub within : at % 2 ^ 12 + count ≤ length page.bytes

-- and these are the bytes
pub record AreInPage (page : Paged) (right at count : ℕ) (found : List ℕ) : Type 0 where
  pub in_page : IsInPage page right at count
  pub are : found ≡ take count (drop (at % 2 ^ 12) page.bytes)
