-- Pages of memory, the blocks that they are in, and their bytes.
use Rattle.std.specs.Prelude.{◌≡◌, ◌==◌, if◌then◌else◌, ℕ, ◌+◌, ◌/◌, ◌%◌, ◌^◌, List, [], ◌++◌, length, take, drop}
use Rattle.std.specs.Prelude.{Option, Some, None}
use Rattle.std.specs.List.{slice_index_or}
use Rattle.elf_image.specs.declared.part.Segment.{Segment}
use Rattle.rv_memory.specs.declared.page.Page.{Page}

-- a page: its bytes, none where it was not made, and the region for which it was made
pub record Paged : Type 0 where
  pub region : Segment
  pub bytes : List ℕ

-- a segment without addresses
abbrev pub no_region : Segment
no_region = record { start = 0; end = 0; flags = 0; offset = 0; filled = 0 }

-- a page that was not made
abbrev pub unmade : Page
unmade = record { region = no_region; start = None }

-- bytes with others in place of some of them
abbrev pub spliced : List ℕ → ℕ → List ℕ → List ℕ
spliced bytes offset source = take offset bytes ++ source ++ drop (offset + length source) bytes

-- a page with other bytes from this offset on
abbrev pub with_bytes : Paged → ℕ → List ℕ → Paged
with_bytes page offset source = record { region = page.region; bytes = spliced page.bytes offset source }

-- blocks of 256 pages, and the bytes of all pages that were made, one page's after another's
pub record PageStore : Type 0 where
  pub blocks : List (List Page)
  pub bytes : List ℕ

-- a page of a block by its index; unmade where there is none
abbrev pub page_at : List Page → ℕ → Page
page_at block index = slice_index_or block index unmade

-- a page of blocks by its number
abbrev pub page_in : List (List Page) → ℕ → Page
page_in blocks number = page_at (slice_index_or blocks (number / 2 ^ 8) []) (number % 2 ^ 8)

-- blocks in which the page of this number is this one, and all others are as before
abbrev pub IsSetAt : List (List Page) → List (List Page) → ℕ → Page → Type 0
IsSetAt old new number page = (n : ℕ) → page_in new n ≡ (if n == number then page else page_in old n)

-- the bytes of a page that begin there
unfoldable pub stored_page : List ℕ → Option ℕ → List ℕ
stored_page bytes None = []
stored_page bytes (Some start) = take (2 ^ 12) (drop start bytes)

-- a page with its bytes
abbrev pub paged_of : List ℕ → Page → Paged
paged_of bytes page = record { region = page.region; bytes = stored_page bytes page.start }

-- a page of a store by its number
abbrev pub paged_in : PageStore → ℕ → Paged
paged_in store number = paged_of store.bytes (page_in store.blocks number)

-- a store in which the page of this number is this one, and all others are as before
abbrev pub IsPagedAt : PageStore → PageStore → ℕ → Paged → Type 0
IsPagedAt old new number page = (n : ℕ) → paged_in new n ≡ (if n == number then page else paged_in old n)
