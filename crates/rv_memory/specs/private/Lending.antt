-- Words in the bytes of a page that are lent.
use Rattle.std.specs.Prelude.{◌≡◌, ℕ, ◌+◌, ◌-◌, ◌≤◌, length, take, drop, true, IfSome}
use Rattle.elf_image.specs.declared.elf.TheConstants.{PF_R}
use Rattle.prof_bytes.specs.Number.{number_in}
use Rattle.scope_types.specs.Memory.{BytesAt, word_in}
use Rattle.rv_memory.specs.AddressSpace.{has}
use Rattle.rv_memory.specs.private.Pages.{Paged}
use Rattle.rv_memory.specs.private.Paging.{covers_all}

-- the word at an address is in the page that begins at `base`, and its region may be read and holds it
pub record IsWordOf (page : Paged) (base at word : ℕ) : Type 0 where
  pub low : base ≤ at
  pub within : at - base + 4 ≤ length page.bytes
  pub covered : covers_all page.region at 4 ≡ true
  pub granted : has PF_R page.region ≡ true
  pub word_is : word ≡ number_in 4 (take 4 (drop (at - base) page.bytes))

-- each word that has all four of its bytes among these does
abbrev pub AreWordsOf : Paged → ℕ → BytesAt → Type 0
AreWordsOf page base slice = (at : ℕ) → IfSome (word_in slice at) (IsWordOf page base at)
