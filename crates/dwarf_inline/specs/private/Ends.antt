-- Where entries end, by the depths of all, as lists.
use Rattle.std.specs.Prelude.{◌≡◌, ℕ, ◌+◌, ◌<◌, ◌≤◌, List, drop, length, map, nat_lt, slice_index, slice_index_or}
use Rattle.std.specs.List.{take_while}
use Rattle.dwarf_info.specs.Units.{DebugInfo}
use Rattle.dwarf_info.specs.Subroutines.{Indexed, item_entries}
use Rattle.dwarf_inline.specs.Nesting.{end_of, item_after}

-- the depths of entries
abbrev pub depths_of : DebugInfo → List ℕ
depths_of info = map (λ e. e.depth) info.entries

-- the index after the entry with an index and a depth, and its descendants
unfoldable pub entry_end : List ℕ → ℕ → ℕ → ℕ
entry_end depths i depth = i + 1 + length (take_while (nat_lt depth) (drop (i + 1) depths))

-- from an index on, each is the end of the entry at its index
pub record AreEndsFrom (depths : List ℕ) (start : ℕ) (ends : List ℕ) : Type 0 where
  pub long : length ends ≡ length depths
  pub are : (i d : ℕ) → start ≤ i → i < length depths
      → slice_index ends i ≡ entry_end depths i (slice_index_or depths i d)

-- what is read behind the end of the items
abbrev pub no_item : Indexed
no_item = (0, record { offset = 0; depth = 0; tag = 0; «unit» = 0 })

-- the index after the entry of the item with a number, and its descendants
abbrev pub end_at : DebugInfo → ℕ → ℕ
end_at info k = end_of info (slice_index_or (item_entries info) k no_item)

-- the number of the item after the item with a number and its descendants
abbrev pub after_at : DebugInfo → ℕ → ℕ
after_at info k = item_after info (slice_index_or (item_entries info) k no_item)

-- from a number on, each is that of the item after the one with its number
pub record AreAftersFrom (info : DebugInfo) (start : ℕ) (afters : List ℕ) : Type 0 where
  pub are : (k : ℕ) → start ≤ k → k < length (item_entries info) → slice_index afters k ≡ after_at info k
