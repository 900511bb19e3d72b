-- Rows in the order of their addresses.
use Rattle.std.specs.Prelude.{ℕ, ◌≤◌, ◌<◌, false, List, length, get_or}
use Rattle.std.specs.List.Sorted.{IsStableByKey}
use Rattle.std.specs.Ordering.{nat_cmp}
use Rattle.dwarf_line.specs.declared.registers.LineRow.{LineRow}

-- the row that an index past the end gives
abbrev pub zero_row : LineRow
zero_row = record { address = 0; file = 0; line = 0; end_sequence = false }

-- the address of the row with an index
abbrev pub address_at : List LineRow → ℕ → ℕ
address_at rows i = (get_or rows i zero_row).address

-- no row has a lower address than one before it
abbrev pub Rises : List LineRow → Type 0
Rises rows = (i j : ℕ) → i ≤ j → j < length rows → address_at rows i ≤ address_at rows j

-- rows in the order of their addresses; those of one address are as they were
pub record IsByAddress (rows sorted : List LineRow) : Type 0 where
  pub rises : Rises sorted
  pub stable : IsStableByKey (λ (r : LineRow). r.address) nat_cmp rows sorted
