-- The entries of subprograms and inlined subroutines in few bytes.
use Rattle.std.specs.Prelude.{ℕ, ◌%◌, ◌^◌, nat_le}
use Rattle.dwarf_info.specs.Subroutines.{SubroutineEntry}

-- an entry by its index, with 2^31 more where it is an inlined subroutine, and its offset
abbrev pub unmarked : ℕ → ℕ → SubroutineEntry
unmarked marked offset = record { index = marked % 2 ^ 31; offset = offset; inlined = nat_le (2 ^ 31) marked }
