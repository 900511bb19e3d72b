-- The rows of an FDE: addresses that have the same rules (DWARF 5, section 6.4.1).
use Rattle.std.specs.Prelude.{◌≡◌, ◌⊎◌, ℕ, ◌≤◌, ◌<◌, nat_lt, true, List, map, slice_get, Option, Some, None, IsErr}
use Rattle.std.specs.Prelude.{if◌then◌else◌}
use Rattle.address_ranges.specs.Ranges.{holds, IsNotFirst}
use Rattle.cfi_table.specs.declared.fde.Fde.{Fde}
use Rattle.cfi_table.specs.declared.rows.Row.{Row}
use Rattle.cfi_table.specs.declared.rules.Rules.{Rules}
use Rattle.cfi_table.specs.Entries.{after_cie}
use Rattle.cfi_table.specs.Frames.{Frames, fde_at, fde_range, rules_of}

-- an FDE of a section, where its next row begins, if there is one, and the rules of the row before that
pub record FdeRows : Type 0 where
  pub section : List ℕ
  pub fde : Fde
  pub next : Option ℕ
  pub rules : Option Rules

-- where a row begins at an address, if the FDE has one there
abbrev pub row_from : Fde → ℕ → Option ℕ
row_from fde address = if nat_lt address (fde_range fde).end then Some address else None

-- the row has addresses of the FDE, and at each the rules are these
pub record IsRow (section : List ℕ) (fde : Fde) (row : Row) (found : Option Rules) : Type 0 where
  pub some : row.start < row.end
  pub low : fde.initial_location ≤ row.start
  pub within : row.end ≤ (fde_range fde).end
  pub rules : (address : ℕ) → row.start ≤ address → address < row.end → rules_of section address fde ≡ found

-- the row is the next one, it has these rules, and the one after it begins where it ends
pub record IsNextRow (before after : FdeRows) (row : Row) : Type 0 where
  pub is : IsRow before.section before.fde row after.rules
  pub start : before.next ≡ Some row.start
  pub next : after.next ≡ row_from before.fde row.end

-- the rows, from the first on, of an FDE that is the first to hold each of its addresses
pub record AreFirst (frames : Frames) (rows : FdeRows) : Type 0 where
  pub section : rows.section ≡ frames.section
  pub first : (address : ℕ) → holds address (fde_range rows.fde) ≡ true → fde_at frames address ≡ Some rows.fde
  pub next : rows.next ≡ row_from rows.fde rows.fde.initial_location

-- the rows are those of the FDE with that number
abbrev pub AreOf : Frames → ℕ → FdeRows → Type 0
AreOf frames number rows = slice_get frames.fdes number ≡ Some rows.fde

-- the FDE with that number has no rows: another one is the first to hold one of its addresses, or its CIE's
-- instructions are at fault
pub record HasNoRows (frames : Frames) (number : ℕ) : Type 0 where
  pub fde : Fde
  pub is : slice_get frames.fdes number ≡ Some fde
  pub why : IsNotFirst (map fde_range frames.fdes) (fde_range fde).start (fde_range fde).end number
      ⊎ IsErr (after_cie frames.section fde.cie)

-- no rows are given of that number: no FDE has it, or the one that has it has no rows
abbrev pub AreNone : Frames → ℕ → Type 0
AreNone frames number = (slice_get frames.fdes number ≡ None) ⊎ HasNoRows frames number
