-- Which texts end in their section.
use Rattle.std.specs.Prelude.{◌≡◌, ◌≤◌, ℕ, nat_lt, List, length, is_some}
use Rattle.dwarf_forms.specs.Sections.{text_in}

-- the texts that begin before an offset end in the section, and no others do
pub record AreEndedBefore (section : List ℕ) (end : ℕ) : Type 0 where
  pub within : end ≤ length section
  pub ended : (offset : ℕ) → is_some (text_in section offset) ≡ nat_lt offset end
