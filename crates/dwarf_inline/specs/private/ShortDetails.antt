-- The details of items in few bytes: of each fourth alone it is kept where its ranges begin.
use Rattle.std.specs.Prelude.{◌≡◌, ℕ, ◌+◌, ◌*◌, ◌%◌, ◌^◌, ◌<◌, ◌≤◌, ◌==◌, nat_le, Bool, true, false, List, [], ◌∷◌}
use Rattle.std.specs.Prelude.{length, take, slice_index, sum_by, if◌then◌else◌}
use Rattle.dwarf_inline.specs.declared.details.Detail.{Detail}
use Rattle.dwarf_inline.specs.declared.details.CallLine.{CallLine}
use Rattle.dwarf_inline.specs.declared.details.CallLine.TheVariants.{Nowhere, InTable, AtAddress}

-- a detail without the index of its first range
pub record ShortDetail : Type 0 where
  pub call : CallLine
  pub range_count : ℕ
  pub at : ℕ

-- where an item is called, by whether that is at a line, and by three numbers
abbrev pub call_in : Bool → ℕ → ℕ → ℕ → CallLine
call_in true place file line = InTable place file line
call_in false place file line = if file == 1 then AtAddress place else Nowhere

-- a detail by five numbers: that of the ranges is marked with 2^31 where the call is at a line
abbrev pub short_in : ℕ → ℕ → ℕ → ℕ → ℕ → ShortDetail
short_in place file line marked at = record {
  call = call_in (nat_le (2 ^ 31) marked) place file line;
  range_count = marked % 2 ^ 31;
  at = at;
}

-- how many ranges details have
abbrev pub count_ranges : List ShortDetail → ℕ
count_ranges details = sum_by (λ d. d.range_count) details

-- a detail that has so many ranges before it
abbrev pub whole : ℕ → ShortDetail → Detail
whole first d = record { first_range = first; call = d.call; range_count = d.range_count; at = d.at }

-- details one after another; so many ranges are before them
unfoldable pub wholes : ℕ → List ShortDetail → List Detail
wholes first [] = []
wholes first (d ∷ details) = whole first d ∷ wholes (first + d.range_count) details

-- of each fourth detail, how many ranges are before it
pub record AreFirsts (details : List ShortDetail) (firsts : List ℕ) : Type 0 where
  pub long : length details ≤ 4 * length firsts
  pub are : (j : ℕ) → j < length firsts
      → (4 * j ≤ length details) × (slice_index firsts j ≡ count_ranges (take (4 * j) details))
  pub few : count_ranges details < 2 ^ 64
