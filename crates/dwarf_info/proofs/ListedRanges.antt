-- The ranges of an entry with a range list that was read.
use Rattle.std.proofs.Common.{◌≡◌, ℕ, List, Option, Some, None, sym, ap, ◌∙◌}
use Rattle.std.specs.Prelude.{option_and_then, unwrap_or}
use Rattle.dwarf_info.specs.declared.range_source.ListPlace.{ListPlace}
use Rattle.dwarf_info.specs.Units.{DebugInfo}
use Rattle.dwarf_info.specs.Queries.{UnitEntry}
use Rattle.dwarf_info.specs.Ranges.{attribute_ranges, entry_ranges, low_high_of, one_or_none, place_ranges}

entry_listed : (info : DebugInfo) (e : Option UnitEntry) (ranges : List (ℕ × ℕ)) → Some ranges ≡ option_and_then (attribute_ranges info) e → entry_ranges info e ≡ ranges
entry_listed info None ranges is = absurd (no ranges is)
  where
    no : (r : List (ℕ × ℕ)) → ◌≡◌ {A = Option (List (ℕ × ℕ))} (Some r) None → ⊥
    no r e = cc
entry_listed info (Some e) ranges is = ap (λ (o : Option (List (ℕ × ℕ))). unwrap_or o (one_or_none (low_high_of info e))) (sym is)

pub place_listed : (info : DebugInfo) (e : Option UnitEntry) (found : Option ListPlace) (place : ListPlace) (ranges : List (ℕ × ℕ))
    → option_and_then (place_ranges info.sections) found ≡ option_and_then (attribute_ranges info) e → found ≡ Some place → place_ranges info.sections place ≡ Some ranges → entry_ranges info e ≡ ranges
place_listed info e found place ranges same is read =
    entry_listed info e ranges (sym read ∙ sym (ap (option_and_then (place_ranges info.sections)) is) ∙ same)
