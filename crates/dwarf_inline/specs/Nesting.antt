-- How the entries of a flat list with depths nest. DWARF 5, section 2.3.
use Rattle.std.specs.Prelude.{ℕ, ◌+◌, ◌==◌, ◌&&◌, ◌||◌, nat_lt, Bool, List, drop, take, length, count_by}
use Rattle.std.specs.List.{take_while}
use Rattle.dwarf_info.specs.declared.entry.InfoEntry.{InfoEntry}
use Rattle.dwarf_info.specs.Units.{DebugInfo}
use Rattle.dwarf_info.specs.Subroutines.{Indexed, indexed, is_item, is_inlined}

-- an entry is deeper than a depth
abbrev pub is_deeper : ℕ → InfoEntry → Bool
is_deeper depth e = nat_lt depth e.depth

-- the descendants of an entry: those that follow it and are deeper, up to the first that isn't
abbrev pub descendants : DebugInfo → Indexed → List InfoEntry
descendants info e = take_while (is_deeper e.1.depth) (drop (e.0 + 1) info.entries)

-- the index after an entry and its descendants
abbrev pub end_of : DebugInfo → Indexed → ℕ
end_of info e = e.0 + 1 + length (descendants info e)

-- how many items are before an index
abbrev pub items_before : DebugInfo → ℕ → ℕ
items_before info i = count_by is_item (take i info.entries)

-- the number of the first later item that is not a descendant of an entry; the number of all items where there is none
abbrev pub item_after : DebugInfo → Indexed → ℕ
item_after info e = items_before info (end_of info e)

-- the second entry is a descendant of the first
abbrev pub is_below : DebugInfo → Indexed → Indexed → Bool
is_below info e f = nat_lt e.0 f.0 && nat_lt f.0 (end_of info e)

-- how many inlined subroutines are among an entry and its ancestors
abbrev pub inlined_levels : DebugInfo → Indexed → ℕ
inlined_levels info e = count_by (λ f. is_inlined f.1 && (f.0 == e.0 || is_below info f e)) (indexed info)
