-- Which entry gives a subprogram or an inlined subroutine its name and its identity. DWARF 5, sections 2.13.2, 2.15,
-- 3.3.8.2 and 3.3.8.3.
use Rattle.std.specs.Prelude.{ℕ, zero, suc, Bool, List, take, slice_get, is_some, unwrap_or, codes}
use Rattle.std.specs.Option.{option_map_or}
use Rattle.scope_types.specs.Limits.{most_name_bytes}
use Rattle.dwarf_info.specs.Units.{DebugInfo}
use Rattle.dwarf_info.specs.Queries.{name_of, link_of}

-- ---- links

-- the most links from entry to entry that may follow one another
abbrev pub most_links : ℕ
most_links = 8

-- the entry that `n` links lead to, or fewer where there are no more: each link is the abstract origin, else the
-- specification
unfoldable pub linked : DebugInfo → ℕ → ℕ → ℕ
linked info zero i = i
linked info (suc n) i = option_map_or (linked info n) (link_of info i) i

-- the entry to which all links lead
abbrev pub identity : DebugInfo → ℕ → ℕ
identity info i = linked info most_links i

-- a link is left after the most that there may be
abbrev pub has_more_links : DebugInfo → ℕ → Bool
has_more_links info i = is_some (link_of info (identity info i))

-- the offset of the entry with an index in .debug_info
abbrev pub entry_offset : DebugInfo → ℕ → ℕ
entry_offset info i = option_map_or (λ e. e.offset) (slice_get info.entries i) 0

-- what identifies a procedure, and all inlined calls of it: the offset of the entry to which the links lead
abbrev pub identity_offset : DebugInfo → ℕ → ℕ
identity_offset info i = entry_offset info (identity info i)

-- ---- names

-- the name of what has none
abbrev pub unnamed : List ℕ
unnamed = codes "<unnamed>"

-- the name of an entry's identity, cut
abbrev pub entry_name : DebugInfo → ℕ → List ℕ
entry_name info i = take most_name_bytes (unwrap_or (name_of info (identity info i)) unnamed)
