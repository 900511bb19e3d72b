-- The names of procedures by their identities.
use Rattle.std.specs.Prelude.{ℕ, ◌==◌, List, find, option_map, option_to_list, take, Option}
use Rattle.std.specs.Option.{option_map_or}
use Rattle.scope_types.specs.Limits.{most_name_bytes}
use Rattle.dwarf_forms.specs.Sections.{section_text}
use Rattle.dwarf_info.specs.Units.{DebugInfo}
use Rattle.dwarf_info.specs.Queries.{name_of}
use Rattle.dwarf_info.specs.Subroutines.{Indexed}
use Rattle.dwarf_inline.specs.Links.{identity, identity_offset, unnamed}
use Rattle.dwarf_inline.specs.declared.identities.ProcName.{ProcName}

-- an identity with its name
abbrev pub Pair : Type 0
Pair = ℕ × List ℕ

-- as it is kept; the name is cut where it is asked for
abbrev pub pair_of : ProcName → Pair
pair_of n = (n.identity, take most_name_bytes (section_text n.name))

-- an identity with a name, cut, if there is one
abbrev pub paired : ℕ → Option (List ℕ) → Option Pair
paired offset name = option_map (λ name. (offset, take most_name_bytes name)) name

-- an identity with the name of the entry with an index, cut, if it has one
abbrev pub named : DebugInfo → ℕ → ℕ → Option Pair
named info i offset = paired offset (name_of info i)

-- the identity of an item with its name, if it has one
abbrev pub named_item : DebugInfo → Indexed → List Pair
named_item info e = option_to_list (named info (identity info e.0) (identity_offset info e.0))

-- the name of an identity
abbrev pub name_by : List Pair → ℕ → List ℕ
name_by names offset = option_map_or (λ p. p.1) (find (λ p. p.0 == offset) names) unnamed
