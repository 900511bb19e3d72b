-- Following links.
use Rattle.std.proofs.Common.{◌≡◌, ℕ, zero, suc, ◌+◌, ◌-◌, ◌<◌, Bool, true, false, cond, Option, Some, None, refl, sym, ap, ◌∙◌, arith}
use Rattle.std.specs.Prelude.{is_some, option_map, if◌then◌else◌}
use Rattle.std.specs.Option.{option_map_or}
use Rattle.dwarf_info.specs.Units.{DebugInfo}
use Rattle.dwarf_info.specs.Queries.{EntryAt, entry_with, link_of}
use Rattle.dwarf_inline.specs.Links.{linked, identity, has_more_links}

linked_here : (info : DebugInfo) (n i : ℕ) → None ≡ link_of info i → linked info n i ≡ i
unfolding linked
linked_here info zero i none = refl
linked_here info (suc n) i none = ap (λ (o : Option ℕ). option_map_or (linked info n) o i) (sym none)

linked_on : (info : DebugInfo) (n i j : ℕ) → Some j ≡ link_of info i → linked info (suc n) i ≡ linked info n j
unfolding linked
linked_on info n i j some = ap (λ (o : Option ℕ). option_map_or (linked info n) o i) (sym some)

-- one link followed
follows : (info : DebugInfo) (most i at next total : ℕ) → i < most → Some next ≡ link_of info at → linked info (most - i) at ≡ total
    → linked info (most - (i + 1)) next ≡ total
follows info most i at next total lt some so_far =
    let left : most - i ≡ suc (most - (i + 1)) = omega arith in
    sym (linked_on info (most - (i + 1)) at next some) ∙ ap (λ (n : ℕ). linked info n at) (sym left) ∙ so_far

abbrev told : DebugInfo → ℕ → Option ℕ
told info i = if is_some (link_of info i) then None else Some i

-- no link is left
arrived : (info : DebugInfo) (n entry at : ℕ) → None ≡ link_of info at → linked info n at ≡ identity info entry
    → Some at ≡ (if has_more_links info entry then None else Some (identity info entry))
arrived info n entry at none so_far =
    let is : at ≡ identity info entry = sym (linked_here info n at none) ∙ so_far in
    let here : Some at ≡ told info at = ap (λ (o : Option ℕ). cond (is_some o) None (Some at)) none in
    here ∙ ap (told info) is

all_followed : (info : DebugInfo) (n at total : ℕ) → n ≡ 0 → linked info n at ≡ total → at ≡ total
unfolding linked
all_followed info zero at total none so_far = so_far
all_followed info (suc n) at total none so_far = absurd (omega arith)

-- a link is left after all that may be followed
too_many : (info : DebugInfo) (most i entry at next : ℕ) → most - i ≡ 0 → Some next ≡ link_of info at → linked info (most - i) at ≡ identity info entry
    → None ≡ (if has_more_links info entry then None else Some (identity info entry))
too_many info most i entry at next none some so_far =
    let is : at ≡ identity info entry = all_followed info (most - i) at (identity info entry) none so_far in
    let here : None ≡ told info at = ap (λ (o : Option ℕ). cond (is_some o) None (Some at)) some in
    here ∙ ap (told info) is

-- ---- the same of entries

-- as many links lead from an entry to another as were followed
pub record IsLinked (entry last : EntryAt) (count : ℕ) : Type 0 where
  pub same : last.info ≡ entry.info
  pub linked : linked entry.info (8 - count) last.index ≡ identity entry.info entry.index

abbrev linked_from : EntryAt → Option EntryAt
linked_from e = option_map (entry_with e.info) (link_of e.info e.index)

abbrev pub told_entry : EntryAt → Option EntryAt
told_entry e = if has_more_links e.info e.index then None else Some (entry_with e.info (identity e.info e.index))

some_next : (info : DebugInfo) (o : Option ℕ) (next : EntryAt) → Some next ≡ option_map (entry_with info) o → (next.info ≡ info) × (Some next.index ≡ o)
some_next info None next is = absurd cc
some_next info (Some j) next is = (ap (λ (o : Option EntryAt). info_or o) is, ap (λ (o : Option EntryAt). option_map (λ (e : EntryAt). e.index) o) is)
  where
    info_or : Option EntryAt → DebugInfo
    info_or (Some e) = e.info
    info_or None = info

no_next : (info : DebugInfo) (o : Option ℕ) → None ≡ option_map (entry_with info) o → None ≡ o
no_next info None is = refl
no_next info (Some j) is = absurd cc

carried : (info : DebugInfo) (b : Bool) (i : ℕ) → option_map (entry_with info) (if b then None else Some i) ≡ (if b then None else Some (entry_with info i))
carried info true i = refl
carried info false i = refl

own_link : (entry last : EntryAt) → last.info ≡ entry.info → link_of last.info last.index ≡ link_of entry.info last.index
own_link entry last same = ap (λ (info : DebugInfo). link_of info last.index) same

pub entry_follows : (entry last next : EntryAt) (count : ℕ) → count < 8 → Some next ≡ linked_from last → IsLinked entry last count → IsLinked entry next (count + 1)
entry_follows entry last next count lt some so_far =
    let is = some_next last.info (link_of last.info last.index) next some in
    record {
      same = is.0 ∙ so_far.same;
      linked = follows entry.info 8 count last.index next.index _ lt (is.1 ∙ own_link entry last so_far.same) so_far.linked;
    }

pub entry_arrived : (entry last : EntryAt) (count : ℕ) → None ≡ linked_from last → IsLinked entry last count → Some last ≡ told_entry entry
entry_arrived entry last count none so_far =
    let end : Some last.index ≡ (if has_more_links entry.info entry.index then None else Some (identity entry.info entry.index)) =
    arrived entry.info (8 - count) entry.index last.index (no_next last.info (link_of last.info last.index) none ∙ own_link entry last so_far.same) so_far.linked in
    let own : Some last ≡ option_map (entry_with entry.info) (Some last.index) = ap (λ (info : DebugInfo). let o : Option EntryAt = Some (entry_with info last.index) in o) so_far.same in
    own ∙ ap (λ (o : Option ℕ). option_map (entry_with entry.info) o) end ∙ carried entry.info (has_more_links entry.info entry.index) (identity entry.info entry.index)

pub entry_too_far : (entry last next : EntryAt) (count : ℕ) → 8 - count ≡ 0 → Some next ≡ linked_from last → IsLinked entry last count → None ≡ told_entry entry
entry_too_far entry last next count all some so_far =
    let is = some_next last.info (link_of last.info last.index) next some in
    let end : None ≡ (if has_more_links entry.info entry.index then None else Some (identity entry.info entry.index)) =
    too_many entry.info 8 count entry.index last.index next.index all (is.1 ∙ own_link entry last so_far.same) so_far.linked in
    ap (λ (o : Option ℕ). option_map (entry_with entry.info) o) end ∙ carried entry.info (has_more_links entry.info entry.index) (identity entry.info entry.index)
