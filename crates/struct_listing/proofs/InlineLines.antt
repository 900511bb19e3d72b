-- The lines of the inlined subroutines below a subprogram, one at a time.
use Rattle.std.proofs.Common.{◌≡◌, ℕ, ◌+◌, ◌<◌, ◌≤◌, List, ◌++◌, length, take, get_or, map, Some, sym, ap, ◌∙◌, arith}
use Rattle.std.specs.Prelude.{count_by, filter, nat_lt, slice_get}
use Rattle.std.specs.List.{flat_map}
use Rattle.std.proofs.lemmas.List.{get_or-map, get_or_default, length-map, take_all}
use Rattle.std.proofs.lemmas.Option.{get_or_from_slice_get}
use Rattle.prof_bytes.proofs.Appending.{append_more}
use Rattle.dwarf_inline.specs.declared.subroutine.Subroutine.{Subroutine}
use Rattle.dwarf_inline.specs.Structure.{ProgramStructure}
use Rattle.scope_find.specs.Found.{Numbered, ProgramScopes}
use Rattle.scope_find.specs.Laws.{item_descendants}
use Rattle.scope_find.specs.private.Spans.{no_item}
use Rattle.struct_listing.specs.Listing.{inline_line, inline_lines, inlined_level, is_listed_inline}
use Rattle.struct_listing.specs.declared.listed.ListedInline.{ListedInline}
use Rattle.struct_listing.specs.private.Opened.{AreOpenAt, listed_of, open_at}
use Rattle.struct_listing.specs.private.Parts.{line_below}
use Rattle.struct_listing.proofs.Below.{IsThereBehind, listed_descendant}
use Rattle.struct_listing.proofs.Opened.{depth_is}

module _ (s : ProgramStructure) (subprogram : ℕ) (item : Subroutine) where
  abbrev pub listed_items : List Numbered
  listed_items = filter is_listed_inline (item_descendants s (subprogram, item))

  -- what is known of the one with an index
  pub record IsListedAt (index : ℕ) (l : ListedInline) : Type 0 where
    pub within : index < length listed_items
    pub callee : Subroutine
    pub there : slice_get s.items l.number ≡ Some callee
    pub behind : subprogram < l.number
    pub deep : l.depth ≡ open_at s l.number
    pub at : (l.number, callee) ≡ get_or listed_items index (l.number, callee)

  listed_at : (below : List ListedInline) (index : ℕ) (l : ListedInline) → below ≡ map (listed_of s) listed_items → index < length below → get_or below index l ≡ l → IsListedAt index l
  listed_at below index l are lt is =
      let d : Numbered = (0, no_item) in
      let j : Numbered = get_or listed_items index d in
      let long = ap (λ (ls : List ListedInline). length ls) are ∙ length-map listed_items (listed_of s) in
      let within : index < length listed_items = omega arith in
      let same : l ≡ listed_of s j = sym is ∙ ap (λ (ls : List ListedInline). get_or ls index l) are ∙ get_or-map (listed_of s) listed_items index d l within in
      let number : l.number ≡ j.0 = ap (λ (m : ListedInline). m.number) same in
      let known : IsThereBehind s subprogram j = listed_descendant s subprogram item index d within in
      record {
        within = within;
        callee = j.1;
        there = ap (slice_get s.items) number ∙ known.there;
        behind = omega (arith, known.behind);
        deep = ap (λ (m : ListedInline). m.depth) same ∙ ap (open_at s) (sym number);
        at = (λ i. (number i, j.1)) ∙ get_or_default listed_items index d (l.number, j.1) within;
      }

  pub one_listed : (below : List ListedInline) (index : ℕ) (d : ListedInline) → below ≡ map (listed_of s) listed_items → index < length below → IsListedAt index (get_or below index d)
  one_listed below index d are lt = listed_at below index (get_or below index d) are lt (get_or_default below index (get_or below index d) d lt)

  pub level_of : (index : ℕ) (l : ListedInline) (ends : List ℕ) → IsListedAt index l → AreOpenAt s subprogram ends → l.depth ≡ count_by (λ end. nat_lt l.number end) ends + inlined_level s subprogram l.number
  level_of index l ends known are = depth_is s subprogram l.number l.depth ends known.behind are known.deep

pub line_more : (p : ProgramScopes) (subprogram : ℕ) (item : Subroutine) (index level : ℕ) (l : ListedInline) (callee : Subroutine) (start now after : List ℕ)
    → IsListedAt p.structure subprogram item index l → slice_get p.structure.items l.number ≡ Some callee → level ≡ inlined_level p.structure subprogram l.number
    → now ≡ start ++ flat_map (line_below p subprogram) (take index (listed_items p.structure subprogram item)) → after ≡ now ++ inline_line p level callee
    → after ≡ start ++ flat_map (line_below p subprogram) (take (index + 1) (listed_items p.structure subprogram item))
line_more p subprogram item index level l callee start now after known there is so_far one =
    let own : known.callee ≡ callee =
    sym (get_or_from_slice_get p.structure.items l.number known.callee callee known.there) ∙ get_or_from_slice_get p.structure.items l.number callee callee there in
    let at : (l.number, callee) ≡ get_or (listed_items p.structure subprogram item) index (l.number, callee) =
    (λ i. (l.number, sym own i)) ∙ known.at ∙ (λ i. get_or (listed_items p.structure subprogram item) index (l.number, own i)) in
    append_more (line_below p subprogram) start now after (listed_items p.structure subprogram item) index (l.number, callee) known.within at so_far
    (one ∙ (λ i. now ++ inline_line p (is i) callee))

pub all_lines : (p : ProgramScopes) (subprogram : ℕ) (item : Subroutine) (below : List ListedInline) (index : ℕ) → below ≡ map (listed_of p.structure) (listed_items p.structure subprogram item) → length below ≤ index
    → flat_map (line_below p subprogram) (take index (listed_items p.structure subprogram item)) ≡ inline_lines p (subprogram, item)
all_lines p subprogram item below index are le =
    let long = ap (λ (ls : List ListedInline). length ls) are ∙ length-map (listed_items p.structure subprogram item) (listed_of p.structure) in
    ap (flat_map (line_below p subprogram)) (take_all index (listed_items p.structure subprogram item) (omega arith))
