-- The ranges of subprograms, and which of them holds an address.
use Rattle.std.proofs.Common.{◌≡◌, ℕ, ◌+◌, ◌<◌, ◌≤◌, Bool, true, false, cond, List, [], ◌∷◌, ◌++◌, length, take, get_or, map, Some, refl, sym, ap, ◌∙◌, append-nil}
use Rattle.std.specs.Prelude.{find, is_some, not, slice_get, ◌&&◌, ◌||◌}
use Rattle.std.specs.List.{enumerate_from, flat_map, list_any}
use Rattle.std.proofs.lemmas.List.{take_more, take_all}
use Rattle.std.proofs.lemmas.List.Concat.{flat_map-append}
use Rattle.std.proofs.lemmas.Option.{slice_get_within, get_or_from_slice_get}
use Rattle.address_ranges.specs.Ranges.{holds}
use Rattle.dwarf_inline.specs.declared.subroutine.Subroutine.{Subroutine}
use Rattle.dwarf_inline.specs.Structure.{ProgramStructure}
use Rattle.scope_find.specs.Found.{Numbered, item_holds, item_ranges, range_holds, subprogram_at}
use Rattle.struct_listing.specs.declared.symbols.CodeRange.{CodeRange}
use Rattle.struct_listing.specs.private.Holders.{code_range, code_range_of, item_part, subprogram_ranges}

-- ---- the ranges of items, one more at a time

pub item_added : (s : ProgramStructure) (number : ℕ) (item : Subroutine) (now after : List CodeRange) → slice_get s.items number ≡ Some item
    → now ≡ flat_map (item_part s) (take number s.items) → after ≡ now ++ item_part s item → after ≡ flat_map (item_part s) (take (number + 1) s.items)
item_added s number item now after there so_far one =
    let lt : number < length s.items = slice_get_within s.items number item there in
    let is : get_or s.items number item ≡ item = get_or_from_slice_get s.items number item item there in
    one ∙ ap (λ (l : List CodeRange). l ++ item_part s item) so_far
    ∙ sym (ap (flat_map (item_part s)) (take_more s.items number item lt ∙ ap (λ (x : Subroutine). take number s.items ++ x ∷ []) is)
    ∙ flat_map-append (item_part s) (take number s.items) (item ∷ [])
    ∙ ap (λ (l : List CodeRange). flat_map (item_part s) (take number s.items) ++ l) (append-nil (item_part s item)))

pub all_added : (s : ProgramStructure) (number : ℕ) → length s.items ≤ number → flat_map (item_part s) (take number s.items) ≡ subprogram_ranges s
all_added s number le = ap (flat_map (item_part s)) (take_all number s.items le)

-- ---- which holds an address

some_append : {X : Type 0} (p : X → Bool) (xs ys : List X) → is_some (find p (xs ++ ys)) ≡ (is_some (find p xs) || is_some (find p ys))
some_append p [] ys = refl
some_append p (x ∷ xs) ys =
    elim (p x) as (λ b. is_some (cond b (Some x) (find p (xs ++ ys))) ≡ (is_some (cond b (Some x) (find p xs)) || is_some (find p ys))) [
      | true ↦ refl
      | false ↦ some_append p xs ys
    ]

some_find : {X : Type 0} (p : X → Bool) (x : X) (xs : List X) → is_some (find p (x ∷ xs)) ≡ (p x || is_some (find p xs))
some_find p x xs = elim (p x) as (λ b. is_some (cond b (Some x) (find p xs)) ≡ (b || is_some (find p xs))) [ true ↦ refl | false ↦ refl ]

module _ (s : ProgramStructure) (address : ℕ) where
  abbrev in_range : CodeRange → Bool
  in_range r = holds address (code_range_of r)

  in_ranges : (rs : List (ℕ × ℕ)) → is_some (find in_range (map code_range rs)) ≡ list_any (range_holds address) rs
  in_ranges [] = refl
  in_ranges (r ∷ rs) = some_find in_range (code_range r) (map code_range rs) ∙ ap (λ (b : Bool). range_holds address r || b) (in_ranges rs)

  in_item : (item : Subroutine) → is_some (find in_range (item_part s item)) ≡ (not item.inlined && item_holds s address item)
  in_item item =
      elim item.inlined as (λ b. is_some (find in_range (cond b [] (map code_range (item_ranges s item)))) ≡ (not b && item_holds s address item)) [
        | true ↦ refl
        | false ↦ in_ranges (item_ranges s item)
      ]

  in_items : (number : ℕ) (items : List Subroutine)
      → is_some (find in_range (flat_map (item_part s) items)) ≡ is_some (find (λ i. not i.1.inlined && item_holds s address i.1) (enumerate_from number items))
  in_items number [] = refl
  in_items number (item ∷ items) =
      some_append in_range (item_part s item) (flat_map (item_part s) items)
      ∙ (λ i. in_item item i || in_items (number + 1) items i)
      ∙ sym (some_find (λ (j : Numbered). not j.1.inlined && item_holds s address j.1) (number, item) (enumerate_from (number + 1) items))

pub held_is : (s : ProgramStructure) (address : ℕ) (ranges : List CodeRange) → ranges ≡ subprogram_ranges s
    → is_some (find (λ r. holds address (code_range_of r)) ranges) ≡ is_some (subprogram_at s address)
held_is s address ranges are = ap (λ (rs : List CodeRange). is_some (find (λ r. holds address (code_range_of r)) rs)) are ∙ in_items s address 0 s.items
