-- The listed inlined subroutines that are descendants of an item: those between two places of all that are listed.
use Rattle.std.proofs.Common.{◌≡◌, ℕ, zero, suc, ◌+◌, ◌-◌, ◌<◌, ◌≤◌, Bool, true, false, cond, leb, ltb, List, [], ◌∷◌, ◌++◌, length, take, drop, get_or, map, Some, refl, sym, ap, ◌∙◌, subst, arith, true≢false}
use Rattle.std.specs.Prelude.{All, count_by, filter, nat_lt, slice_get}
use Rattle.std.specs.List.Sorted.{IsNonDecreasingBy, IsPartitionPoint}
use Rattle.std.proofs.Math.Seq.{drop-append_seam, take-append_seam}
use Rattle.std.proofs.lemmas.Bool.{le-leb, lt-leb, le-ltb, lt-ltb}
use Rattle.std.proofs.lemmas.List.{get_or-drop, get_or-map, get_or-take, length-drop, length-map, length-take, map-append, take-append-drop, take_all, take_more}
use Rattle.std.proofs.lemmas.List.Elements.{All-filter, filter-append}
use Rattle.std.proofs.lemmas.List.FromFn.{get_or-enumerate_from, length-enumerate_from}
use Rattle.std.proofs.lemmas.List.Kept.{IsNonDecreasingBy-filter}
use Rattle.std.proofs.lemmas.Option.{slice_get-get_or}
use Rattle.dwarf_inline.specs.declared.subroutine.Subroutine.{Subroutine}
use Rattle.dwarf_inline.specs.Structure.{ProgramStructure}
use Rattle.scope_find.specs.Found.{Numbered, numbered}
use Rattle.scope_find.specs.Laws.{item_descendants}
use Rattle.scope_find.specs.private.Spans.{no_item}
use Rattle.struct_listing.specs.Listing.{is_listed_inline}
use Rattle.struct_listing.specs.declared.listed.ListedInline.{ListedInline}
use Rattle.struct_listing.specs.private.Opened.{AreOpenAt, listed_inlines, listed_of, listed_part, open_at}
use Rattle.struct_listing.proofs.Lists.{numbered_at, numbered_within}

-- ---- a list in two parts

parted : {X : Type 0} (p : X → Bool) (front back : List X) (n : ℕ) → All (λ x. p x ≡ true) front → All (λ x. p x ≡ false) back → n ≤ length (front ++ back)
    → IsPartitionPoint (λ x. p x ≡ true) (λ x. p x ≡ false) (front ++ back) n → n ≡ length front
parted p [] back zero pass fail le point = refl
parted p [] [] (suc n) pass fail le point = absurd (omega arith)
parted p [] (y ∷ ys) (suc n) pass fail le point = absurd (true≢false (sym (point.0 0 y (omega arith) (omega arith)) ∙ fail 0 y (omega arith)))
parted p (x ∷ front) back zero pass fail le point = absurd (true≢false (sym (pass 0 x (omega arith)) ∙ point.1 0 x (omega arith) (omega arith)))
parted p (x ∷ front) back (suc n) pass fail le point =
    ap suc (parted p front back n (λ k d lt. pass (suc k) d (omega arith)) fail (omega arith)
    (λ k d low high. point.0 (suc k) d (omega arith) (omega arith), λ k d low high. point.1 (suc k) d (omega arith) (omega arith)))

all_mapped : {X Y : Type 0} (f : X → Y) (P : Y → Type 0) (xs : List X) → All (λ x. P (f x)) xs → All P (map f xs)
all_mapped f P [] all k d lt = absurd (omega arith)
all_mapped f P (x ∷ xs) all zero d lt = all 0 x (omega arith)
all_mapped f P (x ∷ xs) all (suc k) d lt = all_mapped f P xs (λ i e l. all (suc i) e (omega arith)) k d (omega arith)

-- ---- items beside their numbers

module _ (s : ProgramStructure) where
  abbrev every : List Numbered
  every = numbered s

  every_at : (k : ℕ) (d : Numbered) → k < length every → get_or every k d ≡ (k, get_or s.items k d.1)
  every_at k d lt =
      let e : 0 + k ≡ k = omega arith in
      let within : k < length s.items = omega (arith, length-enumerate_from 0 s.items) in
      get_or-enumerate_from 0 s.items k d within ∙ (λ i. (e i, get_or s.items k d.1))

  every_number : (k : ℕ) (d : Numbered) → k < length every → (get_or every k d).0 ≡ k
  every_number k d lt = ap (λ (j : Numbered). j.0) (every_at k d lt)

  -- the item with its number is there, behind another number
  pub record IsThereBehind (number : ℕ) (j : Numbered) : Type 0 where
    pub there : slice_get s.items j.0 ≡ Some j.1
    pub behind : number < j.0

  every_rises : IsNonDecreasingBy (λ (j : Numbered). j.0) every
  every_rises i j d le lt =
      let here = every_number i d (omega arith) in
      let there = every_number j d lt in
      omega arith

  -- ---- before an item, below it, and after that

  module _ (number : ℕ) (item : Subroutine) where
    abbrev before : List Numbered
    before = take (number + 1) every

    abbrev behind : List Numbered
    behind = drop (number + 1) every

    abbrev after : List Numbered
    after = drop (item.next_after_subtree - (number + 1)) behind

    before_low : All (λ (j : Numbered). leb j.0 number ≡ true) before
    before_low k d lt =
        let long = length-take (number + 1) every in
        let at : get_or before k d ≡ get_or every k d = get_or-take (number + 1) every k d (omega arith) in
        let is = ap (λ (j : Numbered). j.0) at ∙ every_number k d (omega arith) in
        le-leb (get_or before k d).0 number (omega arith)

    behind_number : (k : ℕ) (d : Numbered) → k < length behind → (get_or behind k d).0 ≡ number + 1 + k
    behind_number k d lt =
        let long = length-drop (number + 1) every in
        ap (λ (j : Numbered). j.0) (get_or-drop (number + 1) every k d) ∙ every_number (number + 1 + k) d (omega arith)

    behind_high : All (λ (j : Numbered). leb j.0 number ≡ false) behind
    behind_high k d lt = let is = behind_number k d lt in lt-leb (get_or behind k d).0 number (omega arith)

    below_low : All (λ (j : Numbered). ltb j.0 item.next_after_subtree ≡ true) (item_descendants s (number, item))
    below_low k d lt =
        let long = length-take (item.next_after_subtree - (number + 1)) behind in
        let at = ap (λ (j : Numbered). j.0) (get_or-take (item.next_after_subtree - (number + 1)) behind k d (omega arith)) in
        let is = behind_number k d (omega arith) in
        lt-ltb (get_or (item_descendants s (number, item)) k d).0 item.next_after_subtree (omega arith)

    after_high : All (λ (j : Numbered). ltb j.0 item.next_after_subtree ≡ false) after
    after_high k d lt =
        let long = length-drop (item.next_after_subtree - (number + 1)) behind in
        let at = ap (λ (j : Numbered). j.0) (get_or-drop (item.next_after_subtree - (number + 1)) behind k d) in
        let is = behind_number (item.next_after_subtree - (number + 1) + k) d (omega arith) in
        le-ltb (get_or after k d).0 item.next_after_subtree (omega arith)

    descendant : All (IsThereBehind number) (item_descendants s (number, item))
    descendant k d lt =
        let count = item.next_after_subtree - (number + 1) in
        let long = length-take count behind in
        let more = length-drop (number + 1) every in
        let at : get_or (item_descendants s (number, item)) k d ≡ (number + 1 + k, get_or s.items (number + 1 + k) d.1) =
        get_or-take count behind k d (omega arith) ∙ get_or-drop (number + 1) every k d ∙ every_at (number + 1 + k) d (omega arith) in
        let within : number + 1 + k < length s.items = omega (arith, length-enumerate_from 0 s.items) in
        subst (IsThereBehind number) (sym at) (record {
          there = slice_get-get_or s.items (number + 1 + k) d.1 within;
          behind = omega arith;
        })

    pub listed_descendant : All (IsThereBehind number) (filter is_listed_inline (item_descendants s (number, item)))
    listed_descendant = All-filter is_listed_inline (IsThereBehind number) (item_descendants s (number, item)) descendant

    -- ---- of those that are listed

    abbrev pub listed : List Numbered → List ListedInline
    listed js = map (listed_of s) (filter is_listed_inline js)

    abbrev pub below_and_after : List ListedInline
    below_and_after = listed (item_descendants s (number, item)) ++ listed after

    behind_parts : listed behind ≡ below_and_after
    behind_parts =
        ap listed (sym (take-append-drop (item.next_after_subtree - (number + 1)) behind))
        ∙ ap (map (listed_of s)) (filter-append is_listed_inline (item_descendants s (number, item)) after)
        ∙ map-append (listed_of s) (filter is_listed_inline (item_descendants s (number, item))) (filter is_listed_inline after)

    parts : listed_inlines s ≡ listed before ++ listed behind
    parts =
        ap listed (sym (take-append-drop (number + 1) every))
        ∙ ap (map (listed_of s)) (filter-append is_listed_inline before behind)
        ∙ map-append (listed_of s) (filter is_listed_inline before) (filter is_listed_inline behind)

    tested : (q : ℕ → Bool) (b : Bool) (js : List Numbered) → All (λ (j : Numbered). q j.0 ≡ b) js → All (λ (l : ListedInline). q l.number ≡ b) (listed js)
    tested q b js all = all_mapped (listed_of s) (λ (l : ListedInline). q l.number ≡ b) (filter is_listed_inline js) (All-filter is_listed_inline (λ (j : Numbered). q j.0 ≡ b) js all)

    start_is : (start : ℕ) → start ≤ length (listed_inlines s)
        → IsPartitionPoint (λ (l : ListedInline). leb l.number number ≡ true) (λ l. leb l.number number ≡ false) (listed_inlines s) start → start ≡ length (listed before)
    start_is start le point =
        parted (λ (l : ListedInline). leb l.number number) (listed before) (listed behind) start
        (tested (λ n. leb n number) true before before_low) (tested (λ n. leb n number) false behind behind_high)
        (subst (λ (ls : List ListedInline). start ≤ length ls) parts le)
        (subst (λ (ls : List ListedInline). IsPartitionPoint (λ (l : ListedInline). leb l.number number ≡ true) (λ l. leb l.number number ≡ false) ls start) parts point)

    rest_is : (start : ℕ) → start ≤ length (listed_inlines s)
        → IsPartitionPoint (λ (l : ListedInline). leb l.number number ≡ true) (λ l. leb l.number number ≡ false) (listed_inlines s) start → drop start (listed_inlines s) ≡ below_and_after
    rest_is start le point =
        ap (λ (n : ℕ). drop n (listed_inlines s)) (start_is start le point) ∙ ap (drop (length (listed before))) parts
        ∙ drop-append_seam (listed before) (listed behind) ∙ behind_parts

    below_is : (count : ℕ) → count ≤ length below_and_after
        → IsPartitionPoint (λ (l : ListedInline). ltb l.number item.next_after_subtree ≡ true) (λ l. ltb l.number item.next_after_subtree ≡ false) below_and_after count
        → take count below_and_after ≡ listed (item_descendants s (number, item))
    below_is count le point =
        ap (λ (n : ℕ). take n below_and_after)
        (parted (λ (l : ListedInline). ltb l.number item.next_after_subtree) (listed (item_descendants s (number, item))) (listed after) count
        (tested (λ n. ltb n item.next_after_subtree) true (item_descendants s (number, item)) below_low) (tested (λ n. ltb n item.next_after_subtree) false after after_high) le point)
        ∙ take-append_seam (listed (item_descendants s (number, item))) (listed after)

    -- the same of lists that are equal to these

    pub rest_of : (all : List ListedInline) (start : ℕ) → all ≡ listed_inlines s → start ≤ length all
        → IsPartitionPoint (λ (l : ListedInline). leb l.number number ≡ true) (λ l. leb l.number number ≡ false) all start → drop start all ≡ below_and_after
    rest_of all start is le point =
        ap (λ (ls : List ListedInline). drop start ls) is
        ∙ rest_is start (subst (λ (ls : List ListedInline). start ≤ length ls) is le)
        (subst (λ (ls : List ListedInline). IsPartitionPoint (λ (l : ListedInline). leb l.number number ≡ true) (λ l. leb l.number number ≡ false) ls start) is point)

    pub taken : (rest : List ListedInline) (count : ℕ) → rest ≡ below_and_after → count ≤ length rest
        → IsPartitionPoint (λ (l : ListedInline). ltb l.number item.next_after_subtree ≡ true) (λ l. ltb l.number item.next_after_subtree ≡ false) rest count
        → take count rest ≡ listed (item_descendants s (number, item))
    taken rest count is le point =
        ap (λ (ls : List ListedInline). take count ls) is
        ∙ below_is count (subst (λ (ls : List ListedInline). count ≤ length ls) is le)
        (subst (λ (ls : List ListedInline). IsPartitionPoint (λ (l : ListedInline). ltb l.number item.next_after_subtree ≡ true) (λ l. ltb l.number item.next_after_subtree ≡ false) ls count) is point)

  pub listed_rise : IsNonDecreasingBy (λ (l : ListedInline). l.number) (listed_inlines s)
  listed_rise i j d le lt =
      let js : List Numbered = filter is_listed_inline every in
      let long = length-map js (listed_of s) in
      let e : Numbered = (0, no_item) in
      let here = ap (λ (l : ListedInline). l.number) (get_or-map (listed_of s) js i e d (omega arith)) in
      let there = ap (λ (l : ListedInline). l.number) (get_or-map (listed_of s) js j e d (omega arith)) in
      let rise = IsNonDecreasingBy-filter (λ (j : Numbered). j.0) is_listed_inline every every_rises i j e le (omega arith) in
      omega arith

-- ---- all that are listed, an item at a time

part_is : (s : ProgramStructure) (depth number : ℕ) (item : Subroutine) → depth ≡ open_at s number
    → listed_part depth (number, item) ≡ map (listed_of s) (filter is_listed_inline ((number, item) ∷ []))
part_is s depth number item is =
    elim (is_listed_inline (number, item)) as (λ b. cond b (one depth ∷ []) [] ≡ map (listed_of s) (cond b ((number, item) ∷ []) [])) [
      | true ↦ (λ i. one (is i) ∷ [])
      | false ↦ refl
    ]
  where
    one : ℕ → ListedInline
    one depth = record { number = number; depth = depth }

pub listed_more : (s : ProgramStructure) (number : ℕ) (item : Subroutine) (ends : List ℕ) (now after : List ListedInline) → slice_get s.items number ≡ Some item → AreOpenAt s number ends
    → now ≡ map (listed_of s) (filter is_listed_inline (take number (numbered s))) → after ≡ now ++ listed_part (count_by (λ end. nat_lt number end) ends) (number, item)
    → after ≡ map (listed_of s) (filter is_listed_inline (take (number + 1) (numbered s)))
listed_more s number item ends now after there are so_far one =
    let d : Numbered = (number, item) in
    let front : List Numbered = take number (numbered s) in
    one ∙ ap (λ (l : List ListedInline). l ++ listed_part (count_by (λ end. nat_lt number end) ends) d) so_far
    ∙ ap (λ (l : List ListedInline). map (listed_of s) (filter is_listed_inline front) ++ l) (part_is s (count_by (λ end. nat_lt number end) ends) number item (are number (omega arith)))
    ∙ sym (ap (λ (js : List Numbered). map (listed_of s) (filter is_listed_inline js))
    (take_more (numbered s) number d (numbered_within s number item there) ∙ ap (λ (j : Numbered). front ++ j ∷ []) (numbered_at s number item d there))
    ∙ ap (map (listed_of s)) (filter-append is_listed_inline front (d ∷ []))
    ∙ map-append (listed_of s) (filter is_listed_inline front) (filter is_listed_inline (d ∷ [])))

pub all_listed : (s : ProgramStructure) (number : ℕ) → length s.items ≤ number → map (listed_of s) (filter is_listed_inline (take number (numbered s))) ≡ listed_inlines s
all_listed s number le =
    ap (λ (js : List Numbered). map (listed_of s) (filter is_listed_inline js)) (take_all number (numbered s) (omega (arith, length-enumerate_from 0 s.items)))
