-- The names of the items' identities, in the order of their offsets.
use Rattle.std.proofs.Common.{◌≡◌, ◌≢◌, ◌⊎◌, ◌==◌, ℕ, zero, suc, ◌<◌, ◌≤◌, Bool, true, false, ltb, List, [], ◌∷◌, length, take, map, get_or, Option, Some, None, inl, inr, refl, sym, ap, ◌∙◌, subst, arith}
use Rattle.std.specs.Prelude.{AllPairs, IfSome, find, slice_get, option_map, option_to_list, unwrap_or}
use Rattle.std.specs.List.{Contains, flat_map, position_or_len}
use Rattle.std.specs.List.Sorted.{IsPermutation, IsNonDecreasingBy, IsPartitionPoint}
use Rattle.std.specs.Option.{option_map_or}
use Rattle.std.proofs.Math.ListN.{get_or-map}
use Rattle.std.proofs.lemmas.List.{length-map}
use Rattle.std.proofs.lemmas.List.Elements.{Contains-append_left, Contains-append_right, Contains-append_cases, Contains-get_or}
use Rattle.std.proofs.lemmas.List.Folds.{find_at}
use Rattle.std.proofs.lemmas.List.Sums.{passes_at_first, position_or_len_is}
use Rattle.std.proofs.lemmas.List.Sorted.{Contains-permutation, IsPermutation-map, IsPermutation-sym}
use Rattle.std.proofs.lemmas.Bool.{cases_lt, eqb-true, eq-eqb, ne_eqb, ltb-true, ltb-false}
use Rattle.std.proofs.lemmas.Option.{slice_get-get_or, slice_get_past, slice_get_within, get_or_from_slice_get}
use Rattle.elf_image.proofs.Checked.{find_none}
use Rattle.scope_types.specs.Limits.{most_name_bytes}
use Rattle.dwarf_info.specs.declared.entry.InfoEntry.{InfoEntry}
use Rattle.dwarf_info.specs.Units.{DebugInfo}
use Rattle.dwarf_info.specs.Queries.{name_of, link_of}
use Rattle.dwarf_info.specs.Subroutines.{Indexed, item_entries}
use Rattle.dwarf_info.proofs.Bounds.{link_bound}
use Rattle.dwarf_inline.specs.declared.identities.ProcName.{ProcName}
use Rattle.dwarf_inline.specs.Links.{linked, identity, identity_offset, entry_offset, entry_name, unnamed}
use Rattle.dwarf_inline.specs.private.Names.{Pair, pair_of, named_item, name_by}
use Rattle.dwarf_inline.proofs.Items.{item_within}
use Rattle.dwarf_inline.proofs.KeptEntries.{nothing}

-- ---- identities

link_within : (info : DebugInfo) (n i : ℕ) (o : Option ℕ) → ((j : ℕ) → j < length info.entries → linked info n j < length info.entries)
    → i < length info.entries → IfSome o (λ j. j < length info.entries) → option_map_or (linked info n) o i < length info.entries
link_within info n i None on lt in_range = lt
link_within info n i (Some j) on lt in_range = on j in_range

linked_within : (info : DebugInfo) (n i : ℕ) → i < length info.entries → linked info n i < length info.entries
unfolding linked
linked_within info zero i lt = lt
linked_within info (suc n) i lt = link_within info n i (link_of info i) (linked_within info n) lt (link_bound info i)

identity_within : (info : DebugInfo) (i : ℕ) → i < length info.entries → identity info i < length info.entries
identity_within info i lt = linked_within info 8 i lt

offset_is : (info : DebugInfo) (i : ℕ) (d : InfoEntry) → i < length info.entries → entry_offset info i ≡ (get_or info.entries i d).offset
offset_is info i d lt = ap (λ (o : Option InfoEntry). option_map_or (λ e. e.offset) o 0) (slice_get-get_or info.entries i d lt)

abbrev pub Ascend : DebugInfo → Type 0
Ascend info = AllPairs (λ e f. e.offset < f.offset) info.entries

-- no two entries have one offset
same_entry : (info : DebugInfo) (i j : ℕ) → Ascend info → i < length info.entries → j < length info.entries → entry_offset info i ≡ entry_offset info j → i ≡ j
same_entry info i j up here there same =
    let d : InfoEntry = nothing.1 in
    let a : entry_offset info i ≡ (get_or info.entries i d).offset = offset_is info i d here in
    let b : entry_offset info j ≡ (get_or info.entries j d).offset = offset_is info j d there in
    elim (cases_lt i j) [
      | inl less ↦ let l : (get_or info.entries i d).offset < (get_or info.entries j d).offset = up i j d less there in absurd (omega arith)
      | inr ge ↦ elim (cases_lt j i) [
        | inl less ↦ let l : (get_or info.entries j d).offset < (get_or info.entries i d).offset = up j i d less here in absurd (omega arith)
        | inr le ↦ omega arith
      ]
    ]

-- ---- whose name each is

-- the name of the identity of an item
pub record IsNamed (info : DebugInfo) (p : Pair) : Type 0 where
  pub number : ℕ
  pub within : number < length (item_entries info)
  pub name : List ℕ
  pub is : name_of info (identity info (get_or (item_entries info) number nothing).0) ≡ Some name
  pub offset : p.0 ≡ identity_offset info (get_or (item_entries info) number nothing).0
  pub cut : p.1 ≡ take most_name_bytes name

flat_at : {X Y : Type 0} (f : X → List Y) (xs : List X) (d : X) (y : Y) → Contains (flat_map f xs) y → (k : ℕ) × (k < length xs) × Contains (f (get_or xs k d)) y
flat_at f [] d y has = absurd (omega (arith, has.1))
flat_at f (x ∷ xs) d y has =
    elim (Contains-append_cases (f x) (flat_map f xs) y has) [
      | inl here ↦ (0, omega arith, here)
      | inr there ↦ let l = flat_at f xs d y there in (suc l.0, omega (arith, l.1), l.2)
    ]

in_flat_at : {X Y : Type 0} (f : X → List Y) (xs : List X) (k : ℕ) (d : X) (y : Y) → k < length xs → Contains (f (get_or xs k d)) y → Contains (flat_map f xs) y
in_flat_at f [] k d y lt has = absurd (omega arith)
in_flat_at f (x ∷ xs) zero d y lt has = Contains-append_left (f x) (flat_map f xs) y has
in_flat_at f (x ∷ xs) (suc k) d y lt has = Contains-append_right (f x) (flat_map f xs) y (in_flat_at f xs k d y (omega arith) has)

abbrev cut_pair : ℕ → List ℕ → Pair
cut_pair offset name = (offset, take most_name_bytes name)

the_only : (x p : Pair) (k : ℕ) → k < 1 → get_or (x ∷ []) k p ≡ p → x ≡ p
the_only x p zero lt is = is
the_only x p (suc k) lt is = absurd (omega arith)

in_named : (o : Option (List ℕ)) (offset : ℕ) (p : Pair) → Contains (option_to_list (option_map (cut_pair offset) o)) p
    → (name : List ℕ) × (o ≡ Some name) × (cut_pair offset name ≡ p)
in_named None offset p has = absurd (omega (arith, has.1))
in_named (Some name) offset p has = (name, refl, the_only (cut_pair offset name) p has.0 has.1 has.2)

pub each_named : (info : DebugInfo) (old names : List ProcName) → map pair_of old ≡ flat_map (named_item info) (item_entries info) → IsPermutation old names
    → (p : Pair) → Contains (map pair_of names) p → IsNamed info p
each_named info old names same moved p has =
    let back : Contains (map pair_of old) p =
    Contains-permutation (map pair_of names) (map pair_of old) p (IsPermutation-sym _ _ (IsPermutation-map pair_of old names moved)) has in
    let k = flat_at (named_item info) (item_entries info) nothing p (subst (λ (ps : List Pair). Contains ps p) same back) in
    let e : Indexed = get_or (item_entries info) k.0 nothing in
    let n = in_named (name_of info (identity info e.0)) (identity_offset info e.0) p k.2 in
    record {
      number = k.0;
      within = k.1;
      name = n.0;
      is = n.1;
      offset = ap (λ (q : Pair). q.0) (sym n.2);
      cut = ap (λ (q : Pair). q.1) (sym n.2);
    }

each_there : (info : DebugInfo) (old names : List ProcName) → map pair_of old ≡ flat_map (named_item info) (item_entries info) → IsPermutation old names
    → (k : ℕ) (name : List ℕ) → k < length (item_entries info) → name_of info (identity info (get_or (item_entries info) k nothing).0) ≡ Some name
    → Contains (map pair_of names) (identity_offset info (get_or (item_entries info) k nothing).0, take most_name_bytes name)
each_there info old names same moved k name lt is =
    let offset : ℕ = identity_offset info (get_or (item_entries info) k nothing).0 in
    let p : Pair = cut_pair offset name in
    let here : Contains (named_item info (get_or (item_entries info) k nothing)) p =
    subst (λ (o : Option (List ℕ)). Contains (option_to_list (option_map (cut_pair offset) o)) p) (sym is) (zero, omega arith, refl) in
    Contains-permutation (map pair_of old) (map pair_of names) p (IsPermutation-map pair_of old names moved)
    (subst (λ (ps : List Pair). Contains ps p) (sym same) (in_flat_at (named_item info) (item_entries info) k nothing p lt here))

-- ---- the name of an identity

abbrev pub test : ℕ → Pair → Bool
test offset p = p.0 == offset

abbrev pub Looked : List Pair → ℕ → Type 0
Looked pairs offset =
    ((p : Pair) × (Contains pairs p) × (p.0 ≡ offset) × (name_by pairs offset ≡ p.1))
    ⊎ ((name_by pairs offset ≡ unnamed) × ((p : Pair) → Contains pairs p → p.0 ≡ offset → ⊥))

read_by : Option Pair → List ℕ
read_by o = option_map_or (λ p. p.1) o unnamed

pub looked : (pairs : List Pair) (offset : ℕ) → Looked pairs offset
unfolding read_by
looked pairs offset =
    let at : ℕ = position_or_len (test offset) pairs in
    elim (cases_lt at (length pairs)) [
      | inl lt ↦
          let found : Pair = get_or pairs at (0, []) in
          inl (
            found,
            Contains-get_or pairs at (0, []) lt,
            eqb-true _ _ (passes_at_first (test offset) pairs (0, []) lt),
            ap read_by (find_at (test offset) pairs ∙ slice_get-get_or pairs at (0, []) lt),
          )
      | inr ge ↦
          let none : find (test offset) pairs ≡ None = find_at (test offset) pairs ∙ slice_get_past pairs at ge in
          inr (
            ap read_by none,
            λ p has same.
                let no : test offset p ≡ false = ap (test offset) (sym has.2) ∙ find_none (test offset) pairs none has.0 p has.1 in
                let yes : test offset p ≡ true = eq-eqb p.0 offset same in
                let e : false ≡ true = sym no ∙ yes in
                absurd cc,
          )
    ]

no_name : (o : Option (List ℕ)) → ((name : List ℕ) → o ≡ Some name → ⊥) → unnamed ≡ take most_name_bytes (unwrap_or o unnamed)
no_name None none = refl
no_name (Some name) none = absurd (none name refl)

pub name_is : (info : DebugInfo) (old names : List ProcName) → map pair_of old ≡ flat_map (named_item info) (item_entries info) → IsPermutation old names → Ascend info
    → (k : ℕ) → k < length (item_entries info)
    → name_by (map pair_of names) (identity_offset info (get_or (item_entries info) k nothing).0) ≡ entry_name info (get_or (item_entries info) k nothing).0
name_is info old names same moved up k lt =
    let i : ℕ = (get_or (item_entries info) k nothing).0 in
    elim (looked (map pair_of names) (identity_offset info i)) [
      | inl f ↦
          let n : IsNamed info f.0 = each_named info old names same moved f.0 f.1 in
          let j : ℕ = (get_or (item_entries info) n.number nothing).0 in
          let one : identity info j ≡ identity info i =
          same_entry info (identity info j) (identity info i) up (identity_within info j (item_within info (item_entries info) n.number nothing refl n.within))
          (identity_within info i (item_within info (item_entries info) k nothing refl lt)) (sym n.offset ∙ f.2) in
          f.3 ∙ n.cut ∙ ap (λ (o : Option (List ℕ)). take most_name_bytes (unwrap_or o unnamed)) (sym n.is)
          ∙ ap (λ (m : ℕ). take most_name_bytes (unwrap_or (name_of info m) unnamed)) one
      | inr g ↦
          g.0 ∙ no_name (name_of info (identity info i)) (λ name is. g.1 _ (each_there info old names same moved k name lt is) refl)
    ]

-- ---- found by a binary search

abbrev Point : List ProcName → ℕ → ℕ → Type 0
Point names offset n = IsPartitionPoint (λ (s : ProcName). ltb s.identity offset ≡ true) (λ s. ltb s.identity offset ≡ false) names n

found_at : (pairs : List Pair) (offset n : ℕ) → position_or_len (test offset) pairs ≡ n → find (test offset) pairs ≡ slice_get pairs n
found_at pairs offset n at = find_at (test offset) pairs ∙ ap (slice_get pairs) at

below_fails : (names : List ProcName) (offset n k : ℕ) (d : ProcName) → Point names offset n → n ≤ length names → k < n → test offset (get_or (map pair_of names) k (pair_of d)) ≡ false
below_fails names offset n k d point le lt =
    let less : (get_or names k d).identity < offset = ltb-true _ _ (point.0 k d (omega arith) lt) in
    ap (test offset) (get_or-map pair_of names k d) ∙ ne_eqb _ _ (λ same. let l = less in omega arith)

pub name_found : (names : List ProcName) (offset n : ℕ) (x : ProcName) → n ≤ length names → Point names offset n → slice_get names n ≡ Some x → x.identity ≡ offset
    → find (test offset) (map pair_of names) ≡ Some (pair_of x)
name_found names offset n x le point there same =
    let within : n < length names = slice_get_within names n x there in
    let long : length (map pair_of names) ≡ length names = length-map names pair_of in
    let own : get_or (map pair_of names) n (pair_of x) ≡ pair_of x = get_or-map pair_of names n x ∙ ap pair_of (get_or_from_slice_get names n x x there) in
    found_at (map pair_of names) offset n
    (position_or_len_is (test offset) (map pair_of names) n (pair_of x) (omega arith) (λ k lt. below_fails names offset n k x point le lt)
    (λ lt. ap (test offset) own ∙ eq-eqb x.identity offset same))
    ∙ slice_get-get_or (map pair_of names) n (pair_of x) (omega arith) ∙ ap (λ (p : Pair). some_pair p) own
  where
    some_pair : Pair → Option Pair
    some_pair p = Some p

pub name_missing : (names : List ProcName) (offset n : ℕ) → IsNonDecreasingBy (λ s. s.identity) names → n ≤ length names → Point names offset n
    → ((x : ProcName) → slice_get names n ≡ Some x → x.identity ≢ offset) → find (test offset) (map pair_of names) ≡ None
name_missing [] offset n up le point other = refl
name_missing (x ∷ xs) offset n up le point other =
    let names : List ProcName = x ∷ xs in
    let pairs : List Pair = map pair_of names in
    let long : length pairs ≡ length names = length-map names pair_of in
    found_at pairs offset (length pairs)
    (position_or_len_is (test offset) pairs (length pairs) (pair_of x) (omega arith)
    (λ k lt. elim (cases_lt k n) [
      | inl less ↦ below_fails names offset n k x point le less
      | inr ge ↦
          let there : n < length names = omega arith in
          let first : offset ≤ (get_or names n x).identity = ltb-false _ _ (point.1 n x (omega arith) there) in
          let ne : (get_or names n x).identity ≢ offset = other (get_or names n x) (slice_get-get_or names n x there) in
          let more : (get_or names n x).identity ≤ (get_or names k x).identity = up n k x ge (omega arith) in
          ap (test offset) (get_or-map pair_of names k x) ∙ ne_eqb _ _ (λ same. ne (omega arith))
    ])
    (λ lt. absurd (omega arith)))
    ∙ slice_get_past pairs (length pairs) (omega arith)
