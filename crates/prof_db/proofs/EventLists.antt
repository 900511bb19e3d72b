-- The lists of the nodes that have values of an event, a node at a time.
use Rattle.std.proofs.Common.{◌≡◌, ℕ, zero, suc, ◌+◌, ◌-◌, ◌<◌, ◌≤◌, ◌||◌, Bool, true, false, cond, nat_lt, List, [], ◌∷◌, ◌++◌, length, get_or, take, map, filter, refl, sym, ap, subst, ◌∙◌, arith, append-nil, length-append, true≢false}
use Rattle.std.specs.List.{list_any}
use Rattle.std.proofs.lemmas.Bool.{lt-ltb, ltb-true}
use Rattle.std.proofs.lemmas.List.{length-map, map-append, take_more}
use Rattle.std.proofs.lemmas.List.Elements.{filter-append}
use Rattle.std.proofs.lemmas.List.FromFn.{map-range_with_len_more}
use Rattle.std.proofs.lemmas.List.Sums.{count_by-le-length, length-filter}
use Rattle.tree_types.specs.declared.content.ContextEntry.{ContextEntry}
use Rattle.tree_types.specs.Lists.{AreStarts, cut}
use Rattle.tree_types.proofs.Cutting.{cut_more, list_count, no_lists, no_starts, starts_more}
use Rattle.tree_types.proofs.Sorting.{bool_same}
use Rattle.prof_db.specs.private.EventLists.{AreEventLists}
use Rattle.prof_db.specs.private.EventParts.{event_list, event_lists, event_number_of, has_event, is_of_event, with_hart}

pub one_entry_more : (events place : ℕ) (list : List ContextEntry) (i : ℕ) (e : ContextEntry) → i < length list → e ≡ get_or list i e
    → event_list events place (take i list) ++ event_list events place (e ∷ []) ≡ event_list events place (take (i + 1) list)
one_entry_more events place list i e lt is =
    sym (ap (event_list events place) (take_more list i e lt ∙ ap (λ (x : ContextEntry). take i list ++ x ∷ []) (sym is))
    ∙ ap (map (with_hart events)) (filter-append (is_of_event events place) (take i list) (e ∷ []))
    ∙ map-append (with_hart events) (filter (is_of_event events place) (take i list)) (filter (is_of_event events place) (e ∷ [])))

-- whether an element passes, by how many do
pub any_by_length : {X : Type 0} (t : X → Bool) (xs : List X) → list_any t xs ≡ nat_lt 0 (length (filter t xs))
any_by_length t [] = refl
any_by_length t (x ∷ xs) = elim (t x) as (λ b. (b || list_any t xs) ≡ nat_lt 0 (length (cond b (x ∷ filter t xs) (filter t xs)))) [
  | true ↦ sym (lt-ltb 0 (suc (length (filter t xs))) (omega arith))
  | false ↦ any_by_length t xs
]

module _ (events place : ℕ) where
  abbrev of_list : List ContextEntry → List ContextEntry
  of_list = event_list events place

  abbrev has : List ContextEntry → Bool
  has = has_event events place

  pub has_by_length : (list : List ContextEntry) → has list ≡ nat_lt 0 (length (of_list list))
  has_by_length list =
      any_by_length (is_of_event events place) list
      ∙ ap (nat_lt 0) (sym (length-map (filter (is_of_event events place) list) (with_hart events)))

  grows : (entries list : List ContextEntry) → nat_lt (length entries) (length (entries ++ of_list list)) ≡ has list
  grows entries list =
      ap (nat_lt (length entries)) (length-append entries (of_list list))
      ∙ above (length entries) (length (of_list list)) ∙ sym (has_by_length list)
    where
      above : (a b : ℕ) → nat_lt a (a + b) ≡ nat_lt 0 b
      above a b = bool_same (nat_lt a (a + b)) (nat_lt 0 b)
          (λ e. let lt = ltb-true a (a + b) e in lt-ltb 0 b (omega arith))
          (λ e. let lt = ltb-true 0 b e in lt-ltb a (a + b) (omega arith))

  none : (list : List ContextEntry) → has list ≡ false → of_list list ≡ []
  none list e = empty (of_list list) (sym (has_by_length list) ∙ e)
    where
      empty : (xs : List ContextEntry) → nat_lt 0 (length xs) ≡ false → xs ≡ []
      empty [] e = refl
      empty (x ∷ xs) e = absurd (true≢false (sym (lt-ltb 0 (suc (length xs)) (omega arith)) ∙ e))

  module _ (lists : List (List ContextEntry)) (node : ℕ) (lt : node < length lists) where
    abbrev list : List ContextEntry
    list = get_or lists node []

    parts : event_lists events place (take (node + 1) lists) ≡ event_lists events place (take node lists) ++ map of_list (cond (has list) (list ∷ []) [])
    parts =
        ap (event_lists events place) (take_more lists node [] lt)
        ∙ ap (map of_list) (filter-append has (take node lists) (list ∷ []))
        ∙ map-append of_list (filter has (take node lists)) (filter has (list ∷ []))

    -- one node more
    module _ (starts numbers : List ℕ) (entries : List ContextEntry) (state : AreEventLists events place lists node starts entries numbers)
        (starts2 : List ℕ) (entries2 : List ContextEntry)
        (entries_are : entries2 ≡ entries ++ of_list list)
        (starts_are : starts2 ≡ starts ++ cond (nat_lt (length entries) (length entries2)) (length entries2 ∷ []) []) where
      abbrev Made : Type 0
      Made = AreStarts starts2 (length entries2) × (cut starts2 entries2 ≡ event_lists events place (take (node + 1) lists))

      as_has : starts2 ≡ starts ++ cond (has list) (length entries2 ∷ []) []
      as_has = starts_are ∙ ap (λ b. starts ++ cond b (length entries2 ∷ []) []) (ap (λ (es : List ContextEntry). nat_lt (length entries) (length es)) entries_are ∙ grows entries list)

      long : length entries2 ≡ length entries + length (of_list list)
      long = ap length entries_are ∙ length-append entries (of_list list)

      pub made : Made
      made = elim (has list) as (λ b. has list ≡ b → Made) [
        | true ↦ λ e.
            let s : starts2 ≡ starts ++ length entries2 ∷ [] = as_has ∙ ap (λ b. starts ++ cond b (length entries2 ∷ []) []) e in (
              subst (λ (z : List ℕ). AreStarts z (length entries2)) (sym s) (starts_more starts (length entries) (length entries2) state.ordered (let l = long in omega (arith, l))),
              (λ i. cut (s i) (entries_are i))
                  ∙ cut_more starts entries (of_list list) (length entries2) state.ordered long
                  ∙ ap (λ (z : List (List ContextEntry)). z ++ of_list list ∷ []) state.lists_are
                  ∙ sym (parts ∙ ap (λ b. event_lists events place (take node lists) ++ map of_list (cond b (list ∷ []) [])) e),
            )
        | false ↦ λ e.
            let s : starts2 ≡ starts = as_has ∙ ap (λ b. starts ++ cond b (length entries2 ∷ []) []) e ∙ append-nil starts in
            let es : entries2 ≡ entries = entries_are ∙ ap (λ (z : List ContextEntry). entries ++ z) (none list e) ∙ append-nil entries in (
              subst (λ (n : ℕ). AreStarts starts2 n) (ap length (sym es)) (subst (λ (z : List ℕ). AreStarts z (length entries)) (sym s) state.ordered),
              (λ i. cut (s i) (es i)) ∙ state.lists_are
                  ∙ sym (parts ∙ ap (λ b. event_lists events place (take node lists) ++ map of_list (cond b (list ∷ []) [])) e ∙ append-nil (event_lists events place (take node lists))),
            )
      ] refl

      pub number_is : length starts2 - 1 ≡ event_number_of events place lists (node + 1)
      number_is =
          sym (list_count starts2 entries2) ∙ ap length made.1 ∙ length-map (filter has (take (node + 1) lists)) of_list

      pub list_more : (numbers2 : List ℕ) → numbers2 ≡ numbers ++ (length starts2 - 1) ∷ [] → AreEventLists events place lists (node + 1) starts2 entries2 numbers2
      list_more numbers2 numbers_are = record {
        ordered = made.0;
        lists_are = made.1;
        numbers_are =
            numbers_are ∙ (λ i. state.numbers_are i ++ number_is i ∷ [])
            ∙ sym (map-range_with_len_more (event_number_of events place lists) 0 (node + 1) (node + 1) (omega arith));
      }

  pub few_lists : (lists : List (List ContextEntry)) (node : ℕ) → event_number_of events place lists node ≤ length lists
  few_lists lists node = (
      let a = length-filter has (take node lists) in
      let b = count_by-le-length has (take node lists) in
      let c = length-take-le lists node in
      omega (arith, a, b, c)
      )
    where
      length-take-le : (xs : List (List ContextEntry)) (n : ℕ) → length (take n xs) ≤ length xs
      length-take-le [] zero = omega arith
      length-take-le [] (suc n) = omega arith
      length-take-le (x ∷ xs) zero = omega arith
      length-take-le (x ∷ xs) (suc n) = (let rest = length-take-le xs n in omega (arith, rest))

-- no node yet
pub begun : (events place : ℕ) (lists : List (List ContextEntry)) (starts numbers : List ℕ) (entries : List ContextEntry)
    → starts ≡ 0 ∷ [] → entries ≡ [] → numbers ≡ 0 ∷ [] → AreEventLists events place lists 0 starts entries numbers
begun events place lists starts numbers entries s e n = record {
  ordered = subst (λ (z : List ℕ). AreStarts z (length entries)) (sym s) (subst (λ (k : ℕ). AreStarts (0 ∷ []) k) (ap length (sym e)) no_starts);
  lists_are = (λ i. cut (s i) (e i)) ∙ no_lists [];
  numbers_are = n;
}
