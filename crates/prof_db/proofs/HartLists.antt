-- The lists of an event's columns, a hart at a time.
use Rattle.std.proofs.Common.{◌≡◌, ℕ, ◌+◌, List, [], ◌∷◌, ◌++◌, length, sym, ap, subst, ◌∙◌, arith, length-append}
use Rattle.std.proofs.lemmas.List.FromFn.{map-range_with_len_more}
use Rattle.tree_types.specs.declared.content.ProfileEntry.{ProfileEntry}
use Rattle.tree_types.specs.Lists.{AreStarts, cut}
use Rattle.tree_types.proofs.Cutting.{cut_more, no_lists, no_starts, starts_more}
use Rattle.prof_db.specs.private.EventLists.{AreHartLists}
use Rattle.prof_db.specs.private.EventParts.{hart_list}

module _ (events place : ℕ) (numbers : List ℕ) (lists : List (List ProfileEntry)) where
  -- no hart yet
  pub no_hart : (starts : List ℕ) (entries : List ProfileEntry) → starts ≡ 0 ∷ [] → entries ≡ [] → AreHartLists events place numbers lists 0 starts entries
  no_hart starts entries s e = record {
    ordered = subst (λ (z : List ℕ). AreStarts z (length entries)) (sym s) (subst (λ (k : ℕ). AreStarts (0 ∷ []) k) (ap length (sym e)) no_starts);
    lists_are = (λ i. cut (s i) (e i)) ∙ no_lists [];
  }

  -- one hart more
  pub hart_more : (hart : ℕ) (starts starts2 : List ℕ) (entries entries2 : List ProfileEntry) → AreHartLists events place numbers lists hart starts entries
      → entries2 ≡ entries ++ hart_list events place numbers lists hart → starts2 ≡ starts ++ length entries2 ∷ []
      → AreHartLists events place numbers lists (hart + 1) starts2 entries2
  hart_more hart starts starts2 entries entries2 state e s =
      let list : List ProfileEntry = hart_list events place numbers lists hart in
      let long : length entries2 ≡ length entries + length list = ap length e ∙ length-append entries list in
      record {
        ordered = subst (λ (z : List ℕ). AreStarts z (length entries2)) (sym s) (starts_more starts (length entries) (length entries2) state.ordered (omega (arith, long)));
        lists_are =
            (λ i. cut (s i) (e i)) ∙ cut_more starts entries list (length entries2) state.ordered long
            ∙ ap (λ (z : List (List ProfileEntry)). z ++ list ∷ []) state.lists_are
            ∙ sym (map-range_with_len_more (hart_list events place numbers lists) 0 hart hart (omega arith));
      }
