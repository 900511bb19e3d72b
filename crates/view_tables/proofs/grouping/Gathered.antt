-- The occurrences of a content, node by node.
use Rattle.std.proofs.Common.{◌≡◌, ℕ, zero, suc, ◌+◌, true, false, cond, List, [], ◌∷◌, ◌++◌, length, map, sym, ap, ◌∙◌, arith, append-nil}
use Rattle.std.specs.List.{flat_map, range_with_len}
use Rattle.std.proofs.lemmas.List.{map-append}
use Rattle.std.proofs.lemmas.List.Concat.{flat_map-append}
use Rattle.tree_types.specs.declared.content.Content.{Content}
use Rattle.view_tables.specs.declared.groups.occurrence.Occurrence.{Occurrence}
use Rattle.view_tables.specs.declared.groups.occurrence.View.{View}
use Rattle.view_tables.specs.private.groups.Occurrences.{Held, all_occurrences, has_frame, held, node_items, occurrence_at, ups}
use Rattle.view_tables.proofs.EntrySums.{as_many_lists}

range_more : (a n : ℕ) → range_with_len a (n + 1) ≡ range_with_len a n ++ (a + n) ∷ []
range_more a zero = ap (λ (k : ℕ). k ∷ []) (let e : a ≡ a + 0 = omega arith in e)
range_more a (suc n) =
    let e : suc n + 1 ≡ suc (n + 1) = omega arith in
    let at : (a + 1) + n ≡ a + suc n = omega arith in
    ap (range_with_len a) e ∙ ap (λ (l : List ℕ). a ∷ l) (range_more (a + 1) n ∙ ap (λ (k : ℕ). range_with_len (a + 1) n ++ k ∷ []) at)

module _ (view : View) (c : Content) where
  abbrev pub so_far : List Occurrence → ℕ → Type 0
  so_far occurrences number = map (held view c) occurrences ≡ flat_map (occurrence_at view c) (range_with_len 0 number)

  occurrences_more : (number : ℕ) → flat_map (occurrence_at view c) (range_with_len 0 (number + 1)) ≡ flat_map (occurrence_at view c) (range_with_len 0 number) ++ occurrence_at view c number
  occurrences_more number =
      ap (flat_map (occurrence_at view c)) (range_more 0 number) ∙ flat_map-append (occurrence_at view c) (range_with_len 0 number) ((0 + number) ∷ [])
      ∙ ap (λ (hs : List Held). flat_map (occurrence_at view c) (range_with_len 0 number) ++ hs) (append-nil (occurrence_at view c (0 + number)) ∙ ap (occurrence_at view c) (let e : 0 + number ≡ number = omega arith in e))

  pub occurrence_put : (occurrences : List Occurrence) (number : ℕ) → so_far occurrences number → has_frame view (ups c number) ≡ true → so_far (occurrences ++ record { frame = number; node = number; level = 0 } ∷ []) (number + 1)
  occurrence_put occurrences number before there =
      let p : Occurrence = record { frame = number; node = number; level = 0 } in
      map-append (held view c) occurrences (p ∷ []) ∙ ap (λ (hs : List Held). hs ++ held view c p ∷ []) before
      ∙ ap (λ b. flat_map (occurrence_at view c) (range_with_len 0 number) ++ cond b ((number, node_items view c number) ∷ []) []) (sym there)
      ∙ sym (occurrences_more number)

  pub occurrence_pass : (occurrences : List Occurrence) (number : ℕ) → so_far occurrences number → has_frame view (ups c number) ≡ false → so_far occurrences (number + 1)
  occurrence_pass occurrences number before none =
      before ∙ sym (append-nil (flat_map (occurrence_at view c) (range_with_len 0 number)))
      ∙ ap (λ b. flat_map (occurrence_at view c) (range_with_len 0 number) ++ cond b ((number, node_items view c number) ∷ []) []) (sym none)
      ∙ sym (occurrences_more number)

  pub occurrence_all : (occurrences : List Occurrence) (number : ℕ) → so_far occurrences number → number ≡ length c.nodes → map (held view c) occurrences ≡ all_occurrences view c
  occurrence_all occurrences number before end = before ∙ ap (λ (n : ℕ). flat_map (occurrence_at view c) (range_with_len 0 n)) end

pub ruleset occurrence_steps = (occurrence_put, occurrence_pass, occurrence_all, as_many_lists)
