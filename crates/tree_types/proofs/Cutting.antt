-- Lists that are cut from one list.
use Rattle.std.proofs.Common.{◌≡◌, ℕ, zero, suc, ◌+◌, ◌-◌, ◌<◌, ◌≤◌, List, [], ◌∷◌, ◌++◌, length, get_or, take, drop, refl, ap, ◌∙◌, arith, length-append, length-drop, take_all, inl, inr}
use Rattle.std.proofs.lemmas.Bool.{cases_order}
use Rattle.std.proofs.lemmas.List.{get_or_default, take-append-le, drop-append-le}
use Rattle.std.proofs.lemmas.List.Quantifiers.{all_pairs_push}
use Rattle.std.proofs.Math.Seq.{drop-append_seam}
use Rattle.tree_types.specs.Lists.{AreStarts, cut}

-- ---- starts

-- the last start is the greatest
up_to_last : (starts : List ℕ) (n i d : ℕ) → AreStarts starts n → i < length starts → get_or starts i d ≤ n
up_to_last starts n i d are lt = elim (cases_order i (length starts - 1)) [
  | inl same ↦ (let here = get_or_default starts i d 0 lt in let e = are.last in let at = ap (λ (k : ℕ). get_or starts k 0) same in omega arith)
  | inr (inl less) ↦ (
      let some = are.some in
      let le = are.rise i (length starts - 1) d less (omega arith) in
      let there = get_or_default starts (length starts - 1) d 0 (omega arith) in
      let e = are.last in omega arith
      )
  | inr (inr more) ↦ absurd (omega arith)
]

-- no list yet
pub no_starts : AreStarts (0 ∷ []) 0
no_starts = record { some = omega arith; first = refl; rise = λ i j d less lt. absurd (omega arith); last = refl }

-- another list after the others
pub starts_more : (starts : List ℕ) (n last : ℕ) → AreStarts starts n → n ≤ last → AreStarts (starts ++ last ∷ []) last
starts_more starts n last are le = record {
  some = (let long = length-append starts (last ∷ []) in omega arith);
  first = first_is starts are.some are.first;
  rise = all_pairs_push (λ a b. a ≤ b) starts last are.rise (λ k d lt. let up = up_to_last starts n k d are lt in omega arith);
  last = last_is starts;
}
  where
    first_is : (starts : List ℕ) → 0 < length starts → get_or starts 0 0 ≡ 0 → get_or (starts ++ last ∷ []) 0 0 ≡ 0
    first_is [] some e = absurd (omega arith)
    first_is (s ∷ starts) some e = e

    last_is : (starts : List ℕ) → get_or (starts ++ last ∷ []) (length (starts ++ last ∷ []) - 1) 0 ≡ last
    last_is [] = refl
    last_is (s ∷ starts) =
        let long = length-append starts (last ∷ []) in
        let same : length (s ∷ starts ++ last ∷ []) - 1 ≡ suc (length (starts ++ last ∷ []) - 1) = omega arith in
        ap (λ (k : ℕ). get_or (s ∷ starts ++ last ∷ []) k 0) same ∙ last_is starts

-- ---- cells

module _ {X : Type 0} where
  pub list_count : (starts : List ℕ) (xs : List X) → length (cut starts xs) ≡ length starts - 1
  unfolding cut
  list_count [] xs = refl
  list_count (from ∷ []) xs = refl
  list_count (from ∷ upto ∷ starts) xs = (let rest = list_count (upto ∷ starts) xs in omega arith)

  pub list_is : (starts : List ℕ) (xs : List X) (i : ℕ) (d : ℕ) → i < length (cut starts xs)
      → get_or (cut starts xs) i [] ≡ take (get_or starts (i + 1) d - get_or starts i d) (drop (get_or starts i d) xs)
  unfolding cut
  list_is starts xs i d lt = let long = list_count starts xs in at_index starts i (omega arith)
    where
      at_index : (starts : List ℕ) (i : ℕ) → i + 1 < length starts
          → get_or (cut starts xs) i [] ≡ take (get_or starts (i + 1) d - get_or starts i d) (drop (get_or starts i d) xs)
      at_index [] i lt = absurd (omega arith)
      at_index (from ∷ []) i lt = absurd (omega arith)
      at_index (from ∷ upto ∷ starts) zero lt = refl
      at_index (from ∷ upto ∷ starts) (suc i) lt =
          let same : suc (i + 1) ≡ suc i + 1 = omega arith in
          at_index (upto ∷ starts) i (omega arith)
          ∙ ap (λ (k : ℕ). take (get_or (from ∷ upto ∷ starts) k d - get_or (upto ∷ starts) i d) (drop (get_or (upto ∷ starts) i d) xs)) same

  pub list_bounds : (starts : List ℕ) (xs : List X) (i : ℕ) (d : ℕ) → AreStarts starts (length xs) → i < length (cut starts xs)
      → (i + 1 < length starts) × (get_or starts i d ≤ get_or starts (i + 1) d) × (get_or starts (i + 1) d ≤ length xs)
  list_bounds starts xs i d are lt =
      let long = list_count starts xs in
      let inside : i + 1 < length starts = omega arith in
      (inside, are.rise i (i + 1) d (omega arith) inside, up_to_last starts (length xs) (i + 1) d are inside)

  pub no_lists : (xs : List X) → cut (0 ∷ []) xs ≡ []
  unfolding cut
  no_lists xs = refl

  -- another list after the others
  pub cut_more : (starts : List ℕ) (xs list : List X) (last : ℕ) → AreStarts starts (length xs) → last ≡ length xs + length list
      → cut (starts ++ last ∷ []) (xs ++ list) ≡ cut starts xs ++ list ∷ []
  unfolding cut
  cut_more starts xs list last are end =
      behind starts are.some (λ i d lt. up_to_last starts (length xs) i d are lt) are.last
    where
      behind : (starts : List ℕ) → 0 < length starts → ((i d : ℕ) → i < length starts → get_or starts i d ≤ length xs) → get_or starts (length starts - 1) 0 ≡ length xs
          → cut (starts ++ last ∷ []) (xs ++ list) ≡ cut starts xs ++ list ∷ []
      behind [] some up e = absurd (omega arith)
      behind (from ∷ []) some up e =
          let is : drop from (xs ++ list) ≡ list = ap (λ (k : ℕ). drop k (xs ++ list)) e ∙ drop-append_seam xs list in
          ap (λ (l : List X). take (last - from) l ∷ []) is ∙ ap (λ (l : List X). l ∷ []) (take_all (last - from) list (omega arith))
      behind (from ∷ upto ∷ starts) some up e =
          let here : from ≤ length xs = up 0 0 (omega arith) in
          let next : upto ≤ length xs = up 1 0 (omega arith) in
          let long = length-drop from xs in
          let is : take (upto - from) (drop from (xs ++ list)) ≡ take (upto - from) (drop from xs) =
          ap (take (upto - from)) (drop-append-le from xs list here) ∙ take-append-le (upto - from) (drop from xs) list (omega arith) in
          let same : suc (length (upto ∷ starts) - 1) ≡ length (from ∷ upto ∷ starts) - 1 = omega arith in
          ap (λ (l : List X). l ∷ cut (upto ∷ starts ++ last ∷ []) (xs ++ list)) is
          ∙ ap (λ (l : List (List X)). take (upto - from) (drop from xs) ∷ l) (behind (upto ∷ starts) (omega arith) (λ i d lt. up (suc i) d (omega arith)) (ap (λ (k : ℕ). get_or (from ∷ upto ∷ starts) k 0) same ∙ e))
