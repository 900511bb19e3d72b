-- Ranges with commas between, one more at a time.
use Rattle.std.proofs.Common.{◌≡◌, ℕ, suc, ◌+◌, ◌<◌, Bool, cond, List, [], ◌∷◌, ◌++◌, length, get_or, take, sym, ap, ◌∙◌, arith, append-nil, append_assoc}
use Rattle.std.specs.Prelude.{codes}
use Rattle.std.specs.List.{flat_map}
use Rattle.std.proofs.lemmas.Bool.{lt-ltb}
use Rattle.std.proofs.lemmas.List.{take_more, length-take-le}
use Rattle.std.proofs.lemmas.List.Concat.{flat_map-append}
use Rattle.struct_listing.specs.Listing.{range_text, ranges_text}
use Rattle.struct_listing.specs.private.Parts.{separator}

abbrev behind : ℕ × ℕ → List ℕ
behind r = codes "," ++ range_text r

text_push : (rs : List (ℕ × ℕ)) (n : ℕ) (r : ℕ × ℕ) → length rs ≡ n → ranges_text (rs ++ r ∷ []) ≡ ranges_text rs ++ (separator n ++ range_text r)
text_push [] n r is = append-nil (range_text r) ∙ ap (λ (m : ℕ). separator m ++ range_text r) is
text_push (x ∷ xs) n r is =
    let long : suc (length xs) ≡ n = is in
    let comma : separator n ≡ codes "," = ap (λ (b : Bool). cond b (codes ",") []) (lt-ltb 0 n (omega arith)) in
    ap (λ (l : List ℕ). range_text x ++ l) (flat_map-append behind xs (r ∷ []) ∙ ap (λ (l : List ℕ). flat_map behind xs ++ l) (append-nil (behind r)))
    ∙ sym (append_assoc (range_text x) (flat_map behind xs) (behind r))
    ∙ ap (λ (l : List ℕ). ranges_text (x ∷ xs) ++ (l ++ range_text r)) (sym comma)

pub range_more : (all : List (ℕ × ℕ)) (at : ℕ) (d : ℕ × ℕ) (start now middle after : List ℕ) → at < length all → now ≡ start ++ ranges_text (take at all) → middle ≡ now ++ separator at
    → after ≡ middle ++ range_text (get_or all at d) → after ≡ start ++ ranges_text (take (at + 1) all)
range_more all at d start now middle after lt so_far comma text =
    let rs : List (ℕ × ℕ) = take at all in
    let r : ℕ × ℕ = get_or all at d in
    let long : length rs ≡ at = length-take-le at all (omega arith) in
    text ∙ ap (λ (l : List ℕ). l ++ range_text r) (comma ∙ ap (λ (l : List ℕ). l ++ separator at) so_far)
    ∙ append_assoc (start ++ ranges_text rs) (separator at) (range_text r)
    ∙ append_assoc start (ranges_text rs) (separator at ++ range_text r)
    ∙ ap (λ (l : List ℕ). start ++ l) (sym (ap ranges_text (take_more all at d lt) ∙ text_push rs at r long))
