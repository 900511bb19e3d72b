-- Values at the right of their cells.
use Rattle.std.proofs.Common.{◌≡◌, ℕ, suc, ◌+◌, ◌-◌, ◌*◌, ◌/◌, ◌%◌, ◌^◌, ◌≤◌, List, [], ◌∷◌, ◌++◌, length, take, drop, set, codes, decimal, refl, sym, ap, ◌∙◌, arith, append-nil, append_assoc, length-append}
use Rattle.std.proofs.Math.Seq.{drop-append-add, take-append-add}
use Rattle.std.proofs.lemmas.Fmt.{decimal_digit}
use Rattle.std.proofs.lemmas.List.{take-append-drop, take-replicate, drop-replicate, set-append_right}
use Rattle.tree_types.specs.TopDown.{percent, right, spaces}
use Rattle.view_tables.proofs.CellWidths.{right_long, share_length, short_share, short_value, short_whole}

-- digits that are written over blanks up to an end, after what comes before the blanks
filled : (new old front digits : List ℕ) (start from end more : ℕ) → length front ≡ from → from ≤ start → old ≡ front ++ spaces (end - from + more) → start + length digits ≡ end
    → drop start new ≡ digits ++ drop end old → take start new ≡ take start old → new ≡ (front ++ right (end - from) digits) ++ spaces more
filled new old front digits start from end more long inside is ends written before =
    let width : ℕ = end - from + more in
    let first : take start new ≡ front ++ spaces (end - from - length digits) =
    before ∙ ap (take start) is ∙ ap (λ (k : ℕ). take k (front ++ spaces width)) (let e : start ≡ length front + (start - from) = omega (arith, long, inside) in e)
    ∙ take-append-add front (spaces width) (start - from) ∙ ap (λ (l : List ℕ). front ++ l) (take-replicate (start - from) width 32 (omega (arith, ends)) ∙ ap spaces (let e : start - from ≡ end - from - length digits = omega (arith, ends) in e)) in
    let last : drop start new ≡ digits ++ spaces more =
    written ∙ ap (λ (l : List ℕ). digits ++ l) (ap (drop end) is ∙ ap (λ (k : ℕ). drop k (front ++ spaces width)) (let e : end ≡ length front + (end - from) = omega (arith, long, inside, ends) in e)
    ∙ drop-append-add front (spaces width) (end - from) ∙ drop-replicate (end - from) width 32 ∙ ap spaces (let e : end - from + more - (end - from) ≡ more = omega arith in e)) in
    sym (take-append-drop start new) ∙ (λ i. first i ++ last i) ∙ regroup front (spaces (end - from - length digits)) digits (spaces more)
  where
    regroup : (a b c d : List ℕ) → (a ++ b) ++ (c ++ d) ≡ (a ++ (b ++ c)) ++ d
    regroup a b c d = simp append_assoc

-- a cell that is wider by a blank
one_wider : (width : ℕ) (bytes : List ℕ) → length bytes ≤ width → right (width + 1) bytes ≡ spaces 1 ++ right width bytes
one_wider width bytes le = ap (λ (n : ℕ). spaces n ++ bytes) (let e : width + 1 - length bytes ≡ suc (width - length bytes) = omega (arith, le) in e)

-- the digits before the point, the point, and the digit after it
share_is : (part total : ℕ) → part ≤ total → right 5 (decimal (part * 1000 / total / 10)) ++ 46 ∷ (48 + part * 1000 / total % 10) ∷ [] ≡ spaces 1 ++ right 6 (percent part total)
share_is part total within =
    let whole : List ℕ = decimal (part * 1000 / total / 10) in
    let tenth : ℕ = part * 1000 / total % 10 in
    append_assoc (spaces (5 - length whole)) whole (46 ∷ (48 + tenth) ∷ [])
    ∙ (λ i. spaces (same_blanks i) ++ (whole ++ 46 ∷ sym (decimal_digit tenth (omega arith)) i))
    ∙ ap (λ (l : List ℕ). spaces (7 - length (percent part total)) ++ l) (sym (append_assoc whole (codes ".") (decimal tenth)))
    ∙ one_wider 6 (percent part total) (short_share part total within)
  where
    same_blanks : 5 - length (decimal (part * 1000 / total / 10)) ≡ 7 - length (percent part total)
    same_blanks = let long = share_length part total in omega (arith, long)

-- the text of the cells, after each of its three numbers
pub values_filled : (one two three : List ℕ) (s1 s2 s3 first total third : ℕ) → total ≤ 2 ^ 52 → first ≤ total → third ≤ total
    → s1 + length (decimal first) ≡ 16 → drop s1 one ≡ decimal first ++ drop 16 (spaces 40) → take s1 one ≡ take s1 (spaces 40)
    → s2 + length (decimal (first * 1000 / total / 10)) ≡ 21 → drop s2 two ≡ decimal (first * 1000 / total / 10) ++ drop 21 one → take s2 two ≡ take s2 one
    → s3 + length (decimal third) ≡ 40 → drop s3 three ≡ decimal third ++ drop 40 (set (set two 21 46) 22 (48 + first * 1000 / total % 10)) → take s3 three ≡ take s3 (set (set two 21 46) 22 (48 + first * 1000 / total % 10))
    → three ≡ right 16 (decimal first) ++ spaces 1 ++ right 6 (percent first total) ++ spaces 1 ++ right 16 (decimal third)
values_filled one two three s1 s2 s3 first total third small f_le t_le ends1 written1 before1 ends2 written2 before2 ends3 written3 before3 =
    let a : List ℕ = right 16 (decimal first) in
    let b : List ℕ = right 5 (decimal (first * 1000 / total / 10)) in
    let tenth : ℕ = 48 + first * 1000 / total % 10 in
    let whole = short_whole first total f_le in
    let last = short_value third (omega (arith, t_le, small)) in
    let long_a : length a ≡ 16 = right_long 16 (decimal first) (short_value first (omega (arith, f_le, small))) in
    let long_b : length b ≡ 5 = right_long 5 (decimal (first * 1000 / total / 10)) (omega (arith, whole)) in
    let long_ab : length (a ++ b) ≡ 21 = length-append a b ∙ (λ i. long_a i + long_b i) in
    let long_p : length ((a ++ b) ++ 46 ∷ tenth ∷ []) ≡ 23 = length-append (a ++ b) (46 ∷ tenth ∷ []) ∙ ap (λ (k : ℕ). k + 2) long_ab in
    let is_one : one ≡ a ++ spaces 24 = filled one (spaces 40) [] (decimal first) s1 0 16 24 refl (omega arith) refl ends1 written1 before1 in
    let is_two : two ≡ (a ++ b) ++ spaces 19 = filled two one a (decimal (first * 1000 / total / 10)) s2 16 21 19 long_a (omega (arith, whole, ends2)) is_one ends2 written2 before2 in
    let point : set (set two 21 46) 22 tenth ≡ ((a ++ b) ++ 46 ∷ tenth ∷ []) ++ spaces 17 =
    ap (λ (l : List ℕ). set (set l 21 46) 22 tenth) is_two
    ∙ ap (λ (l : List ℕ). set l 22 tenth) (set-append_right (a ++ b) (spaces 19) 21 21 46 long_ab (omega arith))
    ∙ set-append_right (a ++ b) (46 ∷ spaces 18) 21 22 tenth long_ab (omega arith)
    ∙ sym (append_assoc (a ++ b) (46 ∷ tenth ∷ []) (spaces 17)) in
    filled three (set (set two 21 46) 22 tenth) ((a ++ b) ++ 46 ∷ tenth ∷ []) (decimal third) s3 23 40 0 long_p (omega (arith, last, ends3)) point ends3 written3 before3
    ∙ regroup a b (46 ∷ tenth ∷ []) (right 17 (decimal third)) (right 6 (percent first total)) (right 16 (decimal third)) (share_is first total f_le) (one_wider 16 (decimal third) last)
  where
    grouped : (a s r c : List ℕ) → (a ++ (s ++ r)) ++ (s ++ c) ≡ a ++ s ++ r ++ s ++ c
    grouped a s r c = simp append_assoc

    regroup : (a b p q r c : List ℕ) → b ++ p ≡ spaces 1 ++ r → q ≡ spaces 1 ++ c → (((a ++ b) ++ p) ++ q) ++ [] ≡ a ++ spaces 1 ++ r ++ spaces 1 ++ c
    regroup a b p q r c eb eq =
        append-nil (((a ++ b) ++ p) ++ q) ∙ (λ i. append_assoc a b p i ++ eq i) ∙ ap (λ (l : List ℕ). (a ++ l) ++ (spaces 1 ++ c)) eb ∙ grouped a (spaces 1) r c
