-- The paths of a column: those of a list, and then those of a table.
use Rattle.std.proofs.Common.{◌≡◌, ℕ, zero, suc, ◌+◌, ◌-◌, ◌≤◌, Bool, true, false, cond, ◌||◌, List, [], ◌∷◌, ◌++◌, length, refl, sym, ap, subst, ◌∙◌, arith, append-nil}
use Rattle.std.specs.Prelude.{slice_get, OnOk, Result, Ok, Err, Some}
use Rattle.std.proofs.lemmas.List.{length-append}
use Rattle.std.proofs.lemmas.List.Folds.{list_any-append}
use Rattle.scope_types.specs.declared.frame.Counted.{Counted}
use Rattle.scope_types.specs.Raw.{Raw, same_raw}
use Rattle.thread_cct.specs.Adding.{has_path, count_one}

pub all_of_list : (list table : List Counted) → table ≡ [] → list ++ table ≡ list
all_of_list list table none = ap (λ (t : List Counted). list ++ t) none ∙ append-nil list

pub as_many : (list table : List Counted) → length list + length table ≡ length (list ++ table)
as_many list table = sym (length-append list table)

-- a path is there where it is in the list or in the table
has_either : (raw : Raw) (list table : List Counted) → has_path raw (list ++ table) ≡ (has_path raw list || has_path raw table)
has_either raw list table = list_any-append (λ (c : Counted). same_raw raw c.path) list table

either_absent : (a b : Bool) → (a || b) ≡ false → (a ≡ false) × (b ≡ false)
either_absent true b e = absurd cc
either_absent false b e = (refl, e)

pub absent_in_both : (raw : Raw) (list table : List Counted) → has_path raw (list ++ table) ≡ false → (has_path raw list ≡ false) × (has_path raw table ≡ false)
absent_in_both raw list table absent = either_absent (has_path raw list) (has_path raw table) (sym (has_either raw list table) ∙ absent)

-- it is counted where it is
pub counted_in_list : (raw : Raw) (list table : List Counted) → has_path raw list ≡ true → count_one raw (list ++ table) ≡ count_one raw list ++ table
counted_in_list raw [] table there = absurd cc
counted_in_list raw (c ∷ list) table there =
    elim (same_raw raw c.path) as (λ b. (b || has_path raw list) ≡ true
    → cond b (record { path = c.path; count = c.count + 1 } ∷ (list ++ table)) (c ∷ count_one raw (list ++ table)) ≡ cond b (record { path = c.path; count = c.count + 1 } ∷ list) (c ∷ count_one raw list) ++ table) [
      | true ↦ λ e. refl
      | false ↦ λ e. ap (λ (l : List Counted). c ∷ l) (counted_in_list raw list table e)
    ] there

pub counted_in_table : (raw : Raw) (list table : List Counted) → has_path raw list ≡ false → count_one raw (list ++ table) ≡ list ++ count_one raw table
counted_in_table raw [] table absent = refl
counted_in_table raw (c ∷ list) table absent =
    elim (same_raw raw c.path) as (λ b. (b || has_path raw list) ≡ false
    → cond b (record { path = c.path; count = c.count + 1 } ∷ (list ++ table)) (c ∷ count_one raw (list ++ table)) ≡ c ∷ (list ++ count_one raw table)) [
      | true ↦ λ e. absurd cc
      | false ↦ λ e. ap (λ (l : List Counted). c ∷ l) (counted_in_table raw list table e)
    ] absent

-- ---- the path at an index

pub in_table : (list table : List Counted) (i : ℕ) (c : Counted) → length list ≤ i → slice_get table (i - length list) ≡ Some c → slice_get (list ++ table) i ≡ Some c
in_table [] table i c past at = (let same : i - 0 ≡ i = omega arith in subst (λ (k : ℕ). slice_get table k ≡ Some c) same at)
in_table (x ∷ list) table zero c past at = absurd (omega (arith, past))
in_table (x ∷ list) table (suc i) c past at =
    let less : suc i - length (x ∷ list) ≡ i - length list = omega arith in
    in_table list table i c (omega (arith, past)) (subst (λ (k : ℕ). slice_get table k ≡ Some c) less at)

-- ---- what a column does

pub on_ok : {X E A B : Type 0} (r : Result X E) → (A → B) → OnOk r A → OnOk r B
on_ok (Ok x) f a = f a
on_ok (Err e) f a = tt

pub count_at : (list table now : List Counted) (i listed count : ℕ) (raw : Raw) → list ++ table ≡ now → listed ≡ length list → listed ≤ i → slice_get table (i - listed) ≡ Some (record { path = raw; count = count })
    → (path : Raw) × (slice_get now i ≡ Some (record { path = path; count = count }))
count_at list table now i listed count raw view is past at =
    let own : slice_get table (i - length list) ≡ Some (record { path = raw; count = count }) = subst (λ (k : ℕ). slice_get table (i - k) ≡ Some (record { path = raw; count = count })) is at in
    (raw, ap (λ (l : List Counted). slice_get l i) (sym view) ∙ in_table list table i (record { path = raw; count = count }) (omega (arith, is, past)) own)

pub put_in_table : (raw : Raw) (list table now new : List Counted) → list ++ table ≡ now → has_path raw now ≡ false → new ≡ count_one raw table → list ++ new ≡ count_one raw now
put_in_table raw list table now new view absent put =
    let absent_here : has_path raw (list ++ table) ≡ false = ap (has_path raw) view ∙ absent in
    ap (λ (t : List Counted). list ++ t) put ∙ sym (counted_in_table raw list table (absent_in_both raw list table absent_here).0) ∙ ap (count_one raw) view

pub again_in_list : (raw : Raw) (list table now new : List Counted) (found : Bool) → list ++ table ≡ now → found ≡ has_path raw list → new ≡ cond found (count_one raw list) list → found ≡ true → new ++ table ≡ count_one raw now
again_in_list raw list table now new found view is counted there =
    ap (λ (l : List Counted). l ++ table) (counted ∙ ap (λ (b : Bool). cond b (count_one raw list) list) there) ∙ sym (counted_in_list raw list table (sym is ∙ there)) ∙ ap (count_one raw) view

pub again_in_table : (raw : Raw) (list table now new new_table : List Counted) (found again : Bool) → list ++ table ≡ now → found ≡ has_path raw list → new ≡ cond found (count_one raw list) list → found ≡ false → new_table ≡ cond again (count_one raw table) table
    → new ++ new_table ≡ cond again (count_one raw now) now
again_in_table raw list table now new new_table found again view is stays absent counted =
    (λ i. (stays ∙ ap (λ (b : Bool). cond b (count_one raw list) list) absent) i ++ counted i)
    ∙ elim again as (λ b. list ++ cond b (count_one raw table) table ≡ cond b (count_one raw now) now) [
      | true ↦ sym (counted_in_table raw list table (sym is ∙ absent)) ∙ ap (count_one raw) view
      | false ↦ view
    ]

pub ruleset column_steps = (all_of_list, as_many)
