-- The samples of columns, one column more at a time, and those of a run by their columns.
use Rattle.std.proofs.Common.{◌≡◌, ℕ, zero, suc, ◌+◌, ◌<◌, ◌≤◌, ◌==◌, nat_lt, Bool, true, false, ◌&&◌, cond, List, [], ◌∷◌, length, take, sum_by, count_by, refl, sym, ap, subst, ◌∙◌, arith, zero-add, add-zero, inl, inr}
use Rattle.std.proofs.lemmas.List.{map-id, take_all}
use Rattle.std.proofs.lemmas.List.FromFn.{sum_by-map-range_with_len_more}
use Rattle.std.proofs.lemmas.List.Sums.{count_by-le-length, sum_by-cons, sum_by_more}
use Rattle.std.proofs.lemmas.Bool.{cases_lt, eq-eqb, le-ltb, lt-ltb}
use Rattle.std.proofs.lemmas.Bool.Decides.{eqb_tells}
use Rattle.scope_types.specs.declared.frame.Counted.{Counted}
use Rattle.scope_types.specs.Distinct.{ColumnRaw, distinct, samples_in}
use Rattle.tree_types.specs.Values.{columns_below}
use Rattle.thread_cct.specs.Adding.{samples_of_column}
use Rattle.run_report.specs.private.Counted.{samples_where}

-- ---- one column more

pub where_more : (test : ℕ → Bool) (tables : List (List Counted)) (n : ℕ) → samples_where test tables (n + 1) ≡ samples_where test tables n + cond (test n) (samples_of_column tables n) 0
unfolding samples_where
where_more test tables n =
    let own : ℕ → ℕ = λ column. cond (test column) (samples_of_column tables column) 0 in
    ap (sum_by own) (sym (map-id (columns_below (n + 1)))) ∙ sum_by-map-range_with_len_more own (λ (k : ℕ). k) 0 n n (zero-add n)
    ∙ ap (λ (l : List ℕ). sum_by own l + own n) (map-id (columns_below n))

pub where_none : (test : ℕ → Bool) (tables : List (List Counted)) → 0 ≡ samples_where test tables 0
unfolding samples_where
where_none test tables = refl

pub where_step : (test : ℕ → Bool) (tables : List (List Counted)) (n before one : ℕ) → before ≡ samples_where test tables n → one ≡ cond (test n) (samples_of_column tables n) 0 → before + one ≡ samples_where test tables (n + 1)
where_step test tables n before one so_far own = (λ i. so_far i + own i) ∙ sym (where_more test tables n)

pub few_step : (tables : List (List Counted)) (n before one : ℕ) → n < length tables → before ≤ sum_by (sum_by (λ c. c.count)) (take n tables) → one ≤ samples_of_column tables n → before + one ≤ sum_by (sum_by (λ c. c.count)) (take (n + 1) tables)
few_step tables n before one inside so_far own = let more = sum_by_more (sum_by (λ (c : Counted). c.count)) tables n [] inside in omega (arith, so_far, own, more)

pub ruleset where_steps = (where_none, where_step, few_step)

-- all columns have all samples
all_below : (tables : List (List Counted)) (n : ℕ) → n ≤ length tables → samples_where (λ column. true) tables n ≡ sum_by (sum_by (λ c. c.count)) (take n tables)
all_below tables zero few = sym (where_none (λ column. true) tables)
all_below tables (suc n) few =
    let add : suc n ≡ n + 1 = omega arith in
    ap (samples_where (λ column. true) tables) add ∙ where_more (λ column. true) tables n ∙ ap (λ (k : ℕ). k + samples_of_column tables n) (all_below tables n (omega arith))
    ∙ sym (sum_by_more (sum_by (λ (c : Counted). c.count)) tables n [] (omega arith)) ∙ ap (λ (k : ℕ). sum_by (sum_by (λ (c : Counted). c.count)) (take k tables)) (sym add)

pub where_all : (tables : List (List Counted)) → samples_where (λ column. true) tables (length tables) ≡ samples_in tables
where_all tables = all_below tables (length tables) (omega arith) ∙ ap (sum_by (sum_by (λ (c : Counted). c.count))) (take_all (length tables) tables (omega arith))

-- ---- the samples of a run

-- what the counted paths' law says
abbrev pub EachCounted : Type 0
EachCounted = (columns column : ℕ) (samples : List ColumnRaw) → column < columns → samples_of_column (distinct columns samples) column ≡ count_by (λ s. s.column == column) samples

-- whether a sample is of one of the first columns, and of one that passes the test
abbrev is_hit : (ℕ → Bool) → ℕ → ColumnRaw → Bool
is_hit test n s = test s.column && nat_lt s.column n

-- a test of the columns below one more column
below_other : (n column : ℕ) → ¬ (column ≡ n) → nat_lt column (n + 1) ≡ nat_lt column n
below_other n column other = elim (cases_lt column n) [
  | inl below ↦ lt-ltb column (n + 1) (omega arith) ∙ sym (lt-ltb column n below)
  | inr above ↦ (
      let past : n + 1 ≤ column = elim (cases_lt n column) [ inl more ↦ omega arith | inr less ↦ absurd (other (omega arith)) ] in
      le-ltb column (n + 1) past ∙ sym (le-ltb column n above)
      )
]

one_hit : (test : ℕ → Bool) (n column : ℕ) → cond (test column && nat_lt column (n + 1)) 1 0 ≡ cond (test column && nat_lt column n) 1 0 + cond (test n) (cond (column == n) 1 0) 0
one_hit test n column = elim (eqb_tells column n) [
  | inl same ↦ (
      subst (λ (c : ℕ). cond (test c && nat_lt c (n + 1)) 1 0 ≡ cond (test c && nat_lt c n) 1 0 + cond (test n) (cond (c == n) 1 0) 0) (sym same.1)
      (itself (test n) (nat_lt n (n + 1)) (nat_lt n n) (n == n) (lt-ltb n (n + 1) (omega arith)) (le-ltb n n (omega arith)) (eq-eqb n n refl))
      )
  | inr other ↦ differs (test column) (test n) (nat_lt column (n + 1)) (nat_lt column n) (column == n) (below_other n column other.1) other.0
]
  where
    itself : (t more below same : Bool) → more ≡ true → below ≡ false → same ≡ true → cond (t && more) 1 0 ≡ cond (t && below) 1 0 + cond t (cond same 1 0) 0
    itself true more below same em eb es = ap (λ (b : Bool). cond b 1 0) em ∙ (λ i. cond (sym eb i) 1 0 + cond (sym es i) 1 0)
    itself false more below same em eb es = refl

    differs : (t u more below same : Bool) → more ≡ below → same ≡ false → cond (t && more) 1 0 ≡ cond (t && below) 1 0 + cond u (cond same 1 0) 0
    differs t true more below same em es = ap (λ (b : Bool). cond (t && b) 1 0) em ∙ sym (add-zero (cond (t && below) 1 0)) ∙ ap (λ (b : Bool). cond (t && below) 1 0 + cond b 1 0) (sym es)
    differs t false more below same em es = ap (λ (b : Bool). cond (t && b) 1 0) em ∙ sym (add-zero (cond (t && below) 1 0))

-- a number of a first element and those of the others, where a test passes
added : (t : Bool) (all one rest : ℕ) → all ≡ one + rest → cond t all 0 ≡ cond t one 0 + cond t rest 0
added true all one rest e = e
added false all one rest e = refl

nothing_added : (t : Bool) → 0 ≡ 0 + cond t 0 0
nothing_added true = refl
nothing_added false = refl

-- 1 where a test passes
abbrev one_of : Bool → ℕ
one_of b = cond b 1 0

-- the samples of the first columns, and of one column more
hits_more : (test : ℕ → Bool) (n : ℕ) (samples : List ColumnRaw) → count_by (is_hit test (n + 1)) samples ≡ count_by (is_hit test n) samples + cond (test n) (count_by (λ s. s.column == n) samples) 0
hits_more test n [] = nothing_added (test n)
hits_more test n (s ∷ rest) =
    let more = hits_more test n rest in
    let one = one_hit test n s.column in
    let all = sum_by-cons (λ (s : ColumnRaw). cond (is_hit test (n + 1) s) 1 0) s rest in
    let here = sum_by-cons (λ (s : ColumnRaw). cond (is_hit test n s) 1 0) s rest in
    let own = added (test n) (count_by (λ s. s.column == n) (s ∷ rest)) (cond (s.column == n) 1 0) (count_by (λ s. s.column == n) rest) (sum_by-cons (λ (s : ColumnRaw). cond (s.column == n) 1 0) s rest) in
    omega (arith, more, one, all, here, own)

no_hits : (test : ℕ → Bool) (samples : List ColumnRaw) → 0 ≡ count_by (is_hit test 0) samples
no_hits test [] = refl
no_hits test (s ∷ rest) =
    let all = sum_by-cons (λ (s : ColumnRaw). cond (is_hit test 0 s) 1 0) s rest in
    let here : one_of (is_hit test 0 s) ≡ 0 = ap (λ (b : Bool). one_of (test s.column && b)) (le-ltb s.column 0 (omega arith)) ∙ ap one_of (never (test s.column)) in
    let more = no_hits test rest in omega (arith, all, here, more)
  where
    never : (t : Bool) → (t && false) ≡ false
    never true = refl
    never false = refl

-- the counted paths of columns that pass a test have the samples of these
hits : EachCounted → (test : ℕ → Bool) (columns n : ℕ) (samples : List ColumnRaw) → n ≤ columns → samples_where test (distinct columns samples) n ≡ count_by (is_hit test n) samples
hits each test columns zero samples few = sym (where_none test (distinct columns samples)) ∙ no_hits test samples
hits each test columns (suc n) samples few =
    let add : suc n ≡ n + 1 = omega arith in
    ap (samples_where test (distinct columns samples)) add ∙ where_more test (distinct columns samples) n
    ∙ (let first = hits each test columns n samples (omega arith) in let own = each columns n samples (omega arith) in λ i. first i + cond (test n) (own i) 0)
    ∙ sym (hits_more test n samples) ∙ ap (λ (k : ℕ). count_by (is_hit test k) samples) (sym add)

-- where all samples are of the first columns, a test of columns counts the same with and without these
all_hit : (test : ℕ → Bool) (n : ℕ) (samples : List ColumnRaw) → count_by (is_hit (λ column. true) n) samples ≡ length samples → count_by (is_hit test n) samples ≡ count_by (λ s. test s.column) samples
all_hit test n [] all = refl
all_hit test n (s ∷ rest) all =
    let first = sum_by-cons (λ (s : ColumnRaw). cond (nat_lt s.column n) 1 0) s rest in
    let few = count_by-le-length (is_hit (λ column. true) n) rest in
    let own = within (nat_lt s.column n) (count_by (is_hit (λ column. true) n) rest) (length rest) (sym first ∙ all) few in
    let more = all_hit test n rest own.1 in
    let left = sum_by-cons (λ (s : ColumnRaw). cond (is_hit test n s) 1 0) s rest in
    let right = sum_by-cons (λ (s : ColumnRaw). cond (test s.column) 1 0) s rest in
    let same : one_of (is_hit test n s) ≡ one_of (test s.column) = ap (λ (b : Bool). one_of (test s.column && b)) own.0 ∙ ap one_of (whole (test s.column)) in
    omega (arith, more, left, right, same)
  where
    whole : (t : Bool) → (t && true) ≡ t
    whole true = refl
    whole false = refl

    within : (b : Bool) (some all : ℕ) → cond b 1 0 + some ≡ suc all → some ≤ all → (b ≡ true) × (some ≡ all)
    within true some all e few = (refl, omega (arith, e))
    within false some all e few = absurd (omega (arith, e, few))

-- the counted paths of columns that pass a test have all samples that pass it
pub where_counts : EachCounted → (test : ℕ → Bool) (tables : List (List Counted)) (samples : List ColumnRaw) → tables ≡ distinct (length tables) samples → samples_in tables ≡ length samples
    → samples_where test tables (length tables) ≡ count_by (λ s. test s.column) samples
where_counts each test tables samples are all =
    let of_test : (t : ℕ → Bool) → samples_where t tables (length tables) ≡ count_by (is_hit t (length tables)) samples =
    λ t. ap (λ (ts : List (List Counted)). samples_where t ts (length tables)) are ∙ hits each t (length tables) (length tables) samples (omega arith) in
    of_test test ∙ all_hit test (length tables) samples (sym (of_test (λ column. true)) ∙ where_all tables ∙ all)
