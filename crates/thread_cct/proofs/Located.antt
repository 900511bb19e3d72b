-- Where the paths of each column are in the plan, and how many there are.
use Rattle.std.proofs.Common.{◌≡◌, ℕ, zero, suc, ◌+◌, ◌-◌, ◌*◌, ◌<◌, ◌≤◌, ◌^◌, cond, List, [], ◌∷◌, ◌++◌, length, map, take, drop, ◌/◌, get_or, sum_by, All, Some, Ok, Err, refl, sym, ap, subst, ◌∙◌, arith, inl, inr}
use Rattle.std.specs.Prelude.{slice_get, slice_index_or, min}
use Rattle.std.specs.List.{flat_map, enumerate_from}
use Rattle.std.proofs.lemmas.Bool.{cases_lt, le-ltb, lt-ltb}
use Rattle.std.proofs.lemmas.List.{take_more, take_all, length-append, length-map, length-drop, get_or_default}
use Rattle.std.proofs.lemmas.List.Elements.{All-head, All-tail, All-append, All-nil, All-map, All-weaker}
use Rattle.std.proofs.lemmas.List.Sums.{sum_by-cons, sum_by-append, sum_by_more_le}
use Rattle.std.proofs.lemmas.Option.{get_or_from_slice_get, slice_get-map}
use Rattle.std.specs.Option.{option_map}
use Rattle.std.proofs.lemmas.List.FromFn.{get_or-map-range_with_len}
use Rattle.scope_types.specs.declared.frame.Counted.{Counted}
use Rattle.scope_types.specs.declared.path.Entry.{Entry}
use Rattle.scope_types.specs.declared.scope.Scope.{Scope}
use Rattle.scope_types.specs.Raw.{Raw}
use Rattle.scope_types.specs.Distinct.{path_scopes, scopes_in, samples_in}
use Rattle.scope_types.specs.Limits.{most_scopes_in_all, most_samples}
use Rattle.thread_cct.specs.Plan.{PlannedPath, Planned, paths_of_column, plan_of, planned_scopes, few_scopes, too_many_scopes, FitsExpansion, expanded, expanded_path}
use Rattle.thread_cct.specs.private.Index.{first_paths, IsIndexed, IsLastFrom}
use Rattle.thread_cct.proofs.Paths.{HasCount, count_of, paths_below}

abbrev pub Tables : Type 0
Tables = List (List Counted)

abbrev sizes : Tables → ℕ
sizes tables = sum_by (λ (t : List Counted). length t) tables

abbrev pub paths_from : ℕ → Tables → List PlannedPath
paths_from first tables = flat_map paths_of_column (enumerate_from first tables)

abbrev pub planned : ℕ → Counted → PlannedPath
planned column c = record { column = column; path = c.path; count = c.count }

-- ---- how many

paths_from_length : (first : ℕ) (tables : Tables) → length (paths_from first tables) ≡ sizes tables
paths_from_length first [] = refl
paths_from_length first (t ∷ tables) =
    let parts = length-append (paths_of_column (first, t)) (paths_from (first + 1) tables) in
    let own = length-map t (planned first) in
    let rest = paths_from_length (first + 1) tables in
    let all = sum_by-cons (λ (t : List Counted). length t) t tables in
    omega (arith, parts, own, rest, all)

pub plan_length : (tables : Tables) → length (plan_of tables).paths ≡ sum_by (λ t. length t) tables
plan_length tables = paths_from_length 0 tables

sizes_few : (tables : Tables) → All (All HasCount) tables → sizes tables ≤ samples_in tables
sizes_few [] all = omega arith
sizes_few (t ∷ tables) all =
    let own = paths_below t (All-head (All HasCount) t tables all) in
    let rest = sizes_few tables (All-tail (All HasCount) t tables all) in
    let parts = sum_by-cons (λ (t : List Counted). length t) t tables in
    let sums = sum_by-cons (sum_by count_of) t tables in
    omega (arith, own, rest, parts, sums)

-- ---- the first paths' numbers

firsts_length : (before : ℕ) (tables : Tables) → length (first_paths before tables) ≡ length tables
firsts_length before [] = refl
firsts_length before (t ∷ tables) = (let rest = firsts_length (before + length t) tables in omega (arith, rest))

firsts_from : (before : ℕ) (tables : Tables) (i d : ℕ) → i < length tables → before ≤ get_or (first_paths before tables) i d
firsts_from before [] i d lt = absurd (omega arith)
firsts_from before (t ∷ tables) zero d lt = omega arith
firsts_from before (t ∷ tables) (suc i) d lt = (let rest = firsts_from (before + length t) tables i d (omega arith) in omega (arith, rest))

firsts_rise : (before : ℕ) (tables : Tables) (i j d : ℕ) → i ≤ j → j < length tables → get_or (first_paths before tables) i d ≤ get_or (first_paths before tables) j d
firsts_rise before [] i j d le lt = absurd (omega arith)
firsts_rise before (t ∷ tables) zero zero d le lt = omega arith
firsts_rise before (t ∷ tables) zero (suc j) d le lt = (let rest = firsts_from (before + length t) tables j d (omega arith) in omega (arith, rest))
firsts_rise before (t ∷ tables) (suc i) zero d le lt = absurd (omega arith)
firsts_rise before (t ∷ tables) (suc i) (suc j) d le lt = firsts_rise (before + length t) tables i j d (omega arith) (omega arith)

firsts_last : (before : ℕ) (tables : Tables) (t : List Counted) → first_paths before (tables ++ t ∷ []) ≡ first_paths before tables ++ (before + sizes tables) ∷ []
firsts_last before [] t = let none : before ≡ before + sizes [] = omega arith in ap (λ (n : ℕ). n ∷ []) none
firsts_last before (u ∷ tables) t =
    let parts = sum_by-cons (λ (t : List Counted). length t) u tables in
    let same : before + length u + sizes tables ≡ before + sizes (u ∷ tables) = omega (arith, parts) in
    ap (λ (ns : List ℕ). before ∷ ns) (firsts_last (before + length u) tables t ∙ ap (λ (n : ℕ). first_paths (before + length u) tables ++ n ∷ []) same)

-- one column more
pub firsts_more : (tables : Tables) (column : ℕ) (firsts new : List ℕ) (paths : ℕ) → column < length tables → firsts ≡ first_paths 0 (take column tables) → paths ≡ sum_by (λ t. length t) (take column tables) → new ≡ firsts ++ paths ∷ []
    → new ≡ first_paths 0 (take (column + 1) tables)
firsts_more tables column firsts new paths lt so_far count put =
    let none : paths ≡ 0 + sizes (take column tables) = omega (arith, count) in
    put ∙ ap (λ (ns : List ℕ). ns ++ paths ∷ []) so_far ∙ ap (λ (n : ℕ). first_paths 0 (take column tables) ++ n ∷ []) none
    ∙ sym (firsts_last 0 (take column tables) (get_or tables column [])) ∙ ap (first_paths 0) (sym (take_more tables column [] lt))

sum_one_more : (f : List Counted → ℕ) (tables : Tables) (column : ℕ) → column < length tables → sum_by f (take (column + 1) tables) ≡ sum_by f (take column tables) + f (get_or tables column [])
sum_one_more f tables column lt =
    let parts = sum_by-append f (take column tables) (get_or tables column [] ∷ []) in
    let last = sum_by-cons f (get_or tables column []) [] in
    ap (sum_by f) (take_more tables column [] lt) ∙ omega (arith, parts, last)

pub paths_more_of : (tables : Tables) (column paths more : ℕ) → column < length tables → paths ≡ sum_by (λ t. length t) (take column tables) → more ≡ length (slice_index_or tables column [])
    → paths + more ≡ sum_by (λ t. length t) (take (column + 1) tables)
paths_more_of tables column paths more lt so_far is = let one = sum_one_more (λ t. length t) tables column lt in omega (arith, one, so_far, is)

pub paths_fit : (tables : Tables) (column paths more : ℕ) → column < length tables → paths ≡ sum_by (λ t. length t) (take column tables) → more ≡ length (slice_index_or tables column [])
    → samples_in tables ≤ most_samples → All (All (λ c. 0 < c.count)) tables → paths + more < 2 ^ 32
paths_fit tables column paths more lt so_far is few counted =
    let some = sum_by_more_le (λ (t : List Counted). length t) tables column [] lt in
    let all = sizes_few tables counted in
    omega (arith, some, all, so_far, is, few)

-- ---- scopes, as far as their number fits

abbrev top : ℕ
top = 2 ^ 64 - 1

pub scopes_more : (call_path : Raw → List Scope) (tables : Tables) (column scopes more : ℕ) → column < length tables → scopes ≡ min (sum_by (sum_by (path_scopes call_path)) (take column tables)) (2 ^ 64 - 1)
    → more ≡ min (sum_by (path_scopes call_path) (slice_index_or tables column [])) (2 ^ 64 - 1)
    → min (scopes + more) (2 ^ 64 - 1) ≡ min (sum_by (sum_by (path_scopes call_path)) (take (column + 1) tables)) (2 ^ 64 - 1)
scopes_more call_path tables column scopes more lt so_far is =
    let one = sum_one_more (sum_by (path_scopes call_path)) tables column lt in
    omega (arith, one, so_far, is)

pub own_scopes_more : (call_path : Raw → List Scope) (cs : List Counted) (i scopes more : ℕ) (c : Counted) → i < length cs → slice_get cs i ≡ Some c → more ≡ length (call_path c.path) → more < 2 ^ 64
    → scopes ≡ min (sum_by (path_scopes call_path) (take i cs)) (2 ^ 64 - 1)
    → min (scopes + more) (2 ^ 64 - 1) ≡ min (sum_by (path_scopes call_path) (take (i + 1) cs)) (2 ^ 64 - 1)
own_scopes_more call_path cs i scopes more c lt at is small so_far =
    let same : get_or cs i c ≡ c = get_or_from_slice_get cs i c c at in
    let parts = sum_by-append (path_scopes call_path) (take i cs) (get_or cs i c ∷ []) in
    let last = sum_by-cons (path_scopes call_path) (get_or cs i c) [] in
    let one : sum_by (path_scopes call_path) (take (i + 1) cs) ≡ sum_by (path_scopes call_path) (take i cs) + length (call_path c.path) =
    ap (sum_by (path_scopes call_path)) (take_more cs i c lt) ∙ parts ∙ ap (λ (n : ℕ). sum_by (path_scopes call_path) (take i cs) + n) (omega (arith, last) ∙ ap (path_scopes call_path) same) in
    omega (arith, one, so_far, is, small)

table_scopes : (call_path : Raw → List Scope) (column : ℕ) (cs : List Counted) → sum_by (λ (p : PlannedPath). length (call_path p.path)) (map (planned column) cs) ≡ sum_by (path_scopes call_path) cs
table_scopes call_path column [] = refl
table_scopes call_path column (c ∷ cs) =
    let f : PlannedPath → ℕ = λ p. length (call_path p.path) in
    let a = sum_by-cons f (planned column c) (map (planned column) cs) in
    let b = sum_by-cons (path_scopes call_path) c cs in
    let rest = table_scopes call_path column cs in
    omega (arith, a, b, rest)

tables_scopes : (call_path : Raw → List Scope) (first : ℕ) (tables : Tables) → sum_by (λ (p : PlannedPath). length (call_path p.path)) (paths_from first tables) ≡ scopes_in call_path tables
tables_scopes call_path first [] = refl
tables_scopes call_path first (t ∷ tables) =
    let f : PlannedPath → ℕ = λ p. length (call_path p.path) in
    let a = sum_by-append f (map (planned first) t) (paths_from (first + 1) tables) in
    let b = sum_by-cons (sum_by (path_scopes call_path)) t tables in
    let own = table_scopes call_path first t in
    let rest = tables_scopes call_path (first + 1) tables in
    omega (arith, a, b, own, rest)

-- the plan's scopes are those of the counted paths
pub scopes_planned : (call_path : Raw → List Scope) (tables : Tables) → planned_scopes call_path (plan_of tables) ≡ scopes_in call_path tables
scopes_planned call_path tables = tables_scopes call_path 0 tables

-- ---- the path with a number

get_left : {X : Type 0} (xs ys : List X) (i : ℕ) (x : X) → slice_get xs i ≡ Some x → slice_get (xs ++ ys) i ≡ Some x
get_left [] ys i x e = absurd cc
get_left (y ∷ xs) ys zero x e = e
get_left (y ∷ xs) ys (suc i) x e = get_left xs ys i x e

get_right : {X : Type 0} (xs ys : List X) (i k : ℕ) → i ≡ length xs + k → slice_get (xs ++ ys) i ≡ slice_get ys k
get_right [] ys i k at = let same : i ≡ k = omega arith in ap (slice_get ys) same
get_right (x ∷ xs) ys zero k at = absurd (omega arith)
get_right (x ∷ xs) ys (suc i) k at = get_right xs ys i k (omega arith)

-- that a column's paths hold the one with a number
pub record Located (tables : Tables) (first before number column : ℕ) : Type 0 where
  pub column_in : column < length tables
  pub from : get_or (first_paths before tables) column 0 ≤ number
  pub inside : number - get_or (first_paths before tables) column 0 < length (get_or tables column [])
  pub is : (c : Counted) → slice_get (get_or tables column []) (number - get_or (first_paths before tables) column 0) ≡ Some c
      → slice_get (paths_from first tables) (number - before) ≡ Some (planned (first + column) c)

located : (tables : Tables) (first before number column : ℕ) → before ≤ number → number < before + sizes tables
    → IsLastFrom (first_paths before tables) number column → column < length tables → Located tables first before number column
located [] first before number column le lt last few = absurd (omega arith)
located (t ∷ tables) first before number zero le lt last few =
    let parts = sum_by-cons (λ (t : List Counted). length t) t tables in
    let within : number - before < length t = in_first tables parts last.above lt in
    record {
      column_in = few;
      from = le;
      inside = within;
      is = λ c at.
          let same : first + 0 ≡ first = omega arith in
          get_left (map (planned first) t) (paths_from (first + 1) tables) (number - before) (planned first c) (slice_get-map (planned first) t (number - before) ∙ ap (option_map (planned first)) at)
          ∙ ap (λ (n : ℕ). Some (planned n c)) (sym same);
    }
  where
    in_first : (rest : Tables) → sizes (t ∷ rest) ≡ length t + sizes rest → ((i : ℕ) → 0 < i → i < length (first_paths before (t ∷ rest)) → number < get_or (first_paths before (t ∷ rest)) i 0)
        → number < before + sizes (t ∷ rest) → number - before < length t
    in_first [] parts high lt = omega (arith, parts, lt)
    in_first (u ∷ rest) parts high lt = (let next : number < before + length t = high 1 (omega arith) (omega arith) in omega (arith, next))
located (t ∷ tables) first before number (suc column) le lt last few =
    let parts = sum_by-cons (λ (t : List Counted). length t) t tables in
    let long = firsts_length (before + length t) tables in
    let next : get_or (first_paths (before + length t) tables) 0 0 ≤ number = last.below 1 (omega arith) (omega (arith, long, few)) in
    let past : before + length t ≤ number = (let from = firsts_from (before + length t) tables 0 0 (omega (arith, few)) in omega (arith, next, from)) in
    let rest = located tables (first + 1) (before + length t) number column past (omega (arith, parts, lt))
    (record { below = λ i less inside. last.below (suc i) (omega arith) (omega arith); above = λ i less inside. last.above (suc i) (omega arith) (omega arith) }) (omega (arith, few)) in
    record {
      column_in = few;
      from = rest.from;
      inside = rest.inside;
      is = λ c at.
          let own = length-map t (planned first) in
          let same : first + 1 + column ≡ first + suc column = omega arith in
          get_right (map (planned first) t) (paths_from (first + 1) tables) (number - before) (number - (before + length t)) (omega (arith, past, own))
          ∙ rest.is c at ∙ ap (λ (n : ℕ). Some (planned n c)) same;
    }

-- the column of a path of the plan, and its place among the column's paths
pub found : (tables : Tables) (numbers : List ℕ) (paths number column : ℕ) → IsIndexed tables numbers paths → number < length (plan_of tables).paths → IsLastFrom numbers number column → column < length numbers
    → Located tables 0 0 number column
found tables numbers paths number column index inside last few =
    let long = ap length index.firsts in
    let all = firsts_length 0 tables in
    let size = plan_length tables in
    located tables 0 0 number column (omega arith) (omega (arith, inside, size)) (subst (λ (ns : List ℕ). IsLastFrom ns number column) index.firsts last) (omega (arith, long, all, few))

-- the first column's paths begin at 0
pub begins_low : (tables : Tables) (numbers : List ℕ) (paths number : ℕ) → IsIndexed tables numbers paths → number < length (plan_of tables).paths
    → (0 < length numbers) × (get_or numbers 0 0 ≤ number)
begins_low [] numbers paths number index inside = absurd (omega arith)
begins_low (t ∷ tables) numbers paths number index inside =
    let long = ap length index.firsts in
    let low = ap (λ (ns : List ℕ). get_or ns 0 0) index.firsts in
    (omega (arith, long), omega (arith, low))

pub numbers_rise : (tables : Tables) (numbers : List ℕ) (paths : ℕ) → IsIndexed tables numbers paths → (i j d : ℕ) → i ≤ j → j < length numbers → get_or numbers i d ≤ get_or numbers j d
numbers_rise tables numbers paths index i j d le lt =
    let long = ap length index.firsts in
    let all = firsts_length 0 tables in
    let rise = firsts_rise 0 tables i j d le (omega (arith, lt, long, all)) in
    let a = ap (λ (ns : List ℕ). get_or ns i d) index.firsts in
    let b = ap (λ (ns : List ℕ). get_or ns j d) index.firsts in
    omega (arith, rise, a, b)

-- ---- the plan itself

pub refused : (call_path : Raw → List Scope) (tables : Tables) (column scopes : ℕ) → length tables ≤ column → scopes ≡ min (sum_by (sum_by (path_scopes call_path)) (take column tables)) (2 ^ 64 - 1) → most_scopes_in_all < scopes
    → few_scopes call_path tables ≡ Err too_many_scopes
refused call_path tables column scopes le is many =
    let all = ap (λ (ts : Tables). scopes_in call_path ts) (take_all column tables le) in
    let lots : most_scopes_in_all < scopes_in call_path tables = omega (arith, all, is, many) in
    ap (λ b. cond b (Err too_many_scopes) (Ok (plan_of tables))) (lt-ltb most_scopes_in_all (scopes_in call_path tables) lots)

small_enough : (n scopes : ℕ) → scopes ≡ min n top → scopes ≤ most_scopes_in_all → n ≤ most_scopes_in_all
small_enough n scopes is few = omega arith

pub accepted : (call_path : Raw → List Scope) (tables : Tables) (column scopes : ℕ) → length tables ≤ column → scopes ≡ min (sum_by (sum_by (path_scopes call_path)) (take column tables)) (2 ^ 64 - 1) → scopes ≤ most_scopes_in_all
    → (few_scopes call_path tables ≡ Ok (plan_of tables)) × FitsExpansion (plan_of tables) call_path
accepted call_path tables column scopes le is few =
    let all = ap (λ (ts : Tables). scopes_in call_path ts) (take_all column tables le) in
    let some : scopes_in call_path tables ≤ most_scopes_in_all = small_enough (scopes_in call_path tables) scopes (is ∙ ap (λ (n : ℕ). min n (2 ^ 64 - 1)) all) few in
    let planned_few = scopes_planned call_path tables in
    (ap (λ b. cond b (Err too_many_scopes) (Ok (plan_of tables))) (le-ltb most_scopes_in_all (scopes_in call_path tables) some), record { few = omega (arith, some, planned_few) })

pub indexed : (tables : Tables) (column paths : ℕ) (numbers : List ℕ) → length tables ≤ column → length tables < 2 ^ 32 → numbers ≡ first_paths 0 (take column tables) → paths ≡ sum_by (λ t. length t) (take column tables)
    → samples_in tables ≤ most_samples → All (All (λ c. 0 < c.count)) tables → IsIndexed tables numbers paths
indexed tables column paths numbers le columns so_far is few counted =
    let all = ap sizes (take_all column tables le) in
    let long = plan_length tables in
    let some = sizes_few tables counted in
    record {
      columns = columns;
      firsts = so_far ∙ ap (first_paths 0) (take_all column tables le);
      is = omega (arith, all, long, is);
      few = omega (arith, all, is, some);
      samples = few;
    }

pub ruleset starting = (firsts_more, paths_more_of, paths_fit, scopes_more, refused, indexed)

-- what a look-up of the plan rests on: the column's first number is `begin`
pub record Placed (tables : Tables) (number column begin : ℕ) : Type 0 where
  pub column_in : column < length tables
  pub from : begin ≤ number
  pub inside : number - begin < length (slice_index_or tables column [])
  pub is : (c : Counted) → slice_get (slice_index_or tables column []) (number - begin) ≡ Some c → slice_get (plan_of tables).paths number ≡ Some (record { column = column; path = c.path; count = c.count })

pub placed : (tables : Tables) (now : Planned) (numbers shown : List ℕ) (paths number column begin : ℕ) → IsIndexed tables numbers paths → plan_of tables ≡ now → number < length now.paths → shown ≡ numbers
    → IsLastFrom shown number column → column < length shown → begin ≡ get_or numbers column begin → Placed tables number column begin
placed tables now numbers shown paths number column begin index view inside same last few is =
    let own : number < length (plan_of tables).paths = subst (λ (p : Planned). number < length p.paths) (sym view) inside in
    let few_here : column < length numbers = subst (λ (ns : List ℕ). column < length ns) same few in
    let loc = found tables numbers paths number column index own (subst (λ (ns : List ℕ). IsLastFrom ns number column) same last) few_here in
    let begins : begin ≡ get_or (first_paths 0 tables) column 0 = is ∙ get_or_default numbers column begin 0 few_here ∙ ap (λ (ns : List ℕ). get_or ns column 0) index.firsts in
    record {
      column_in = loc.column_in;
      from = subst (λ (b : ℕ). b ≤ number) (sym begins) loc.from;
      inside = subst (λ (b : ℕ). number - b < length (slice_index_or tables column [])) (sym begins) loc.inside;
      is = λ c at.
          let none : number - 0 ≡ number = omega arith in
          let first : 0 + column ≡ column = omega arith in
          ap (slice_get (plan_of tables).paths) (sym none)
          ∙ loc.is c (subst (λ (b : ℕ). slice_get (slice_index_or tables column []) (number - b) ≡ Some c) begins at)
          ∙ ap (λ (n : ℕ). Some (planned n c)) first;
    }

-- ---- what is in the plan

table_counts : (column : ℕ) (cs : List Counted) → sum_by (λ (p : PlannedPath). p.count) (map (planned column) cs) ≡ sum_by count_of cs
table_counts column [] = refl
table_counts column (c ∷ cs) =
    let a = sum_by-cons (λ (p : PlannedPath). p.count) (planned column c) (map (planned column) cs) in
    let b = sum_by-cons count_of c cs in
    let rest = table_counts column cs in
    omega (arith, a, b, rest)

tables_counts : (first : ℕ) (tables : Tables) → sum_by (λ (p : PlannedPath). p.count) (paths_from first tables) ≡ samples_in tables
tables_counts first [] = refl
tables_counts first (t ∷ tables) =
    let a = sum_by-append (λ (p : PlannedPath). p.count) (map (planned first) t) (paths_from (first + 1) tables) in
    let b = sum_by-cons (sum_by count_of) t tables in
    let own = table_counts first t in
    let rest = tables_counts (first + 1) tables in
    omega (arith, a, b, own, rest)

pub counts_planned : (tables : Tables) (now : Planned) (numbers : List ℕ) (paths : ℕ) → IsIndexed tables numbers paths → plan_of tables ≡ now → sum_by (λ p. p.count) now.paths ≤ most_samples
counts_planned tables now numbers paths index view =
    let all = tables_counts 0 tables in
    let few = index.samples in
    subst (λ (p : Planned). sum_by (λ p. p.count) p.paths ≤ most_samples) view (omega (arith, all, few))

tables_below : (first : ℕ) (tables : Tables) → All (λ (p : PlannedPath). p.column < first + length tables) (paths_from first tables)
tables_below first [] = All-nil (λ (p : PlannedPath). p.column < first + 0)
tables_below first (t ∷ tables) =
    let P : PlannedPath → Type 0 = λ p. p.column < first + length (t ∷ tables) in
    All-append P (map (planned first) t) (paths_from (first + 1) tables)
    (All-map P (planned first) t (λ i d lt. omega arith))
    (All-weaker (λ (p : PlannedPath). p.column < first + 1 + length tables) P (λ p h. omega arith) (paths_from (first + 1) tables) (tables_below (first + 1) tables))

pub columns_planned : (tables : Tables) (now : Planned) (columns : ℕ) → plan_of tables ≡ now → columns ≡ length tables → All (λ p. p.column < columns) now.paths
columns_planned tables now columns view is =
    subst (λ (p : Planned). All (λ p. p.column < columns) p.paths) view
    (subst (λ (n : ℕ). All (λ (p : PlannedPath). p.column < n) (paths_from 0 tables)) (let none : 0 + length tables ≡ columns = omega arith in none) (tables_below 0 tables))

-- the first paths' numbers, as a call shows them
pub shown_low : (tables : Tables) (now : Planned) (numbers shown : List ℕ) (paths number : ℕ) → IsIndexed tables numbers paths → plan_of tables ≡ now → number < length now.paths → shown ≡ numbers
    → (0 < length shown) × (get_or shown 0 0 ≤ number)
shown_low tables now numbers shown paths number index view inside same =
    subst (λ (ns : List ℕ). (0 < length ns) × (get_or ns 0 0 ≤ number)) (sym same)
    (begins_low tables numbers paths number index (subst (λ (p : Planned). number < length p.paths) (sym view) inside))

pub shown_rise : (tables : Tables) (numbers shown : List ℕ) (paths : ℕ) → IsIndexed tables numbers paths → shown ≡ numbers → (i j d : ℕ) → i ≤ j → j < length shown → get_or shown i d ≤ get_or shown j d
shown_rise tables numbers shown paths index same =
    subst (λ (ns : List ℕ). (i j d : ℕ) → i ≤ j → j < length ns → get_or ns i d ≤ get_or ns j d) (sym same) (numbers_rise tables numbers paths index)

pub few_columns : (tables : Tables) (numbers shown : List ℕ) (paths column : ℕ) → IsIndexed tables numbers paths → shown ≡ numbers → column < length shown → column < 2 ^ 32
few_columns tables numbers shown paths column index same lt =
    let long = ap length (same ∙ index.firsts) in
    let all = firsts_length 0 tables in
    let few = index.columns in
    omega (arith, long, all, few, lt)

-- how many chunks there are
pub few_chunks : (tables : Tables) (now : Planned) (numbers : List ℕ) (paths : ℕ) → IsIndexed tables numbers paths → plan_of tables ≡ now → (length now.paths ≡ paths) × (paths ≤ 1048576)
few_chunks tables now numbers paths index view =
    let a = index.is in
    let b = index.few in
    let d = index.samples in
    (sym (index.is ∙ ap (λ (p : Planned). length p.paths) view), omega (arith, b, d))

-- ---- the paths of a chunk

-- a place in a chunk is one in the plan
pub index_in : (tables : Tables) (now : Planned) (numbers : List ℕ) (paths chunk place end : ℕ) → IsIndexed tables numbers paths → plan_of tables ≡ now → chunk < (length now.paths + 63) / 64
    → end ≡ min 64 (paths - chunk * 64) → place < end → chunk * 64 + place < length now.paths
index_in tables now numbers paths chunk place end index view own is lt =
    let few = few_chunks tables now numbers paths index view in
    omega (arith, few.0, few.1, own, is, lt)

pub chunk_in : (tables : Tables) (now : Planned) (numbers : List ℕ) (paths chunk : ℕ) → IsIndexed tables numbers paths → plan_of tables ≡ now → chunk < (length now.paths + 63) / 64
    → (chunk * 64 < 2 ^ 32) × (chunk * 64 ≤ paths)
chunk_in tables now numbers paths chunk index view own =
    let few = few_chunks tables now numbers paths index view in
    (omega (arith, few.0, few.1, own), omega (arith, few.0, few.1, own))

-- what was dealt is the whole chunk
pub chunk_whole : (call_path : Raw → List Scope) (tables : Tables) (now : Planned) (numbers : List ℕ) (paths chunk place end : ℕ) → IsIndexed tables numbers paths → plan_of tables ≡ now → chunk < (length now.paths + 63) / 64
    → end ≡ min 64 (paths - chunk * 64) → end ≤ place → place ≤ end
    → take place (drop (chunk * 64) (map (expanded_path call_path) now.paths)) ≡ slice_index_or (expanded now call_path) chunk []
unfolding expanded
chunk_whole call_path tables now numbers paths chunk place end index view own is le ge =
    let few = few_chunks tables now numbers paths index view in
    let all : List Entry = map (expanded_path call_path) now.paths in
    let size = length-map now.paths (expanded_path call_path) in
    let turned : chunk * 64 ≡ 64 * chunk = omega arith in
    let left = length-drop (chunk * 64) all in
    let taken : take place (drop (chunk * 64) all) ≡ take 64 (drop (chunk * 64) all) = elim (cases_lt (length now.paths) (64 + chunk * 64)) [
      | inl short ↦ take_all place (drop (chunk * 64) all) (omega (arith, short, few.0, is, le, left, size)) ∙ sym (take_all 64 (drop (chunk * 64) all) (omega (arith, short, left, size)))
      | inr long ↦ let same : place ≡ 64 = omega (arith, long, few.0, is, le, ge) in ap (λ (n : ℕ). take n (drop (chunk * 64) all)) same
    ] in
    taken ∙ ap (λ (n : ℕ). take 64 (drop n all)) turned
    ∙ sym (get_or-map-range_with_len (λ (c : ℕ). take 64 (drop (64 * c) all)) 0 ((length now.paths + 63) / 64) chunk chunk [] own (omega arith))
