-- The values of a node's list, and the paths that a content holds.
use Rattle.std.proofs.Common.{◌≡◌, ℕ, ◌+◌, ◌*◌, ◌/◌, ◌<◌, ◌≤◌, ◌^◌, ◌==◌, Bool, true, false, not, cond, List, [], ◌∷◌, length, map, get_or, take, replicate, sum_by, refl, sym, ap, ◌∙◌, arith}
use Rattle.std.specs.List.{flat_map, enumerate_from}
use Rattle.std.proofs.Math.Nat.{mul-le-mul_left}
use Rattle.std.proofs.lemmas.Bool.{eqb-true}
use Rattle.std.proofs.lemmas.List.{get_or-map, length-replicate, length-append, take_all}
use Rattle.std.proofs.lemmas.List.Concat.{length-flat_map}
use Rattle.std.proofs.lemmas.List.Sums.{sum_by-cons, sum_by_more, sum_by_more_le, get_or-le-sum_by}
use Rattle.scope_types.specs.CallPaths.{ColumnPath}
use Rattle.scope_types.specs.Limits.{most_samples}
use Rattle.tree_types.specs.declared.content.Content.{Content}
use Rattle.tree_types.specs.declared.content.ContextEntry.{ContextEntry}
use Rattle.tree_types.specs.declared.content.Kind.{Kind}
use Rattle.tree_types.specs.declared.content.Kind.TheVariants.{Exclusive, Frame, Inclusive}
use Rattle.tree_types.specs.declared.content.ProfileEntry.{ProfileEntry}
use Rattle.tree_types.specs.Ascending.{ascending}
use Rattle.tree_types.specs.Nodes.{nodes}
use Rattle.tree_types.specs.NodeValues.{kind_rank}
use Rattle.tree_types.specs.OfContent.{IsProfile}
use Rattle.tree_types.specs.Paths.{Path}
use Rattle.tree_types.specs.PathsOf.{entry_paths, is_exclusive, paths_of, tree_paths}
use Rattle.tree_types.specs.Planes.{context_entry, context_entries_of_kind, kinds, context_entries}
use Rattle.tree_types.specs.TopDown.{over_columns}
use Rattle.tree_types.specs.Values.{value, columns_below}
use Rattle.tree_types.proofs.Bounds.{small_product}
use Rattle.tree_types.proofs.ContentParts.{own_contexts, own_node_count, own_list_count, own_column_count}
use Rattle.tree_types.proofs.PathsAgain.{sum_by-filter, sum_by-flat_map, sum_by-map}
use Rattle.tree_types.proofs.Totals.{within_total}
use Rattle.view_tables.specs.private.Values.{amount, path_of_node, counted_by, total_value}

-- ---- a node's list

no_amount : (kind : Kind) (e : ContextEntry) → not (e.value == 0) ≡ false → amount kind e ≡ 0
no_amount kind e none =
    let z : e.value ≡ 0 = eqb-true e.value 0 (not_not (e.value == 0) none) in
    elim (kind_rank e.kind == kind_rank kind) as (λ b. cond b e.value 0 ≡ 0) [ true ↦ z | false ↦ refl ]
  where
    not_not : (b : Bool) → not b ≡ false → b ≡ true
    not_not true e = refl
    not_not false e = cc

zeros : (xs : List ℕ) → sum_by (λ x. 0) xs ≡ 0
zeros [] = refl
zeros (x ∷ xs) = sum_by-cons (λ (x : ℕ). 0) x xs ∙ ap (λ (k : ℕ). 0 + k) (zeros xs)

module _ (period columns : ℕ) (ps : List ColumnPath) (n : Path) where
  of_kind : (kind of : Kind) → sum_by (amount kind) (context_entries_of_kind (λ column. period) columns ps n of) ≡ sum_by (λ h. amount kind (context_entry of h (value period ps h n of))) (columns_below columns)
  of_kind kind of =
      sum_by-filter (amount kind) (λ e. not (e.value == 0)) (no_amount kind) (map (λ h. context_entry of h (value period ps h n of)) (columns_below columns))
      ∙ sum_by-map (amount kind) (λ h. context_entry of h (value period ps h n of)) (columns_below columns)

  parts : (kind : Kind) → sum_by (amount kind) (context_entries (λ column. period) columns ps n) ≡ sum_by (λ of. sum_by (amount kind) (context_entries_of_kind (λ column. period) columns ps n of)) kinds
  unfolding context_entries
  parts kind = sum_by-flat_map (amount kind) (context_entries_of_kind (λ column. period) columns ps n) kinds

  pub entry_sum_is : (kind : Kind) → sum_by (amount kind) (context_entries (λ column. period) columns ps n) ≡ over_columns period columns ps n kind
  entry_sum_is Exclusive =
      let a : sum_by (amount Exclusive) (context_entries_of_kind (λ column. period) columns ps n Exclusive) ≡ over_columns period columns ps n Exclusive = of_kind Exclusive Exclusive in
      let b : sum_by (amount Exclusive) (context_entries_of_kind (λ column. period) columns ps n Frame) ≡ 0 = of_kind Exclusive Frame ∙ zeros (columns_below columns) in
      let c : sum_by (amount Exclusive) (context_entries_of_kind (λ column. period) columns ps n Inclusive) ≡ 0 = of_kind Exclusive Inclusive ∙ zeros (columns_below columns) in
      parts Exclusive ∙ (λ i. ((0 + a i) + b i) + c i) ∙ omega arith
  entry_sum_is Frame =
      let a : sum_by (amount Frame) (context_entries_of_kind (λ column. period) columns ps n Exclusive) ≡ 0 = of_kind Frame Exclusive ∙ zeros (columns_below columns) in
      let b : sum_by (amount Frame) (context_entries_of_kind (λ column. period) columns ps n Frame) ≡ over_columns period columns ps n Frame = of_kind Frame Frame in
      let c : sum_by (amount Frame) (context_entries_of_kind (λ column. period) columns ps n Inclusive) ≡ 0 = of_kind Frame Inclusive ∙ zeros (columns_below columns) in
      parts Frame ∙ (λ i. ((0 + a i) + b i) + c i) ∙ omega arith
  entry_sum_is Inclusive =
      let a : sum_by (amount Inclusive) (context_entries_of_kind (λ column. period) columns ps n Exclusive) ≡ 0 = of_kind Inclusive Exclusive ∙ zeros (columns_below columns) in
      let b : sum_by (amount Inclusive) (context_entries_of_kind (λ column. period) columns ps n Frame) ≡ 0 = of_kind Inclusive Frame ∙ zeros (columns_below columns) in
      let c : sum_by (amount Inclusive) (context_entries_of_kind (λ column. period) columns ps n Inclusive) ≡ over_columns period columns ps n Inclusive = of_kind Inclusive Inclusive in
      parts Inclusive ∙ (λ i. ((0 + a i) + b i) + c i) ∙ omega arith

-- ---- the nodes of a content

pub as_many_nodes : (c : Content) → IsProfile c → length c.nodes ≡ length (nodes (paths_of c))
as_many_nodes c profile = own_node_count c profile.own

pub as_many_lists : (c : Content) → IsProfile c → length c.contexts ≡ length c.nodes
as_many_lists c profile = own_list_count c profile.own

pub entries_at : (c : Content) (number : ℕ) → IsProfile c → number < length c.nodes → get_or c.contexts number [] ≡ context_entries (λ column. c.period) c.columns (paths_of c) (path_of_node c number)
entries_at c number profile lt =
    ap (λ (lists : List (List ContextEntry)). get_or lists number []) (own_contexts c profile.own)
    ∙ get_or-map (context_entries (λ column. c.period) c.columns (paths_of c)) (nodes (paths_of c)) number [] [] (omega (arith, lt, as_many_nodes c profile))

pub value_is : (c : Content) (number : ℕ) (kind : Kind) → IsProfile c → number < length c.nodes
    → sum_by (amount kind) (get_or c.contexts number []) ≡ over_columns c.period c.columns (paths_of c) (path_of_node c number) kind
value_is c number kind profile lt = ap (sum_by (amount kind)) (entries_at c number profile lt) ∙ entry_sum_is c.period c.columns (paths_of c) (path_of_node c number) kind

pub value_within : (c : Content) (number : ℕ) (kind : Kind) → IsProfile c → number < length c.nodes → sum_by (amount kind) (get_or c.contexts number []) ≤ total_value c
value_within c number kind profile lt =
    let most = within_total c.period c.columns (paths_of c) (path_of_node c number) kind in
    let is = value_is c number kind profile lt in
    omega (arith, most, is)

some_path : (ps : List ColumnPath) (number : ℕ) → number < length (nodes ps) → 0 < length ps
unfolding nodes ascending
some_path [] number lt = absurd (omega arith)
some_path (p ∷ ps) number lt = omega arith

-- a content with a node holds a path
pub some_total : (c : Content) (number : ℕ) → IsProfile c → number < length c.nodes → 0 < total_value c
some_total c number profile lt =
    let many : number < length (nodes (paths_of c)) = omega (arith, lt, as_many_nodes c profile) in
    product_some c.period (length (paths_of c)) profile.period (some_path (paths_of c) number many)
  where
    product_some : (a b : ℕ) → 0 < a → 0 < b → 0 < a * b
    product_some a b ha hb = grind (arith, mul-le-mul_left)

pub ruleset value_steps = (value_is, value_within, as_many_lists, some_total)

-- ---- the number of paths

entry_count : (period column : ℕ) (paths : List Path) (e : ProfileEntry) → length (entry_paths period paths column e) ≡ counted_by period e
entry_count period column paths e =
    elim (is_exclusive e.kind) as (λ b. length (cond b (replicate (e.value / period) (copy column paths e)) []) ≡ cond b (e.value / period) 0) [
      | true ↦ length-replicate (e.value / period) (copy column paths e)
      | false ↦ refl
    ]
  where
    copy : ℕ → List Path → ProfileEntry → ColumnPath
    copy column paths e = record { column = column; path = get_or paths e.node [] }

entries_counted : (period column : ℕ) (paths : List Path) (es : List ProfileEntry) → length (flat_map (entry_paths period paths column) es) ≡ sum_by (counted_by period) es
entries_counted period column paths es = length-flat_map (entry_paths period paths column) es ∙ (λ i. sum_by (λ e. entry_count period column paths e i) es)

all_counts : (period first : ℕ) (paths : List Path) (lists : List (List ProfileEntry))
    → length (flat_map (λ numbered. flat_map (entry_paths period paths numbered.0) numbered.1) (enumerate_from first lists)) ≡ sum_by (λ entries. sum_by (counted_by period) entries) lists
all_counts period first paths [] = refl
all_counts period first paths (entries ∷ lists) =
    length-append (flat_map (entry_paths period paths first) entries) (flat_map (λ numbered. flat_map (entry_paths period paths numbered.0) numbered.1) (enumerate_from (first + 1) lists))
    ∙ (λ i. entries_counted period first paths entries i + all_counts period (first + 1) paths lists i)
    ∙ sym (sum_by-cons (λ (entries : List ProfileEntry). sum_by (counted_by period) entries) entries lists)

pub count_is : (c : Content) → length (paths_of c) ≡ sum_by (λ entries. sum_by (counted_by c.period) entries) c.profiles
unfolding paths_of
count_is c = all_counts c.period 0 (tree_paths c.nodes) c.profiles

pub as_many_columns : (c : Content) → IsProfile c → length c.profiles ≡ c.columns
as_many_columns c profile = own_column_count c profile.own

pub column_few : (c : Content) (column : ℕ) → IsProfile c → column < c.columns → sum_by (counted_by c.period) (get_or c.profiles column []) ≤ most_samples
column_few c column profile lt =
    let one = get_or-le-sum_by (λ entries. sum_by (counted_by c.period) entries) c.profiles column [] (omega (arith, as_many_columns c profile)) in
    omega (arith, one, count_is c, profile.samples)

pub column_more : (c : Content) (column count : ℕ) → IsProfile c → column < c.columns → count ≡ sum_by (λ entries. sum_by (counted_by c.period) entries) (take column c.profiles)
    → count + sum_by (counted_by c.period) (get_or c.profiles column []) ≡ sum_by (λ entries. sum_by (counted_by c.period) entries) (take (column + 1) c.profiles)
column_more c column count profile lt so_far =
    let more = sum_by_more (λ entries. sum_by (counted_by c.period) entries) c.profiles column [] (omega (arith, as_many_columns c profile)) in
    omega (arith, more, so_far)

pub count_few : (c : Content) (column count : ℕ) → IsProfile c → column < c.columns → count ≡ sum_by (λ entries. sum_by (counted_by c.period) entries) (take column c.profiles)
    → count + sum_by (counted_by c.period) (get_or c.profiles column []) ≤ most_samples
count_few c column count profile lt so_far =
    let more = sum_by_more_le (λ entries. sum_by (counted_by c.period) entries) c.profiles column [] (omega (arith, as_many_columns c profile)) in
    omega (arith, more, so_far, count_is c, profile.samples)

pub all_columns : (c : Content) (column count : ℕ) → IsProfile c → c.columns ≤ column → count ≡ sum_by (λ entries. sum_by (counted_by c.period) entries) (take column c.profiles) → count ≡ length (paths_of c)
all_columns c column count profile le so_far =
    so_far ∙ ap (sum_by (λ entries. sum_by (counted_by c.period) entries)) (take_all column c.profiles (omega (arith, as_many_columns c profile))) ∙ sym (count_is c)

pub ruleset sample_steps = (as_many_columns, column_few, column_more, count_few, all_columns)

pub total_small : (c : Content) → IsProfile c → c.period < 2 ^ 32 → total_value c < 2 ^ 52
total_small c profile low = small_product c.period (length (paths_of c)) low (omega (arith, profile.samples))

pub ruleset total_steps = (total_small, small_product)
