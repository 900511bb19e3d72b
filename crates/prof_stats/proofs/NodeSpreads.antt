-- The summary of a node's list is that of its values over the columns.
use Rattle.std.proofs.Common.{◌≡◌, ℕ, ◌+◌, ◌*◌, ◌^◌, ◌<◌, ◌≤◌, ◌==◌, Bool, true, false, cond, not, List, [], ◌∷◌, ◌++◌, length, map, get_or, take, filter, sum_by, refl, sym, ap, ◌∙◌, arith, append-nil, length-append}
use Rattle.std.proofs.lemmas.List.{get_or-map, map-append, take_all, take_more}
use Rattle.std.proofs.lemmas.List.Elements.{filter-append}
use Rattle.std.proofs.lemmas.List.FromFn.{length-map-range_with_len}
use Rattle.scope_types.specs.CallPaths.{ColumnPath}
use Rattle.tree_types.specs.declared.content.Content.{Content}
use Rattle.tree_types.specs.declared.content.ContextEntry.{ContextEntry}
use Rattle.tree_types.specs.declared.content.Kind.{Kind}
use Rattle.tree_types.specs.declared.content.Kind.TheVariants.{Exclusive, Frame, Inclusive}
use Rattle.tree_types.specs.Nodes.{nodes}
use Rattle.tree_types.specs.NodeValues.{kind_rank}
use Rattle.tree_types.specs.OfContent.{IsProfile}
use Rattle.tree_types.specs.Paths.{Path}
use Rattle.tree_types.specs.PathsOf.{paths_of}
use Rattle.tree_types.specs.Planes.{context_entries, context_entries_of_kind, context_entry}
use Rattle.tree_types.specs.Values.{columns_below, value}
use Rattle.tree_types.proofs.Bounds.{small_product}
use Rattle.tree_types.proofs.ContentParts.{own_contexts, own_list_count, own_node_count}
use Rattle.tree_types.proofs.PathsAgain.{sum_by-filter, sum_by-map}
use Rattle.tree_types.proofs.Totals.{within_total}
use Rattle.view_tables.specs.private.Values.{amount, path_of_node}
use Rattle.prof_stats.specs.declared.spread.NodeStats.{NodeStats}
use Rattle.prof_stats.specs.Stats.{above_zero, content_stats, node_stats, stats_of_paths, summary, values_over_columns}
use Rattle.prof_stats.specs.private.Rows.{entry_stats, stats_of_node}
use Rattle.prof_stats.proofs.Summaries.{entry_sum, is_zero}

-- ---- values of one kind

-- what is left out before is left out after
skipped : {X : Type 0} (g : X → ℕ) (q : X → Bool) → ((x : X) → q x ≡ false → g x ≡ 0) → (xs : List X) → above_zero (map g (filter q xs)) ≡ above_zero (map g xs)
skipped g q none [] = refl
skipped {X} g q none (x ∷ xs) =
    let rest : above_zero (map g (filter q xs)) ≡ above_zero (map g xs) = skipped g q none xs in
    elim (q x) as (λ b. q x ≡ b → above_zero (map g (cond b (x ∷ filter q xs) (filter q xs))) ≡ cond (not (g x == 0)) (g x ∷ above_zero (map g xs)) (above_zero (map g xs))) [
      | true ↦ λ e. ap (λ (l : List ℕ). cond (not (g x == 0)) (g x ∷ l) l) rest
      | false ↦ λ e. rest ∙ sym (ap (λ (v : ℕ). cond (not (v == 0)) (v ∷ above_zero (map g xs)) (above_zero (map g xs))) (none x e))
    ] refl

-- an entry that is 0 adds nothing
no_amount : (kind : Kind) (e : ContextEntry) → not (e.value == 0) ≡ false → amount kind e ≡ 0
no_amount kind e none =
    let z : e.value ≡ 0 = is_zero e.value none in
    elim (kind_rank e.kind == kind_rank kind) as (λ b. cond b e.value 0 ≡ 0) [ true ↦ z | false ↦ refl ]

mapped_twice : {X Y : Type 0} (f : Y → ℕ) (g : X → Y) (xs : List X) → map f (map g xs) ≡ map (λ x. f (g x)) xs
mapped_twice f g [] = refl
mapped_twice f g (x ∷ xs) = ap (λ (l : List ℕ). f (g x) ∷ l) (mapped_twice f g xs)

zeros_gone : (hs : List ℕ) → above_zero (map (λ h. 0) hs) ≡ []
zeros_gone [] = refl
zeros_gone (h ∷ hs) = zeros_gone hs

joined : (kind : Kind) (xs ys : List ContextEntry) → above_zero (map (amount kind) (xs ++ ys)) ≡ above_zero (map (amount kind) xs) ++ above_zero (map (amount kind) ys)
joined kind xs ys = ap above_zero (map-append (amount kind) xs ys) ∙ filter-append (λ v. not (v == 0)) (map (amount kind) xs) (map (amount kind) ys)

module _ (period columns : ℕ) (ps : List ColumnPath) (n : Path) where
  abbrev of_kind : Kind → List ContextEntry
  of_kind of = context_entries_of_kind (λ column. period) columns ps n of

  abbrev values : Kind → List ℕ
  values kind = values_over_columns period columns ps kind n

  kept : (kind of : Kind) → above_zero (map (amount kind) (of_kind of)) ≡ above_zero (map (λ h. amount kind (context_entry of h (value period ps h n of))) (columns_below columns))
  kept kind of =
      skipped (amount kind) (λ e. not (e.value == 0)) (no_amount kind) (map (λ h. context_entry of h (value period ps h n of)) (columns_below columns))
      ∙ ap above_zero (mapped_twice (amount kind) (λ h. context_entry of h (value period ps h n of)) (columns_below columns))

  parts : (kind : Kind) → above_zero (map (amount kind) (of_kind Exclusive ++ (of_kind Frame ++ (of_kind Inclusive ++ [])))) ≡ above_zero (map (amount kind) (of_kind Exclusive)) ++ (above_zero (map (amount kind) (of_kind Frame)) ++ (above_zero (map (amount kind) (of_kind Inclusive)) ++ []))
  parts kind =
      joined kind (of_kind Exclusive) (of_kind Frame ++ (of_kind Inclusive ++ []))
      ∙ ap (λ (l : List ℕ). above_zero (map (amount kind) (of_kind Exclusive)) ++ l) (joined kind (of_kind Frame) (of_kind Inclusive ++ [])
      ∙ ap (λ (l : List ℕ). above_zero (map (amount kind) (of_kind Frame)) ++ l) (joined kind (of_kind Inclusive) []))

  other_than_zero : (kind : Kind) → above_zero (map (amount kind) (context_entries (λ column. period) columns ps n)) ≡ above_zero (values kind)
  unfolding context_entries
  other_than_zero Exclusive =
      let a : above_zero (map (amount Exclusive) (of_kind Exclusive)) ≡ above_zero (values Exclusive) = kept Exclusive Exclusive in
      let b : above_zero (map (amount Exclusive) (of_kind Frame)) ≡ [] = kept Exclusive Frame ∙ zeros_gone (columns_below columns) in
      let c : above_zero (map (amount Exclusive) (of_kind Inclusive)) ≡ [] = kept Exclusive Inclusive ∙ zeros_gone (columns_below columns) in
      parts Exclusive ∙ (λ i. a i ++ (b i ++ (c i ++ []))) ∙ append-nil (above_zero (values Exclusive))
  other_than_zero Frame =
      let a : above_zero (map (amount Frame) (of_kind Exclusive)) ≡ [] = kept Frame Exclusive ∙ zeros_gone (columns_below columns) in
      let b : above_zero (map (amount Frame) (of_kind Frame)) ≡ above_zero (values Frame) = kept Frame Frame in
      let c : above_zero (map (amount Frame) (of_kind Inclusive)) ≡ [] = kept Frame Inclusive ∙ zeros_gone (columns_below columns) in
      parts Frame ∙ (λ i. a i ++ (b i ++ (c i ++ []))) ∙ append-nil (above_zero (values Frame))
  other_than_zero Inclusive =
      let a : above_zero (map (amount Inclusive) (of_kind Exclusive)) ≡ [] = kept Inclusive Exclusive ∙ zeros_gone (columns_below columns) in
      let b : above_zero (map (amount Inclusive) (of_kind Frame)) ≡ [] = kept Inclusive Frame ∙ zeros_gone (columns_below columns) in
      let c : above_zero (map (amount Inclusive) (of_kind Inclusive)) ≡ above_zero (values Inclusive) = kept Inclusive Inclusive in
      parts Inclusive ∙ (λ i. a i ++ (b i ++ (c i ++ []))) ∙ append-nil (above_zero (values Inclusive))

  pub list_stats : (kind : Kind) → entry_stats kind (context_entries (λ column. period) columns ps n) ≡ node_stats period columns ps kind n
  list_stats kind = ap summary (other_than_zero kind)

  -- the sum of a summary, over the columns
  pub sum_is : (kind : Kind) → (node_stats period columns ps kind n).sum ≡ sum_by (λ h. value period ps h n kind) (columns_below columns)
  sum_is kind =
      sum_by-filter (λ v. v) (λ v. not (v == 0)) is_zero (values kind) ∙ sum_by-map (λ v. v) (λ h. value period ps h n kind) (columns_below columns)

  few_of_kind : (of : Kind) → length (of_kind of) ≤ columns
  few_of_kind of =
      let few = few_left (map (λ h. context_entry of h (value period ps h n of)) (columns_below columns)) in
      let long = length-map-range_with_len (λ h. context_entry of h (value period ps h n of)) 0 columns in
      omega (arith, few, long)
    where
      few_left : (es : List ContextEntry) → length (filter (λ e. not (e.value == 0)) es) ≤ length es
      few_left [] = omega arith
      few_left (e ∷ es) =
          let rest = few_left es in
          elim (e.value == 0) as (λ b. length (cond (not b) (e ∷ filter (λ e. not (e.value == 0)) es) (filter (λ e. not (e.value == 0)) es)) ≤ length (e ∷ es)) [ true ↦ omega (arith, rest) | false ↦ omega (arith, rest) ]

  few_entries : length (context_entries (λ column. period) columns ps n) ≤ 3 * columns
  unfolding context_entries
  few_entries =
      let a = few_of_kind Exclusive in let b = few_of_kind Frame in let c = few_of_kind Inclusive in
      let l = length-append (of_kind Exclusive) (of_kind Frame ++ (of_kind Inclusive ++ [])) in
      let m = length-append (of_kind Frame) (of_kind Inclusive ++ []) in
      let o = ap length (append-nil (of_kind Inclusive)) in
      omega (arith, a, b, c, l, m, o)

-- ---- the nodes of a content

pub as_many_nodes : (c : Content) → IsProfile c → length c.nodes ≡ length (nodes (paths_of c))
as_many_nodes c profile = own_node_count c profile.own

pub as_many_lists : (c : Content) → IsProfile c → length c.contexts ≡ length c.nodes
as_many_lists c profile = own_list_count c profile.own

entries_at : (c : Content) (number : ℕ) → IsProfile c → number < length c.nodes → get_or c.contexts number [] ≡ context_entries (λ column. c.period) c.columns (paths_of c) (path_of_node c number)
entries_at c number profile lt =
    ap (λ (lists : List (List ContextEntry)). get_or lists number []) (own_contexts c profile.own)
    ∙ get_or-map (context_entries (λ column. c.period) c.columns (paths_of c)) (nodes (paths_of c)) number [] [] (omega (arith, lt, as_many_nodes c profile))

pub stats_are : (c : Content) (kind : Kind) (number : ℕ) → IsProfile c → number < length c.nodes → entry_stats kind (get_or c.contexts number []) ≡ stats_of_node c kind number
stats_are c kind number profile lt = ap (entry_stats kind) (entries_at c number profile lt) ∙ list_stats c.period c.columns (paths_of c) (path_of_node c number) kind

pub list_few : (c : Content) (number : ℕ) → IsProfile c → number < length c.nodes → c.columns ≤ 1024 → length (get_or c.contexts number []) < 2 ^ 16
list_few c number profile lt few =
    let most = few_entries c.period c.columns (paths_of c) (path_of_node c number) in
    let is = ap length (entries_at c number profile lt) in
    omega (arith, most, is, few)

pub list_small : (c : Content) (kind : Kind) (number : ℕ) → IsProfile c → c.period < 2 ^ 32 → number < length c.nodes → sum_by (amount kind) (get_or c.contexts number []) ≤ 2 ^ 52
list_small c kind number profile low lt =
    let n : Path = path_of_node c number in
    let most = within_total c.period c.columns (paths_of c) n kind in
    let whole = small_product c.period (length (paths_of c)) low (omega (arith, profile.samples)) in
    let sum = entry_sum kind (get_or c.contexts number []) in
    let same : (entry_stats kind (get_or c.contexts number [])).sum ≡ (node_stats c.period c.columns (paths_of c) kind n).sum = ap (λ (s : NodeStats). s.sum) (stats_are c kind number profile lt) in
    let all = sum_is c.period c.columns (paths_of c) n kind in
    omega (arith, most, whole, sum, same, all)

-- ---- all of them

pub stats_more : (c : Content) (kind : Kind) (all after : List NodeStats) (number : ℕ) → IsProfile c → number < length c.nodes
    → all ≡ map (node_stats c.period c.columns (paths_of c) kind) (take number (nodes (paths_of c))) → after ≡ all ++ stats_of_node c kind number ∷ []
    → after ≡ map (node_stats c.period c.columns (paths_of c) kind) (take (number + 1) (nodes (paths_of c)))
stats_more c kind all after number profile lt so_far one =
    let ns : List Path = nodes (paths_of c) in
    let f : Path → NodeStats = node_stats c.period c.columns (paths_of c) kind in
    one ∙ ap (λ (l : List NodeStats). l ++ f (get_or ns number []) ∷ []) so_far
    ∙ sym (ap (map f) (take_more ns number [] (omega (arith, lt, as_many_nodes c profile))) ∙ map-append f (take number ns) (get_or ns number [] ∷ []))

pub all_stats : (c : Content) (kind : Kind) (all : List NodeStats) (number : ℕ) → IsProfile c → length c.contexts ≤ number
    → all ≡ map (node_stats c.period c.columns (paths_of c) kind) (take number (nodes (paths_of c))) → all ≡ content_stats c kind
unfolding stats_of_paths
all_stats c kind all number profile le so_far =
    so_far ∙ ap (map (node_stats c.period c.columns (paths_of c) kind)) (take_all number (nodes (paths_of c)) (omega (arith, le, as_many_lists c profile, as_many_nodes c profile)))

pub lists_few : (c : Content) → IsProfile c → length c.contexts < 2 ^ 32
lists_few c profile = omega (arith, profile.nodes, as_many_lists c profile)

pub ruleset node_steps = (stats_are, list_few, list_small, as_many_lists)

pub ruleset all_steps = (stats_more, all_stats, as_many_lists, lists_few)
