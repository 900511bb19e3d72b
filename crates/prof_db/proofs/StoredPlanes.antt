-- The numbers of a stored content's planes have their bytes.
use Rattle.std.proofs.Common.{ℕ, ◌*◌, ◌<◌, ◌≤◌, ◌==◌, ◌&&◌, not, inl, inr, Bool, List, [], ◌++◌, length, get_or, map, filter, All, sym, subst, arith}
use Rattle.std.specs.List.{range_with_len}
use Rattle.std.proofs.lemmas.Bool.{cases_eq}
use Rattle.std.proofs.lemmas.List.{length-append}
use Rattle.std.proofs.lemmas.List.Elements.{All-filter, All-map}
use Rattle.std.proofs.lemmas.List.FromFn.{length-map-range_with_len}
use Rattle.std.proofs.lemmas.List.Sums.{count_by-le-length, length-filter}
use Rattle.tree_types.specs.NodeValues.{kind_rank}
use Rattle.tree_types.specs.Nodes.{no_parent, nodes}
use Rattle.tree_types.specs.Paths.{Path}
use Rattle.tree_types.specs.PathsOf.{event_paths_of}
use Rattle.tree_types.specs.Planes.{context_entry, context_entries_of_kind, kinds, context_entries}
use Rattle.tree_types.specs.ValuePlanes.{column_entries, in_context, in_profile, kind_entries, node_entries}
use Rattle.tree_types.specs.Values.{columns_below, value}
use Rattle.tree_types.specs.declared.content.EventContent.{EventContent}
use Rattle.tree_types.specs.declared.content.ContextEntry.{ContextEntry}
use Rattle.tree_types.specs.declared.content.Kind.{Kind}
use Rattle.tree_types.specs.declared.content.Kind.TheVariants.{Exclusive, Frame, Inclusive}
use Rattle.tree_types.specs.declared.content.Node.{Node}
use Rattle.tree_types.specs.declared.content.ProfileEntry.{ProfileEntry}
use Rattle.tree_types.specs.declared.node_values.NodeValue.{NodeValue}
use Rattle.tree_types.proofs.EventParts.{own_list_count, own_contexts, own_column_count}
use Rattle.prof_db.specs.Stored.{IsEventStored, IsWord}
use Rattle.prof_db.proofs.ForthFile.{ContentFits}
use Rattle.prof_db.proofs.ForthPlanes.{EntryFits, PastFits}
use Rattle.prof_db.proofs.Heads.{few_columns, few_events}
use Rattle.prof_db.proofs.OwnNames.{all_lists}
use Rattle.prof_db.proofs.StoredEntries.{IsValue, are_own, columns, contexts_by_value, period, profiles_by_value, value_small, values}
use Rattle.prof_db.proofs.StoredNames.{found}
use Rattle.prof_db.proofs.StoredNodes.{preorder}
use Rattle.prof_db.proofs.StoredWords.{few_files, few_procs, files_fit, procs_fit, scope_fits}

module _ (c : EventContent) (s : IsEventStored c) where
  abbrev many : ℕ
  many = columns c s

  pub most_columns : many ≤ 4096
  most_columns = few_columns (length c.events) c.runs (few_events c.events s.profile.events) s.few_runs (λ i d lt. (s.profile.harts i d lt).1)

  abbrev vs : List NodeValue
  vs = values c s

  abbrev AllFit : List ProfileEntry → Type 0
  AllFit list = All EntryFits list

  entries_fit : All AllFit c.profiles
  entries_fit = subst (All AllFit) (sym (profiles_by_value c s)) (All-map AllFit (column_entries vs) (columns_below many) (λ i d lt. list (get_or (columns_below many) i d)))
    where
      list : (column : ℕ) → AllFit (column_entries vs column)
      list column = All-map EntryFits in_profile (filter (λ (v : NodeValue). v.column == column) vs) (λ i d lt.
          let v : NodeValue = get_or (filter (λ (v : NodeValue). v.column == column) vs) i d in
          let is : IsValue c s v = All-filter (λ (v : NodeValue). v.column == column) (IsValue c s) vs (are_own c s) i d lt in
          let less = is.node in
          let nodes = s.nodes in
          record { node = omega (arith, less, nodes); value = value_small c s v is })

  abbrev AllPast : List ContextEntry → Type 0
  AllPast list = All PastFits list

  past_fit : All AllPast c.contexts
  past_fit = subst (All AllPast) (sym (contexts_by_value c s)) (All-map AllPast (node_entries vs) (range_with_len 0 (length c.nodes)) (λ i d lt. list (get_or (range_with_len 0 (length c.nodes)) i d)))
    where
      of_kind : (node : ℕ) (kind : Kind) → AllPast (kind_entries vs node kind)
      of_kind node kind = (let test : NodeValue → Bool = λ v. v.node == node && kind_rank v.kind == kind_rank kind in All-map PastFits in_context (filter test vs) (λ i d lt.
          let v : NodeValue = get_or (filter test vs) i d in
          let is : IsValue c s v = All-filter test (IsValue c s) vs (are_own c s) i d lt in
          let less = is.column in
          let most = most_columns in
          record { column = omega (arith, less, most); value = value_small c s v is }))

      list : (node : ℕ) → AllPast (node_entries vs node)
      list node = all_lists PastFits (kind_entries vs node) kinds (λ i d lt. of_kind node (get_or kinds i d))

  -- a node has at most three values for each column
  kind_short : (n : Path) (kind : Kind) → length (context_entries_of_kind (period c s) many (event_paths_of c) n kind) ≤ many
  kind_short n kind =
      let f : ℕ → ContextEntry = λ column. context_entry kind column (value (period c s column) (event_paths_of c) column n kind) in
      let all : List ContextEntry = map f (columns_below many) in
      let kept = length-filter (λ (e : ContextEntry). not (e.value == 0)) all in
      let few = count_by-le-length (λ (e : ContextEntry). not (e.value == 0)) all in
      let long = length-map-range_with_len f 0 many in
      omega (arith, kept, few, long)

  node_short : (n : Path) → length (context_entries (period c s) many (event_paths_of c) n) ≤ 3 * many
  unfolding context_entries
  node_short n =
      let of : Kind → List ContextEntry = context_entries_of_kind (period c s) many (event_paths_of c) n in
      let a = kind_short n Exclusive in
      let b = kind_short n Frame in
      let d = kind_short n Inclusive in
      let first = length-append (of Exclusive) (of Frame ++ (of Inclusive ++ [])) in
      let second = length-append (of Frame) (of Inclusive ++ []) in
      let third = length-append (of Inclusive) [] in
      omega (arith, a, b, d, first, second, third)

  lists_short : All (λ list. IsWord (length list)) c.contexts
  lists_short = subst (All (λ (list : List ContextEntry). IsWord (length list))) (sym (own_contexts c s.profile.own))
      (All-map (λ (list : List ContextEntry). IsWord (length list)) (context_entries (period c s) many (event_paths_of c)) (nodes (event_paths_of c))
      (λ i d lt. (let few = node_short (get_or (nodes (event_paths_of c)) i d) in let most = most_columns in omega (arith, few, most))))

  parent_word : (i : ℕ) (d : Node) → i < length c.nodes → IsWord (get_or c.nodes i d).parent
  parent_word i d lt = elim (cases_eq (get_or c.nodes i d).parent no_parent) [
    | inl root ↦ omega (arith, root)
    | inr inner ↦ (let less = (preorder c s).parents i d lt inner in let nodes = s.nodes in omega (arith, less, nodes, lt))
  ]

  -- each number has its bytes
  pub content_fits : ContentFits c
  content_fits =
      let nodes = s.nodes in
      let events = few_events c.events s.profile.events in
      let procs = few_procs c s in
      let files = few_files c s in
      record {
        some_runs = s.profile.some;
        few_runs = s.few_runs;
        periods = s.periods;
        harts = λ i d lt. (let most = (s.profile.harts i d lt).1 in omega (arith, most));
        many_events = omega (arith, events);
        columns = own_column_count c s.profile.own;
        lists = own_list_count c s.profile.own;
        many_procs = omega (arith, procs, nodes);
        many_files = omega (arith, files, nodes);
        many_nodes = omega (arith, nodes);
        procs = procs_fit c s;
        files = files_fit c s;
        nodes = λ i d lt. record { parent = parent_word i d lt; scope = scope_fits c s (get_or c.nodes i d).scope (found c s i d lt) (s.scopes i d lt) };
        profiles = λ i d lt. record { short = s.lists i d lt; entries = entries_fit i d lt };
        contexts = λ i d lt. record { short = lists_short i d lt; entries = past_fit i d lt };
      }
