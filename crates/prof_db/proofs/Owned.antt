-- A content that is read is that of its own paths.
use Rattle.std.proofs.Common.{◌≡◌, ℕ, ◌<◌, ◌≤◌, ◌&&◌, ◌||◌, not, Bool, true, false, Result, Ok, Err, IfOk, List, length, get_or, map, filter, All, Contains, refl, sym, ap, subst, ◌∙◌, arith}
use Rattle.std.proofs.lemmas.Bool.{and_parts, not-false, or_parts}
use Rattle.std.proofs.lemmas.List.{get_or-map, length-map}
use Rattle.std.proofs.lemmas.List.Elements.{All-contains, All-from_get_or}
use Rattle.prof_bytes.specs.Outcome.{Gives}
use Rattle.prof_bytes.specs.declared.fail.Fail.{Fail}
use Rattle.scope_types.specs.CallPaths.{ColumnPath}
use Rattle.scope_types.specs.Columns.{columns_of}
use Rattle.scope_types.specs.Limits.{most_runs, most_samples}
use Rattle.scope_types.specs.declared.scope.RootKind.TheVariants.{Thread}
use Rattle.scope_types.specs.declared.scope.Scope.TheVariants as scopes
use Rattle.tree_types.specs.Database.{event_content_of, names_used, naming_in, node_list}
use Rattle.tree_types.specs.Nodes.{no_parent, nodes}
use Rattle.tree_types.specs.OfContent.{IsEventProfile}
use Rattle.tree_types.specs.PathsOf.{tree_paths}
use Rattle.tree_types.specs.Planes.{context_plane, profile_plane}
use Rattle.tree_types.specs.Tree.{CountedTree, IsPreorder, node_at, paths_in}
use Rattle.tree_types.specs.declared.content.EventContent.{EventContent}
use Rattle.tree_types.specs.declared.content.Names.{Names}
use Rattle.tree_types.specs.declared.content.Node.{Node}
use Rattle.tree_types.specs.declared.counted_tree.NodeCount.{NodeCount}
use Rattle.tree_types.proofs.EventParts.{profile_of_event_paths}
use Rattle.tree_types.proofs.PathSteps.{as_many_paths}
use Rattle.tree_types.proofs.TreeLaws.{paths_in_tree}
use Rattle.tree_types.proofs.ValuePlanes.{contexts_are, profiles_are}
use Rattle.prof_db.specs.declared.fault.DbFault.{DbFault}
use Rattle.prof_db.specs.declared.raw.Layout.{Layout}
use Rattle.prof_db.specs.declared.raw.RawEntry.{RawEntry}
use Rattle.prof_db.specs.declared.raw.RawNode.{RawNode}
use Rattle.prof_db.specs.declared.raw.RawScope.TheVariants as raws
use Rattle.prof_db.specs.HeadRules.{event_of, events_of, layout_columns, layout_period}
use Rattle.prof_db.specs.NameRules.{is_among, names_in}
use Rattle.prof_db.specs.NodeRules.{in_preorder, in_range, is_placed, is_statement, node_breaks, node_is_wrong, node_of, parents_of, raw_node_at}
use Rattle.prof_db.specs.Rules.{events_in}
use Rattle.prof_db.specs.private.Heads.{IsHead}
use Rattle.prof_db.specs.ValueRules.{entry_count, is_exclusive_entry, sampled_nodes, statement_breaks, tree_of}
use Rattle.prof_db.proofs.Exclusive.{counts_columns, counts_inside, counts_some, few_samples}
use Rattle.prof_db.proofs.Heads.{are_periods, few_columns, head_is, some_of_column}
use Rattle.prof_db.proofs.OwnNames.{among_at, contains_map, names_own}
use Rattle.prof_db.proofs.OwnPaths.{listed_own, nodes_own, own_is, paths_all, some_scope}
use Rattle.prof_db.proofs.Passed.{Passed, own_content, own_nodes, passed}
use Rattle.prof_db.proofs.Preorder.{preorder_of_rule}
use Rattle.prof_db.proofs.FirstBroken.{none_broken}

module _ (layout : Layout) (c : EventContent) (p : Passed layout c) where
  abbrev names : Names
  names = names_in layout

  abbrev ns : List Node
  ns = own_nodes layout

  abbrev procs : ℕ
  procs = length layout.procs

  abbrev files : ℕ
  files = length layout.files

  head : IsHead layout
  head = head_is layout p.head

  many : length ns ≡ length layout.nodes
  many = length-map layout.nodes (node_of names)

  few : length ns < no_parent
  few = (let a = many in let b = head.nodes in omega (arith, a, b))

  abbrev period : ℕ → ℕ
  period = layout_period layout

  abbrev columns : ℕ
  columns = layout_columns layout

  period_some : (column : ℕ) → 0 < period column
  period_some column = some_of_column _ (are_periods (events_of layout) head.events) column

  pub preorder : IsPreorder ns
  preorder = preorder_of_rule procs files layout.nodes ns few p.nodes

  -- ---- each node

  abbrev stands : ℕ → Bool
  stands i = in_preorder ns i && is_placed ns (node_at ns i)

  abbrev has_child : ℕ → Bool
  has_child i = is_among (parents_of ns) i

  node_passes : (i : ℕ) → i < length ns → (node_is_wrong procs files layout.nodes ns i ≡ false) × (not (is_statement (node_at ns i).scope || has_child i) ≡ false)
  node_passes i lt =
      or_parts (node_is_wrong procs files layout.nodes ns i) (not (is_statement (node_at ns i).scope || has_child i))
      (none_broken 5 (node_breaks procs files layout.nodes ns) (λ i. (raw_node_at layout.nodes i).offset) 0 (length ns) i p.nodes (omega arith) (omega arith))

  abbrev IsRanged : RawNode → Type 0
  IsRanged r = in_range procs files r.scope ≡ true

  pub ranged : All IsRanged layout.nodes
  ranged = All-from_get_or IsRanged layout.nodes (record { offset = 0; parent = 0; scope = raws.Root 0 }) (λ i lt.
      let inside : i < length ns = (let long = many in omega (arith, long, lt)) in
      (and_parts (in_range procs files (raw_node_at layout.nodes i).scope) (stands i)
      (not-false (in_range procs files (raw_node_at layout.nodes i).scope && stands i) (node_passes i inside).0)).0)

  child : (i : ℕ) → i < length ns → is_statement (node_at ns i).scope ≡ false → (j : ℕ) × (j < length ns) × ((node_at ns j).parent ≡ i)
  child i lt none =
      let either : (is_statement (node_at ns i).scope || has_child i) ≡ true = not-false (is_statement (node_at ns i).scope || has_child i) (node_passes i lt).1 in
      let a = among_at (parents_of ns) i (sym (ap (λ b. b || has_child i) none) ∙ either) in
      let long = length-map ns (λ (n : Node). n.parent) in
      let within : a.0 < length ns = (let less = a.1 in omega (arith, less, long)) in
      (a.0, within, sym (get_or-map (λ (n : Node). n.parent) ns a.0 (record { parent = no_parent; scope = scopes.Root Thread }) 0 within) ∙ a.2)

  -- ---- each statement

  abbrev exclusive : List RawEntry
  exclusive = filter is_exclusive_entry layout.entries

  abbrev counts : List NodeCount
  counts = map (entry_count period) exclusive

  statement_sampled : (i : ℕ) → i < length ns → is_statement (node_at ns i).scope ≡ true → (k : NodeCount) × Contains counts k × (k.node ≡ i) × (0 < k.count)
  statement_sampled i lt is =
      let whole = none_broken 6 (statement_breaks ns (sampled_nodes layout.entries)) (λ i. (raw_node_at layout.nodes i).offset) 0 (length ns) i p.statements (omega arith) (omega arith) in
      let there : is_among (sampled_nodes layout.entries) i ≡ true =
      not-false (is_among (sampled_nodes layout.entries) i) (sym (ap (λ b. b && not (is_among (sampled_nodes layout.entries) i)) is) ∙ whole) in
      let a = among_at (sampled_nodes layout.entries) i there in
      let long = length-map exclusive (λ (e : RawEntry). e.node) in
      let within : a.0 < length exclusive = (let less = a.1 in omega (arith, less, long)) in
      let d : RawEntry = record { offset = 0; column = 0; node = 0; kind = 0; value = 0 } in
      let has : Contains counts (entry_count period (get_or exclusive a.0 d)) = contains_map (entry_count period) exclusive a.0 d within in (
        entry_count period (get_or exclusive a.0 d),
        has,
        sym (get_or-map (λ (e : RawEntry). e.node) exclusive a.0 d 0 within) ∙ a.2,
        All-contains (λ (k : NodeCount). 0 < k.count) counts (entry_count period (get_or exclusive a.0 d)) (counts_some period columns ns layout.entries p.entries period_some) has,
      )

  -- ---- the paths

  abbrev tree : CountedTree
  tree = tree_of period columns ns layout.entries

  abbrev ps : List ColumnPath
  ps = paths_in tree

  inside : All (λ k. k.node < length ns) counts
  inside = counts_inside period columns ns layout.entries p.entries period_some

  same : tree_paths ns ≡ nodes ps
  same = nodes_own ns few preorder columns counts inside statement_sampled child

  listed : ns ≡ node_list ps
  listed = listed_own ns few preorder ps same

  few_paths : length (nodes ps) ≤ no_parent
  few_paths = (let a = as_many_paths ns in let b = ap length same in let lt = few in omega (arith, a, b, lt))

  names_are : names_used (naming_in names) ps ≡ names
  names_are = names_own layout p.procs p.files ranged ps same (own_is ns few preorder)

  some : All (λ q. 0 < length q.path) ps
  some = paths_all tree (λ q. 0 < length q.path) (λ i d lt. some_scope ns few preorder (get_or counts i d).node (inside i d lt))

  columns_below : All (λ q. q.column < columns) ps
  columns_below = paths_all tree (λ q. q.column < columns) (counts_columns period columns ns layout.entries p.entries period_some)

  samples : length ps ≤ most_samples
  samples = (let a = paths_in_tree tree in let b = few_samples period columns ns layout.entries p.entries in omega (arith, a, b))

  same_columns : columns_of (length (events_of layout)) layout.runs ≡ columns
  same_columns = ap (λ (n : ℕ). columns_of n layout.runs) (length-map layout.events event_of)

  content_own : event_content_of (events_of layout) layout.runs (naming_in names) ps ≡ own_content layout
  unfolding event_content_of
  content_own =
      let by_column = ap (λ (n : ℕ). profile_plane period n ps) same_columns ∙ sym (profiles_are period tree ps (record { same = λ t. refl }) listed few_paths) in
      let by_node = ap (λ (n : ℕ). context_plane period n ps) same_columns ∙ sym (contexts_are period tree ps (record { same = λ t. refl }) listed few_paths) in
      λ i. record { events = events_of layout; runs = layout.runs; names = names_are i; nodes = sym listed i; profiles = by_column i; contexts = by_node i }

  pub owned : IsEventProfile c
  owned =
      let small = few_columns (length layout.events) layout.runs head.few_events head.few_runs (λ i d lt. (head.harts i d lt).1) in
      let same = same_columns in
      subst IsEventProfile (content_own ∙ p.is)
      (profile_of_event_paths (events_of layout) layout.runs (naming_in names) ps head.events head.some_runs head.harts (omega (arith, same, small)) few_paths some
      (subst (λ (n : ℕ). All (λ q. q.column < n) ps) (sym same) columns_below) samples)

-- what is read of a database is a profile, of few runs
pub read_owned : (bytes : List ℕ) (c : EventContent) → events_in bytes ≡ Ok c → IsEventProfile c
read_owned bytes c is = (let a = passed bytes c is in owned a.0 c a.2)

pub read_few_runs : (bytes : List ℕ) (c : EventContent) → events_in bytes ≡ Ok c → length c.runs ≤ most_runs
read_few_runs bytes c is = (let a = passed bytes c is in subst (λ (k : EventContent). length k.runs ≤ most_runs) a.2.is (head_is a.0 a.2.head).few_runs)

pub given_profile : (bytes : List ℕ) (r : Result EventContent (Fail DbFault)) → Gives (λ (k : EventContent). k) r (events_in bytes) → IfOk r (λ k. IsEventProfile k)
given_profile bytes (Ok c) is = read_owned bytes c is
given_profile bytes (Err fail) is = tt
