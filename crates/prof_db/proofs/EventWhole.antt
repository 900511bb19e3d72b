-- The content of one event is what is made of the columns of the whole that are its own.
use Rattle.std.proofs.Common.{◌≡◌, ℕ, ◌+◌, ◌*◌, ◌%◌, ◌^◌, ◌<◌, ◌≤◌, List, [], ◌∷◌, length, get_or, map, filter, sum, All, sym, ap, subst, ◌∙◌, arith, take_all}
use Rattle.std.specs.Prelude.{◌≢◌}
use Rattle.std.specs.List.{flat_map, range_with_len}
use Rattle.std.proofs.Math.Nat.{mul-le-mul}
use Rattle.std.proofs.lemmas.List.{length-map}
use Rattle.std.proofs.lemmas.List.FromFn.{length-map-range_with_len}
use Rattle.std.proofs.lemmas.List.Sums.{sum_by-cons}
use Rattle.std.proofs.lemmas.Nat.{mod-mul-add}
use Rattle.scope_types.specs.CallPaths.{ColumnPath}
use Rattle.scope_types.specs.Columns.{column_of, columns_of, paths_of_event, period_of_column}
use Rattle.scope_types.specs.Events.{periods_of}
use Rattle.scope_types.specs.Limits.{most_harts}
use Rattle.scope_types.specs.declared.event.EventPeriod.{EventPeriod}
use Rattle.tree_types.specs.Ascending.{ascending}
use Rattle.tree_types.specs.Database.{content_of, names_used, naming_in, node_list, period_at}
use Rattle.tree_types.specs.NamesAscend.{NamesAscend}
use Rattle.tree_types.specs.Naming.{file_order, files_used, proc_order, procs_used, scope_files, scope_procs}
use Rattle.tree_types.specs.Nodes.{no_parent, nodes, own_scope, parent_number}
use Rattle.tree_types.specs.OfContent.{IsEventProfile, content_of_event}
use Rattle.tree_types.specs.Paths.{Path}
use Rattle.tree_types.specs.PathsOf.{event_paths_of}
use Rattle.tree_types.specs.Planes.{context_plane, profile_plane}
use Rattle.tree_types.specs.declared.content.Content.{Content}
use Rattle.tree_types.specs.declared.content.ContextEntry.{ContextEntry}
use Rattle.tree_types.specs.declared.content.EventContent.{EventContent}
use Rattle.tree_types.specs.declared.content.Names.{Names}
use Rattle.tree_types.specs.declared.content.Node.{Node}
use Rattle.tree_types.specs.declared.content.ProfileEntry.{ProfileEntry}
use Rattle.tree_types.proofs.EventParts.{own_below, own_column_count, own_contexts, own_list_count, own_names_ascend, own_nodes, own_profiles}
use Rattle.tree_types.proofs.EventPaths.{event_below}
use Rattle.tree_types.proofs.PathsAgain.{period_positive}
use Rattle.tree_types.proofs.Selecting.{flat_map_of_map}
use Rattle.tree_types.proofs.TreeLaws.{listed_in_preorder, nodes_listed}
use Rattle.prof_db.specs.private.EventNames.{file_again, names_of_nodes, node_files, node_procs, proc_again}
use Rattle.prof_db.specs.private.EventParts.{event_list, event_lists, event_number_of, event_numbers, hart_list, has_event, kept_nodes}
use Rattle.prof_db.proofs.EventColumns.{columns_are, plane_inside}
use Rattle.prof_db.proofs.EventLists.{few_lists}
use Rattle.prof_db.proofs.EventNumbers.{lists_are, nodes_are}

-- ---- names

names_are : (names : Names) (ps : List ColumnPath) → names_of_nodes names (node_list ps) ≡ names_used (naming_in names) ps
unfolding procs_used files_used
names_are names ps =
    let listed : Path → Node = λ n. record { parent = parent_number (nodes ps) n; scope = own_scope n } in
    let procs : node_procs (node_list ps) ≡ flat_map (λ n. scope_procs (own_scope n)) (nodes ps) = flat_map_of_map (λ (n : Node). scope_procs n.scope) listed (nodes ps) in
    let files : node_files (node_list ps) ≡ flat_map (λ n. scope_files (own_scope n)) (nodes ps) = flat_map_of_map (λ (n : Node). scope_files n.scope) listed (nodes ps) in
    λ i. record { procs = map (proc_again names) (ascending proc_order (procs i)); files = map (file_again names) (ascending file_order (files i)) }

-- ---- sizes

module _ (c : EventContent) (profile : IsEventProfile c) where
  some_hart : 0 < sum c.runs
  some_hart = has_hart c.runs profile.some profile.harts
    where
      has_hart : (runs : List ℕ) → 0 < length runs → All (λ h. (0 < h) × (h ≤ most_harts)) runs → 0 < sum runs
      has_hart [] long all = absurd (omega arith)
      has_hart (h ∷ runs) long all = (let first = (all 0 0 (omega arith)).0 in let parts = sum_by-cons (λ (k : ℕ). k) h runs in omega (arith, first, parts))

  some_event : 0 < length c.events
  some_event = (let some = profile.events.some in omega (arith, some))

  pub harts_few : sum c.runs < 2 ^ 32
  harts_few =
      let most = profile.columns in
      let more : sum c.runs * 1 ≤ sum c.runs * length c.events = mul-le-mul (let same : sum c.runs ≤ sum c.runs = omega arith in same) some_event in
      omega (arith, most, more)

  pub events_few : length c.events < 2 ^ 32
  events_few =
      let most = profile.columns in
      let more : 1 * length c.events ≤ sum c.runs * length c.events = mul-le-mul some_hart (let same : length c.events ≤ length c.events = omega arith in same) in
      omega (arith, most, more)

  pub columns_few : length c.profiles < 2 ^ 32
  columns_few = (let long = own_column_count c profile.own in let most = profile.columns in omega (arith, long, most))

  pub lists_few : length c.contexts < 2 ^ 32
  lists_few = (let long = own_list_count c profile.own in let few = profile.nodes in omega (arith, long, few))

  pub names_up : NamesAscend c.names
  names_up = own_names_ascend c profile.own

  node_count : length c.nodes ≡ length (nodes (event_paths_of c))
  node_count = ap length (own_nodes c profile.own) ∙ nodes_listed (event_paths_of c)

  few_nodes : length (nodes (event_paths_of c)) ≤ no_parent
  few_nodes = (let long = node_count in let few = profile.nodes in omega (arith, long, few))

  -- each parent is one of the nodes
  pub parents_inside : All (λ n. n.parent ≢ no_parent → n.parent < length c.nodes) c.nodes
  parents_inside =
      subst (λ (ns : List Node). All (λ n. n.parent ≢ no_parent → n.parent < length ns) ns) (sym (own_nodes c profile.own))
      (λ i d lt inner. let before = (listed_in_preorder (event_paths_of c) few_nodes).parents i d lt inner in omega (arith, before, lt))

  module _ (harts events place : ℕ) (harts_are : harts ≡ sum c.runs) (events_are : events ≡ length c.events) (lt : place < events) where
    pub columns_long : length c.profiles ≡ harts * events
    columns_long = own_column_count c profile.own ∙ (λ i. sym harts_are i * sym events_are i)

    pub numbers_long : length (event_numbers events place c.contexts) ≡ length c.nodes + 1
    numbers_long =
        length-map-range_with_len (event_number_of events place c.contexts) 0 (length c.contexts + 1)
        ∙ ap (λ (n : ℕ). n + 1) (own_list_count c profile.own)

    pub event_lists_few : length (event_lists events place c.contexts) < 2 ^ 32
    event_lists_few =
        let whole = few_lists events place c.contexts (length c.contexts) in
        let all : event_number_of events place c.contexts (length c.contexts) ≡ length (event_lists events place c.contexts) =
        ap (λ (l : List (List ContextEntry)). length (filter (has_event events place) l)) (take_all (length c.contexts) c.contexts (omega arith))
        ∙ sym (length-map (filter (has_event events place) c.contexts) (event_list events place)) in
        let most = lists_few in
        omega (arith, whole, all, most)

    -- ---- the whole and the event

    abbrev ps : List ColumnPath
    ps = event_paths_of c

    abbrev mine : List ColumnPath
    mine = paths_of_event events place ps

    abbrev period : ℕ → ℕ
    period = period_of_column (periods_of c.events)

    abbrev p : ℕ
    p = period_at c.events place

    columns_same : columns_of (length c.events) c.runs ≡ harts * events
    columns_same = λ i. sym harts_are i * sym events_are i

    contexts_own : c.contexts ≡ context_plane period (harts * events) ps
    contexts_own = own_contexts c profile.own ∙ ap (λ (n : ℕ). context_plane period n ps) columns_same

    profiles_own : c.profiles ≡ profile_plane period (harts * events) ps
    profiles_own = own_profiles c profile.own ∙ ap (λ (n : ℕ). profile_plane period n ps) columns_same

    own : (h : ℕ) → period (column_of events h place) ≡ p
    own h =
        ap (λ (n : ℕ). get_or (periods_of c.events) (column_of events h place % n) 0) (length-map c.events (λ (e : EventPeriod). e.period) ∙ sym events_are)
        ∙ ap (λ (k : ℕ). get_or (periods_of c.events) k 0) (mod-mul-add h events place lt)

    positive : 0 < p
    positive = period_positive c.events place profile.events (subst (λ (n : ℕ). place < n) events_are lt)

    below : All (λ q. q.column < harts) mine
    below =
        subst (λ (h : ℕ). All (λ q. q.column < h) mine) (sym harts_are)
        (event_below events place c.runs ps (subst (λ (e : ℕ). All (λ q. q.column < columns_of e c.runs) ps) (sym events_are) (own_below c profile)))

    pub entries_inside : All (λ list. All (λ e. e.node < length (event_numbers events place c.contexts)) list) c.profiles
    entries_inside =
        subst (λ (lists : List (List ProfileEntry)). All (λ list. All (λ e. e.node < length (event_numbers events place c.contexts)) list) lists) (sym profiles_own)
        (λ i d lt j e inside. let less = plane_inside period ps (harts * events) i d lt j e inside in let long = numbers_long in let many = node_count in omega (arith, less, long, many))

    abbrev numbers : List ℕ
    numbers = event_numbers events place c.contexts

    numbers_same : numbers ≡ event_numbers events place (context_plane period (harts * events) ps)
    numbers_same = ap (event_numbers events place) contexts_own

    event_nodes_are : kept_nodes numbers c.nodes (length c.nodes) ≡ node_list mine
    event_nodes_are =
        (λ i. kept_nodes (numbers_same i) (own_nodes c profile.own i) (length (own_nodes c profile.own i)))
        ∙ nodes_are events place lt ps period p own positive harts below few_nodes

    event_lists_are : event_lists events place c.contexts ≡ context_plane (λ column. p) harts mine
    event_lists_are = ap (event_lists events place) contexts_own ∙ lists_are events place lt ps period p own positive harts below few_nodes

    event_columns_are : map (hart_list events place numbers c.profiles) (range_with_len 0 harts) ≡ profile_plane (λ column. p) harts mine
    event_columns_are =
        (λ i. map (hart_list events place (numbers_same i) (profiles_own i)) (range_with_len 0 harts))
        ∙ columns_are events place lt ps period p own positive harts below few_nodes

    abbrev made : Content
    made = record {
      period = p;
      columns = harts;
      names = names_of_nodes c.names (node_list mine);
      nodes = node_list mine;
      profiles = profile_plane (λ column. p) harts mine;
      contexts = context_plane (λ column. p) harts mine;
    }

    made_is : made ≡ content_of p harts (naming_in c.names) mine
    unfolding content_of
    made_is = λ i. record {
      period = p;
      columns = harts;
      names = names_are c.names mine i;
      nodes = node_list mine;
      profiles = profile_plane (λ column. p) harts mine;
      contexts = context_plane (λ column. p) harts mine;
    }

    pub whole : (amount : ℕ) (names : Names) (ns : List Node) (profiles : List (List ProfileEntry)) (contexts : List (List ContextEntry))
        → amount ≡ p → names ≡ names_of_nodes c.names ns → ns ≡ kept_nodes numbers c.nodes (length c.nodes)
        → profiles ≡ map (hart_list events place numbers c.profiles) (range_with_len 0 harts) → contexts ≡ event_lists events place c.contexts
        → record { period = amount; columns = harts; names = names; nodes = ns; profiles = profiles; contexts = contexts } ≡ content_of_event c place
    whole amount names ns profiles contexts amount_is names_is nodes_is profiles_is contexts_is =
        let all_nodes : ns ≡ node_list mine = nodes_is ∙ event_nodes_are in
        let all_names : names ≡ names_of_nodes c.names (node_list mine) = names_is ∙ ap (names_of_nodes c.names) all_nodes in
        let all_profiles : profiles ≡ profile_plane (λ column. p) harts mine = profiles_is ∙ event_columns_are in
        let all_contexts : contexts ≡ context_plane (λ column. p) harts mine = contexts_is ∙ event_lists_are in
        let parts : record { period = amount; columns = harts; names = names; nodes = ns; profiles = profiles; contexts = contexts } ≡ made =
        λ i. record { period = amount_is i; columns = harts; names = all_names i; nodes = all_nodes i; profiles = all_profiles i; contexts = all_contexts i } in
        parts ∙ made_is ∙ (λ i. content_of p (harts_are i) (naming_in c.names) (paths_of_event (events_are i) place ps))
