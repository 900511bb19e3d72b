-- The spelling of a stored content breaks no rule, and says just that content.
use Rattle.std.proofs.Common.{◌≡◌, ℕ, zero, suc, ◌+◌, ◌-◌, ◌<◌, ◌==◌, ◌&&◌, ◌||◌, not, nat_eq, nat_le, nat_lt, Bool, true, false, List, [], ◌∷◌, ◌++◌, length, get_or, map, take, filter, sum_by, codes, All, Less, Equal, Ok, inl, inr, refl, sym, ap, ap₂, subst, ◌∙◌, arith}
use Rattle.std.specs.Cmp.Lexicographic.{pointwise, slice_cmp}
use Rattle.std.specs.List.{flat_map}
use Rattle.std.specs.Ordering.{nat_cmp, ordering_then}
use Rattle.std.proofs.lemmas.Bool.{and_from, cases_order, eq-eqb, le-ltb, lt-ltb, or_from, or_left, or_right}
use Rattle.std.proofs.lemmas.Cmp.{nat_cmp_total, nat_list_eq_equiv, tied_itself}
use Rattle.std.proofs.lemmas.List.{get_or-map, length-map, take-map}
use Rattle.std.proofs.lemmas.List.Elements.{All-contains, All-filter, All-head, All-map, All-tail}
use Rattle.std.proofs.lemmas.List.Folds.{flat_map-map, list_any_at}
use Rattle.prof_bytes.proofs.Tests.{and_false}
use Rattle.prof_bytes.specs.Reading.{At}
use Rattle.scope_types.specs.CallPaths.{ColumnPath}
use Rattle.scope_types.specs.Columns.{columns_of, period_of_column}
use Rattle.scope_types.specs.Events.{periods_of}
use Rattle.scope_types.specs.Limits.{most_name_bytes, most_samples}
use Rattle.scope_types.specs.declared.event.EventPeriod.{EventPeriod}
use Rattle.scope_types.specs.declared.scope.ProcId.{ProcId}
use Rattle.scope_types.specs.declared.scope.ProcId.TheVariants.{Die, Sym, Nameless}
use Rattle.tree_types.specs.Naming.{proc_order, file_order}
use Rattle.tree_types.specs.NodeValues.{values_of}
use Rattle.tree_types.specs.PathsOf.{event_paths_of, tree_paths}
use Rattle.tree_types.specs.Tree.{counted_path, node_at, node_path}
use Rattle.tree_types.specs.ValuePlanes.{entries_by_column, entries_by_node}
use Rattle.tree_types.specs.declared.content.EventContent.{EventContent}
use Rattle.tree_types.specs.declared.content.FileName.{FileName}
use Rattle.tree_types.specs.declared.content.Names.{Names}
use Rattle.tree_types.specs.declared.content.Node.{Node}
use Rattle.tree_types.specs.declared.content.ProcName.{ProcName}
use Rattle.tree_types.specs.declared.counted_tree.NodeCount.{NodeCount}
use Rattle.tree_types.proofs.PathsAgain.{sum_by-map}
use Rattle.tree_types.proofs.PathSteps.{as_many_paths}
use Rattle.tree_types.proofs.Selecting.{filter_of_map, map_of_map}
use Rattle.tree_types.proofs.TreeLaws.{numbers_tell}
use Rattle.prof_db.specs.declared.raw.Layout.{Layout}
use Rattle.prof_db.specs.declared.raw.RawEntry.{RawEntry}
use Rattle.prof_db.specs.declared.raw.RawNode.{RawNode}
use Rattle.prof_db.specs.declared.raw.RawProc.{RawProc}
use Rattle.prof_db.specs.HeadRules.{event_of, head_kept, layout_columns, layout_period}
use Rattle.prof_db.specs.NameRules.{file_at, file_breaks, file_name, files_ascend, files_kept, is_among, is_valid_proc, names_in, names_kept, pair_less, proc_at, proc_breaks, proc_id, raw_proc_name, procs_ascend, procs_kept, scope_file, scope_proc, used_files, used_procs}
use Rattle.prof_db.specs.NodeRules.{in_preorder, in_range, is_placed, is_statement, node_breaks, node_of, nodes_kept, parents_of, raw_node_at}
use Rattle.prof_db.specs.Rules.{content_in, content_of_layout, events_in, layout_values, nodes_in, planes_in, values_in}
use Rattle.prof_db.specs.Spelling.{events_spelling, file_index, proc_index, version_of}
use Rattle.prof_db.specs.Stored.{IsEventStored, IsNamed}
use Rattle.prof_db.specs.ValueRules.{context_fields, entry_count, entries_ascend, entries_kept, entry_at, entry_breaks, fields_kept, is_exclusive_entry, is_value, plane_fields, profile_fields, sampled_nodes, entry_samples, statement_breaks, statements_kept, tree_of}
use Rattle.prof_db.proofs.BackPlanes.{context_bytes, profile_bytes}
use Rattle.prof_db.proofs.ForthFile.{IsLaid, context_plane, layout_forth, layout_of}
use Rattle.prof_db.proofs.ForthHead.{raw_event}
use Rattle.prof_db.proofs.ForthItems.{bare_node, bare_proc, proc_kind, proc_number, proc_words_are, raw_node, raw_proc}
use Rattle.prof_db.proofs.ForthPlanes.{bare_entry, context_fields_fit, fields_forth, profile_fields_fit}
use Rattle.prof_db.proofs.InPreorder.{in_order}
use Rattle.prof_db.proofs.OwnPaths.{paths_all}
use Rattle.prof_db.proofs.StoredEntries.{is_greater, less_is, never_less, only_less, by_column, by_node, entries, good, none_breaks, paths_are, tree}
use Rattle.prof_db.proofs.StoredHeads.{event_again, head_keeps, none_fails}
use Rattle.prof_db.proofs.StoredNames.{file_used, files_of_nodes, files_up, found, no_file, no_proc, node_again, proc_used, procs_of_nodes, procs_up, scope_ranged, used_file_numbers, used_proc_numbers}
use Rattle.prof_db.proofs.StoredNodes.{has_child, placed, preorder, statement_ends}
use Rattle.prof_db.proofs.StoredPlanes.{content_fits}

-- ---- lists that were read

-- lists of which the same holds at each place are as long
same_many : {X Y Z : Type 0} (f : X → Z) (g : Y → Z) (xs : List X) (ys : List Y) → map f xs ≡ map g ys → length xs ≡ length ys
same_many f g xs ys same = sym (length-map xs f) ∙ ap length same ∙ length-map ys g

-- what is the same of two lists is so at each place
same_at : {X Y Z : Type 0} (f : X → Z) (g : Y → Z) (xs : List X) (ys : List Y) → map f xs ≡ map g ys → (i : ℕ) (d : X) (e : Y) → i < length ys → f (get_or xs i d) ≡ g (get_or ys i e)
same_at {Z = Z} f g xs ys same i d e lt =
    let many = same_many f g xs ys same in
    sym (get_or-map f xs i d (f d) (omega (arith, many, lt))) ∙ ap (λ (l : List Z). get_or l i (f d)) same ∙ get_or-map g ys i e (f d) lt

-- what doesn't change an element doesn't change the list
all_same : {X : Type 0} (f : X → X) (xs : List X) → All (λ x. f x ≡ x) xs → map f xs ≡ xs
all_same f [] all = refl
all_same f (x ∷ xs) all = ap₂ (λ (y : _) (ys : List _). y ∷ ys) (All-head (λ x. f x ≡ x) x xs all) (all_same f xs (All-tail (λ x. f x ≡ x) x xs all))

-- ---- names in order

-- two numbers that ascend pass
pair_by_less : (a b c d : ℕ) → slice_cmp nat_cmp (a ∷ b ∷ []) (c ∷ d ∷ []) ≡ Less → pair_less a b c d ≡ true
pair_by_less a b c d e = elim (cases_order a c) [
  | inl is ↦
      let first : nat_cmp a c ≡ Equal = ap (λ (n : ℕ). nat_cmp n c) is ∙ tied_itself nat_cmp_total c in
      let last : nat_cmp b d ≡ Less = only_less (nat_cmp b d) (sym (ap (λ o. ordering_then o (ordering_then (nat_cmp b d) Equal)) first) ∙ e) in
      or_right (nat_lt a c) (a == c && nat_lt b d) (and_from (a == c) (nat_lt b d) (eq-eqb a c is) (lt-ltb b d (less_is b d last)))
  | inr (inl less) ↦ or_left (nat_lt a c) (a == c && nat_lt b d) (lt-ltb a c less)
  | inr (inr more) ↦ absurd (never_less (sym (ap (λ o. ordering_then o (ordering_then (nat_cmp b d) Equal)) (is_greater a c more)) ∙ e))
]

proc_again : (p : ProcName) → raw_proc_name (raw_proc p) ≡ p
proc_again p = (let is = id_again p.id in λ i. record { id = is i; name = p.name })
  where
    id_again : (id : ProcId) → proc_id (proc_kind id) (proc_number id) ≡ id
    id_again (Die offset) = refl
    id_again (Sym address) = refl
    id_again Nameless = refl

-- a procedure that has its name passes
named_passes : (id : ProcId) (name : List ℕ) → (id ≡ Nameless → name ≡ codes "<unknown procedure>") → is_valid_proc (record { offset = 0; kind = proc_kind id; number = proc_number id; name = name }) ≡ true
named_passes (Die offset) name is = refl
named_passes (Sym address) name is = refl
named_passes Nameless name is = ap (λ (n : List ℕ). pointwise nat_eq n (codes "<unknown procedure>")) (is refl) ∙ nat_list_eq_equiv.refl (codes "<unknown procedure>")

-- a place before another one
one_before : (i : ℕ) (t : ℕ → Bool) → ((k : ℕ) → suc k ≡ i → t k ≡ true) → (nat_lt 0 i && not (t (i - 1))) ≡ false
one_before zero t next = refl
one_before (suc i) t next =
    let k : suc i - 1 ≡ i = omega arith in
    ap (λ b. nat_lt 0 (suc i) && not b) (ap t k ∙ next i refl) ∙ and_false (nat_lt 0 (suc i))

-- ---- entries, but where they are

bare_at : (es : List RawEntry) (k : ℕ) → entry_at (map bare_entry es) k ≡ bare_entry (entry_at es k)
bare_at [] k = refl
bare_at (e ∷ es) zero = refl
bare_at (e ∷ es) (suc k) = bare_at es k

bare_breaks : (period : ℕ → ℕ) (columns : ℕ) (nodes : List Node) (es : List RawEntry) (i : ℕ) → entry_breaks period columns nodes (map bare_entry es) i ≡ entry_breaks period columns nodes es i
bare_breaks period columns nodes es i =
    let sums : sum_by (entry_samples period) (take (i + 1) (map bare_entry es)) ≡ sum_by (entry_samples period) (take (i + 1) es) =
    ap (sum_by (entry_samples period)) (take-map bare_entry (i + 1) es) ∙ sum_by-map (entry_samples period) bare_entry (take (i + 1) es) in
    λ t. not (is_value period columns nodes (bare_at es i t) && ((i == 0 || entries_ascend (bare_at es (i - 1) t) (bare_at es i t)) && nat_le (sums t) most_samples))

bare_counts : (period : ℕ → ℕ) (es : List RawEntry) → map (entry_count period) (filter is_exclusive_entry (map bare_entry es)) ≡ map (entry_count period) (filter is_exclusive_entry es)
bare_counts period es =
    ap (map (entry_count period)) (filter_of_map is_exclusive_entry bare_entry es) ∙ map_of_map (entry_count period) bare_entry (filter is_exclusive_entry es)

bare_sampled : (es : List RawEntry) → sampled_nodes (map bare_entry es) ≡ sampled_nodes es
bare_sampled es = ap (map (λ (e : RawEntry). e.node)) (filter_of_map is_exclusive_entry bare_entry es) ∙ map_of_map (λ (e : RawEntry). e.node) bare_entry (filter is_exclusive_entry es)

module _ (c : EventContent) (s : IsEventStored c) (laid : IsLaid c) where
  abbrev layout : Layout
  layout = layout_of c laid

  abbrev names : Names
  names = c.names

  -- ---- the head

  head_ok : head_kept (version_of c) (map raw_event c.events) c.runs (length laid.nodes) ≡ Ok tt
  head_ok =
      let few = s.nodes in
      let many = same_many bare_node (raw_node names) laid.nodes c.nodes laid.same_nodes in
      head_keeps c s.profile.some s.few_runs s.profile.events s.profile.harts (length laid.nodes) (omega (arith, many, few))

  events_are : map event_of (map raw_event c.events) ≡ c.events
  events_are = map_of_map event_of raw_event c.events ∙ all_same (λ (e : EventPeriod). event_of (raw_event e)) c.events (λ i d lt. event_again (get_or c.events i d))

  abbrev period : ℕ → ℕ
  period = period_of_column (periods_of c.events)

  abbrev columns : ℕ
  columns = columns_of (length c.events) c.runs

  periods_are : layout_period layout ≡ period
  periods_are = ap (λ (es : List EventPeriod). period_of_column (periods_of es)) events_are

  columns_are : layout_columns layout ≡ columns
  columns_are = ap (λ (n : ℕ). columns_of n c.runs) (length-map c.events raw_event)

  -- ---- the names

  procs_are : map raw_proc_name laid.procs ≡ names.procs
  procs_are =
      sym (map_of_map raw_proc_name bare_proc laid.procs) ∙ ap (map raw_proc_name) laid.same_procs ∙ map_of_map raw_proc_name raw_proc names.procs
      ∙ all_same (λ p. raw_proc_name (raw_proc p)) names.procs (λ i d lt. proc_again (get_or names.procs i d))

  files_are : map file_name laid.files ≡ names.files
  files_are = laid.same_files ∙ all_same (λ f. f) names.files (λ i d lt. refl)

  names_are : names_in layout ≡ names
  names_are = λ i. record { procs = procs_are i; files = files_are i }

  nodes_same : map (node_of names) laid.nodes ≡ c.nodes
  nodes_same =
      sym (map_of_map (node_of names) bare_node laid.nodes) ∙ ap (map (node_of names)) laid.same_nodes ∙ map_of_map (node_of names) (raw_node names) c.nodes
      ∙ all_same (λ n. node_of names (raw_node names n)) c.nodes (λ i d lt. node_again c s (get_or c.nodes i d) (found c s i d lt))

  used_procs_are : used_procs laid.nodes ≡ map (proc_index names) (procs_of_nodes c s)
  used_procs_are =
      sym (flat_map-map (λ (n : RawNode). scope_proc n.scope) bare_node laid.nodes) ∙ ap (flat_map (λ (n : RawNode). scope_proc n.scope)) laid.same_nodes
      ∙ flat_map-map (λ (n : RawNode). scope_proc n.scope) (raw_node names) c.nodes ∙ used_proc_numbers c s

  used_files_are : used_files laid.nodes ≡ map (λ f. file_index names f.0 f.1) (files_of_nodes c s)
  used_files_are =
      sym (flat_map-map (λ (n : RawNode). scope_file n.scope) bare_node laid.nodes) ∙ ap (flat_map (λ (n : RawNode). scope_file n.scope)) laid.same_nodes
      ∙ flat_map-map (λ (n : RawNode). scope_file n.scope) (raw_node names) c.nodes ∙ used_file_numbers c s

  abbrev proc_of : ℕ → ProcName
  proc_of i = get_or names.procs i (no_proc c s)

  proc_is : (i : ℕ) → i < length names.procs → bare_proc (proc_at laid.procs i) ≡ raw_proc (proc_of i)
  proc_is i lt = same_at bare_proc raw_proc laid.procs names.procs laid.same_procs i _ (no_proc c s) lt

  proc_less : (k i : ℕ) → suc k ≡ i → i < length names.procs → procs_ascend (proc_at laid.procs k) (proc_at laid.procs i) ≡ true
  proc_less k i next lt =
      let p : ProcName = proc_of k in
      let q : ProcName = proc_of i in
      let up : proc_order p.id q.id ≡ Less = procs_up c s k i (no_proc c s) (omega (arith, next)) lt in
      (λ t. procs_ascend (proc_is k (omega (arith, next, lt)) t) (proc_is i lt t))
      ∙ pair_by_less (proc_kind p.id) (proc_number p.id) (proc_kind q.id) (proc_number q.id) (sym (λ t. slice_cmp nat_cmp (proc_words_are p.id t) (proc_words_are q.id t)) ∙ up)

  proc_whole : (i : ℕ) → i < length names.procs → proc_breaks laid.procs (used_procs laid.nodes) i ≡ false
  proc_whole i lt =
      let p : ProcName = proc_of i in
      let ok : IsNamed p = s.procs i (no_proc c s) lt in
      let used : is_among (used_procs laid.nodes) i ≡ true = ap (λ (l : List ℕ). is_among l i) used_procs_are ∙ proc_used c s i lt in
      let named : is_valid_proc (proc_at laid.procs i) ≡ true = ap is_valid_proc (proc_is i lt) ∙ named_passes p.id p.name ok.nameless in
      let short : nat_lt most_name_bytes (length (proc_at laid.procs i).name) ≡ false =
      ap (λ (r : RawProc). nat_lt most_name_bytes (length r.name)) (proc_is i lt) ∙ le-ltb most_name_bytes (length p.name) ok.short in
      or_from _ _ (or_from _ _ (one_before i (λ k. procs_ascend (proc_at laid.procs k) (proc_at laid.procs i)) (λ k next. proc_less k i next lt)) (or_from _ _ (ap not named) short)) (ap not used)

  procs_ok : procs_kept laid.procs (used_procs laid.nodes) ≡ Ok tt
  procs_ok =
      let many = same_many bare_proc raw_proc laid.procs names.procs laid.same_procs in
      none_fails 4 (proc_breaks laid.procs (used_procs laid.nodes)) (λ i. (proc_at laid.procs i).offset) 0 (length laid.procs) (λ k lt. proc_whole k (omega (arith, many, lt)))

  abbrev file_of : ℕ → FileName
  file_of i = get_or names.files i (no_file c s)

  file_is : (i : ℕ) → i < length names.files → file_name (file_at laid.files i) ≡ file_of i
  file_is i lt = same_at file_name (λ (f : FileName). f) laid.files names.files laid.same_files i _ (no_file c s) lt

  file_less : (k i : ℕ) → suc k ≡ i → i < length names.files → files_ascend (file_at laid.files k) (file_at laid.files i) ≡ true
  file_less k i next lt =
      let f : FileName = file_of k in
      let g : FileName = file_of i in
      let up : file_order (f.table, f.file) (g.table, g.file) ≡ Less = files_up c s k i (no_file c s) (omega (arith, next)) lt in
      (λ t. pair_less (file_is k (omega (arith, next, lt)) t).table (file_is k (omega (arith, next, lt)) t).file (file_is i lt t).table (file_is i lt t).file)
      ∙ pair_by_less f.table f.file g.table g.file up

  file_whole : (i : ℕ) → i < length names.files → file_breaks laid.files (used_files laid.nodes) i ≡ false
  file_whole i lt =
      let used : is_among (used_files laid.nodes) i ≡ true = ap (λ (l : List ℕ). is_among l i) used_files_are ∙ file_used c s i lt in
      let short : nat_lt most_name_bytes (length (file_at laid.files i).name) ≡ false =
      ap (λ (f : FileName). nat_lt most_name_bytes (length f.name)) (file_is i lt) ∙ le-ltb most_name_bytes (length (file_of i).name) (s.files i (no_file c s) lt) in
      or_from _ _ (or_from _ _ (one_before i (λ k. files_ascend (file_at laid.files k) (file_at laid.files i)) (λ k next. file_less k i next lt)) short) (ap not used)

  files_ok : files_kept laid.files (used_files laid.nodes) ≡ Ok tt
  files_ok =
      let many = same_many file_name (λ (f : FileName). f) laid.files names.files laid.same_files in
      none_fails 4 (file_breaks laid.files (used_files laid.nodes)) (λ i. (file_at laid.files i).offset) 0 (length laid.files) (λ k lt. file_whole k (omega (arith, many, lt)))

  -- ---- the nodes

  node_whole : (i : ℕ) → i < length c.nodes → node_breaks (length laid.procs) (length laid.files) laid.nodes c.nodes i ≡ false
  node_whole i lt =
      let n : Node = node_at c.nodes i in
      let many_procs = same_many bare_proc raw_proc laid.procs names.procs laid.same_procs in
      let many_files = same_many file_name (λ (f : FileName). f) laid.files names.files laid.same_files in
      let at : bare_node (raw_node_at laid.nodes i) ≡ raw_node names n = same_at bare_node (raw_node names) laid.nodes c.nodes laid.same_nodes i _ _ lt in
      let ranged : in_range (length laid.procs) (length laid.files) (raw_node_at laid.nodes i).scope ≡ true =
      (λ t. in_range (many_procs t) (many_files t) (at t).scope) ∙ scope_ranged c s n.scope (found c s i _ lt) in
      let order : in_preorder c.nodes i ≡ true = in_order c.nodes s.nodes (preorder c s) i lt in
      let wrong : not (in_range (length laid.procs) (length laid.files) (raw_node_at laid.nodes i).scope && (in_preorder c.nodes i && is_placed c.nodes n)) ≡ false =
      ap not (and_from _ _ ranged (and_from _ _ order (placed c s i lt))) in
      or_from _ _ wrong (ap not (below i lt))
    where
      below : (i : ℕ) → i < length c.nodes → (is_statement (node_at c.nodes i).scope || is_among (parents_of c.nodes) i) ≡ true
      below i lt = elim (is_statement (node_at c.nodes i).scope) as (λ b. is_statement (node_at c.nodes i).scope ≡ b → (b || is_among (parents_of c.nodes) i) ≡ true) [
        | true ↦ λ e. refl
        | false ↦ λ e. has_child c s i lt e
      ] refl

  nodes_ok : nodes_kept (length laid.procs) (length laid.files) laid.nodes c.nodes ≡ Ok tt
  nodes_ok = none_fails 5 (node_breaks (length laid.procs) (length laid.files) laid.nodes c.nodes) (λ i. (raw_node_at laid.nodes i).offset) 0 (length c.nodes) (λ k lt. node_whole k (omega (arith, lt)))

  -- ---- the values

  own_entries_ok : entries_kept period columns c.nodes laid.entries ≡ Ok tt
  own_entries_ok =
      let many : length laid.entries ≡ length (entries c s) = sym (length-map laid.entries bare_entry) ∙ ap length laid.same_entries in
      none_fails 6 (entry_breaks period columns c.nodes laid.entries) (λ i. (entry_at laid.entries i).offset) 0 (length laid.entries) (λ k lt.
      sym (bare_breaks period columns c.nodes laid.entries k)
      ∙ ap (λ (es : List RawEntry). entry_breaks period columns c.nodes es k) laid.same_entries ∙ none_breaks c s k (omega (arith, many, lt)))

  entries_ok : entries_kept (layout_period layout) (layout_columns layout) c.nodes laid.entries ≡ Ok tt
  entries_ok = (λ i. entries_kept (periods_are i) (columns_are i) c.nodes laid.entries) ∙ own_entries_ok

  tree_is : tree_of period columns c.nodes laid.entries ≡ tree c s
  tree_is =
      let same = sym (bare_counts period laid.entries) ∙ ap (λ (es : List RawEntry). map (entry_count period) (filter is_exclusive_entry es)) laid.same_entries in
      λ i. record { columns = columns; nodes = c.nodes; counts = same i }

  content_is : content_in layout names c.nodes ≡ c
  content_is =
      let values_are : layout_values layout c.nodes ≡ values_of period (tree c s) =
      (λ i. values_of (periods_are i) (tree_of (periods_are i) (columns_are i) c.nodes laid.entries)) ∙ ap (values_of period) tree_is in
      let by_column_is = ap entries_by_column values_are ∙ by_column c s in
      let by_node_is = ap entries_by_node values_are ∙ by_node c s in
      λ i. record { events = events_are i; runs = c.runs; names = names; nodes = c.nodes; profiles = by_column_is i; contexts = by_node_is i }

  profiles_ok : (next : At) × (fields_kept 6 (plane_fields profile_fields c.profiles) laid.profiles ≡ Ok (tt, next))
  profiles_ok =
      fields_forth 6 (plane_fields profile_fields c.profiles) laid.profiles (context_plane c) (profile_fields_fit c.profiles (content_fits c s).profiles)
      (laid.profiles_left ∙ ap (λ (l : List ℕ). l ++ context_plane c) (sym (profile_bytes c.profiles)))

  contexts_ok : (next : At) × (fields_kept 7 (plane_fields context_fields c.contexts) laid.contexts ≡ Ok (tt, next))
  contexts_ok =
      fields_forth 7 (plane_fields context_fields c.contexts) laid.contexts [] (context_fields_fit c.contexts (content_fits c s).contexts)
      (laid.contexts_left ∙ ap (λ (l : List ℕ). l ++ []) (sym (context_bytes c.contexts)))

  -- ---- each statement has samples

  abbrev IsSampled : ℕ → ColumnPath → Type 0
  IsSampled i p = p.path ≡ node_path c.nodes i → is_among (sampled_nodes (entries c s)) i ≡ true

  abbrev exclusive : List RawEntry
  exclusive = filter is_exclusive_entry (entries c s)

  abbrev no_entry : RawEntry
  no_entry = record { offset = 0; column = 0; node = 0; kind = 0; value = 0 }

  statement_sampled : (i : ℕ) → i < length c.nodes → is_statement (node_at c.nodes i).scope ≡ true → is_among (sampled_nodes (entries c s)) i ≡ true
  statement_sampled i lt is =
      let p = statement_ends c s i lt is in
      let all : All (IsSampled i) (event_paths_of c) = subst (All (IsSampled i)) (paths_are c s) (paths_all (tree c s) (IsSampled i) counted) in
      All-contains (IsSampled i) (event_paths_of c) p.0 all p.1 p.2
    where
      counted : All (λ k. IsSampled i (counted_path c.nodes k)) (map (entry_count period) exclusive)
      counted = All-map (λ (k : NodeCount). IsSampled i (counted_path c.nodes k)) (entry_count period) exclusive (λ j d less path_is.
          let e : RawEntry = get_or exclusive j d in
          let long = as_many_paths c.nodes in
          let many = length-map exclusive (λ (x : RawEntry). x.node) in
          let node : e.node < length c.nodes = (All-filter is_exclusive_entry (λ (x : RawEntry). x.node < length c.nodes) (entries c s) (λ k f within. (good c s k f within).node)) j d less in
          let same : e.node ≡ i = numbers_tell (tree_paths c.nodes) (preorder c s).ascend e.node i (omega (arith, node, long)) (omega (arith, lt, long)) path_is in
          let at : get_or (sampled_nodes (entries c s)) j 0 ≡ i = get_or-map (λ (x : RawEntry). x.node) exclusive j d 0 less ∙ same in
          list_any_at (λ (k : ℕ). k == i) (sampled_nodes (entries c s)) j 0 (omega (arith, less, many)) (eq-eqb (get_or (sampled_nodes (entries c s)) j 0) i at))

  statements_ok : statements_kept laid.nodes c.nodes (sampled_nodes laid.entries) ≡ Ok tt
  statements_ok =
      none_fails 6 (statement_breaks c.nodes (sampled_nodes laid.entries)) (λ i. (raw_node_at laid.nodes i).offset) 0 (length c.nodes) (λ k lt. whole k (omega (arith, lt)))
    where
      whole : (k : ℕ) → k < length c.nodes → statement_breaks c.nodes (sampled_nodes laid.entries) k ≡ false
      whole k lt =
          let same : is_among (sampled_nodes laid.entries) k ≡ is_among (sampled_nodes (entries c s)) k = ap (λ (l : List ℕ). is_among l k) (sym (bare_sampled laid.entries) ∙ ap sampled_nodes laid.same_entries) in
          elim (is_statement (node_at c.nodes k).scope) as (λ b. is_statement (node_at c.nodes k).scope ≡ b → (b && not (is_among (sampled_nodes laid.entries) k)) ≡ false) [
            | true ↦ λ e. ap not (same ∙ statement_sampled k lt e)
            | false ↦ λ e. refl
          ] refl

  -- ---- all rules

  planes_ok : planes_in layout c ≡ Ok c
  unfolding planes_in
  planes_ok = rw (profiles_ok.1, statements_ok, contexts_ok.1) refl

  nodes_pass : nodes_in layout names c.nodes ≡ Ok c
  unfolding nodes_in values_in
  nodes_pass = rw (nodes_ok, content_is, entries_ok) planes_ok

  names_ok : names_kept layout ≡ Ok tt
  names_ok = rw procs_ok files_ok

  own_nodes_ok : nodes_in layout (names_in layout) (map (node_of (names_in layout)) laid.nodes) ≡ Ok c
  own_nodes_ok = (λ i. nodes_in layout (names_are i) (map (node_of (names_are i)) laid.nodes)) ∙ ap (nodes_in layout names) nodes_same ∙ nodes_pass

-- what is written of a stored content is read as that content
pub stored_read : (c : EventContent) → IsEventStored c → events_in (events_spelling c) ≡ Ok c
unfolding events_in content_of_layout
stored_read c s =
    let laid = layout_forth c (content_fits c s) in
    rw (laid.1, head_ok c s laid.0, names_ok c s laid.0) (own_nodes_ok c s laid.0)
