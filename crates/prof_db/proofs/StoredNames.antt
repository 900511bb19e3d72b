-- The names of a stored content are found by its scopes, and each is used.
use Rattle.std.proofs.Common.{◌≡◌, ℕ, ◌<◌, ◌==◌, nat_lt, true, List, [], ◌∷◌, ◌++◌, length, get_or, map, All, AllPairs, Contains, Less, Ordering, refl, sym, ap, subst, ◌∙◌, arith}
use Rattle.std.specs.Cmp.{IsTotalOrder}
use Rattle.std.specs.FinMap.{IsAntisymmetric}
use Rattle.std.specs.List.{flat_map}
use Rattle.std.proofs.lemmas.Bool.{and_from, eq-eqb, lt-ltb}
use Rattle.std.proofs.lemmas.List.{get_or-map, length-map}
use Rattle.std.proofs.lemmas.List.Elements.{All-cons, All-contains_itself, All-head, All-nil, All-tail}
use Rattle.std.proofs.lemmas.List.Folds.{flat_map-map, list_any_at}
use Rattle.scope_types.specs.declared.scope.LineId.{LineId}
use Rattle.scope_types.specs.declared.scope.LineId.TheVariants as lines
use Rattle.scope_types.specs.declared.scope.ProcId.{ProcId}
use Rattle.scope_types.specs.declared.scope.ProcId.TheVariants.{Nameless}
use Rattle.scope_types.specs.declared.scope.RootKind.TheVariants.{Thread, Partial}
use Rattle.scope_types.specs.declared.scope.Scope.{Scope}
use Rattle.scope_types.specs.declared.scope.Scope.TheVariants as scopes
use Rattle.tree_types.specs.Ascending.{ascending}
use Rattle.tree_types.specs.Naming.{FileId, file_order, files_used, line_files, proc_order, procs_used, scope_files, scope_procs}
use Rattle.tree_types.specs.Nodes.{nodes, own_scope}
use Rattle.tree_types.specs.PathsOf.{event_paths_of}
use Rattle.tree_types.specs.declared.content.EventContent.{EventContent}
use Rattle.tree_types.specs.declared.content.FileName.{FileName}
use Rattle.tree_types.specs.declared.content.Names.{Names}
use Rattle.tree_types.specs.declared.content.Node.{Node}
use Rattle.tree_types.specs.declared.content.ProcName.{ProcName}
use Rattle.tree_types.proofs.EventParts.{own_names, own_names_ascend, own_nodes}
use Rattle.tree_types.proofs.NamesAgain.{file_order_tells, file_order_total, proc_order_tells, proc_order_total}
use Rattle.tree_types.proofs.Selecting.{map_of_flat_map, map_of_map}
use Rattle.tree_types.proofs.Sorting.{Contains-from_has, has, has-from_Contains, has_ascending}
use Rattle.prof_db.specs.NameRules.{is_among, line_file, scope_file, scope_proc}
use Rattle.prof_db.specs.NodeRules.{in_range, line_in_range, line_id, node_of, scope_of}
use Rattle.prof_db.specs.Spelling.{file_index, proc_index}
use Rattle.prof_db.specs.Stored.{IsEventStored}
use Rattle.prof_db.proofs.BackNames.{position_own}
use Rattle.prof_db.proofs.ForthItems.{raw_line, raw_node, raw_scope}

-- ---- keys that ascend, and what they are the keys of

module _ {X K : Type 0} {R : K → K → Ordering} (total : IsTotalOrder R) (tells : IsAntisymmetric R) (key : X → K) (xs : List X) (used : List K) (are : map key xs ≡ ascending R used) where
  -- each entry is used
  pub entry_used : (i : ℕ) (d : X) → i < length xs → Contains used (key (get_or xs i d))
  entry_used i d lt =
      let k : K = key (get_or xs i d) in
      let long = length-map xs key in
      let there : Contains (map key xs) k = (i, omega (arith, lt, long), get_or-map key xs i d k lt) in
      Contains-from_has total tells k used (sym (has_ascending total tells k used) ∙ ap (has R k) (sym are) ∙ has-from_Contains total tells k (map key xs) there)

  -- what is used has an entry
  pub used_entry : (k : K) (d : X) → Contains used k → (i : ℕ) × (i < length xs) × (key (get_or xs i d) ≡ k)
  used_entry k d there =
      let long = length-map xs key in
      let c = Contains-from_has total tells k (map key xs) (ap (has R k) are ∙ has_ascending total tells k used ∙ has-from_Contains total tells k used there) in
      let lt : c.0 < length xs = (let within = c.1 in omega (arith, within, long)) in
      (c.0, lt, sym (get_or-map key xs c.0 d k lt) ∙ c.2)

-- what holds of each element of two lists holds of each of the first, and of each of the second
module _ {Y : Type 0} (P : Y → Type 0) where
  pub all_front : (a b : List Y) → All P (a ++ b) → All P a
  all_front [] b all = All-nil P
  all_front (y ∷ a) b all = All-cons P y a (All-head P y (a ++ b) all) (all_front a b (All-tail P y (a ++ b) all))

  pub all_back : (a b : List Y) → All P (a ++ b) → All P b
  all_back [] b all = all
  all_back (y ∷ a) b all = all_back a b (All-tail P y (a ++ b) all)

  -- and of each list of lists that are put together
  pub all_parts : {X : Type 0} (f : X → List Y) (xs : List X) → All P (flat_map f xs) → All (λ x. All P (f x)) xs
  all_parts f [] all = All-nil (λ x. All P (f x))
  all_parts f (x ∷ xs) all = All-cons (λ x. All P (f x)) x xs (all_front (f x) (flat_map f xs) all) (all_parts f xs (all_back (f x) (flat_map f xs) all))

module _ (c : EventContent) (s : IsEventStored c) where
  abbrev names : Names
  names = c.names

  abbrev pub no_proc : ProcName
  no_proc = record { id = Nameless; name = [] }

  abbrev pub no_file : FileName
  no_file = record { table = 0; file = 0; name = [] }

  abbrev pub file_key : FileName → FileId
  file_key f = (f.table, f.file)

  -- ---- which procedures and files are used

  abbrev pub procs_of_nodes : List ProcId
  procs_of_nodes = flat_map (λ (n : Node). scope_procs n.scope) c.nodes

  abbrev pub files_of_nodes : List FileId
  files_of_nodes = flat_map (λ (n : Node). scope_files n.scope) c.nodes

  of_nodes : {Z : Type 0} (f : Scope → List Z) → flat_map (λ (n : Node). f n.scope) c.nodes ≡ flat_map (λ n. f (own_scope n)) (nodes (event_paths_of c))
  of_nodes f = ap (flat_map (λ (n : Node). f n.scope)) (own_nodes c s.profile.own) ∙ flat_map-map (λ (n : Node). f n.scope) _ (nodes (event_paths_of c))

  map_same : {K : Type 0} (ks : List K) → map (λ k. k) ks ≡ ks
  map_same [] = refl
  map_same {K} (k ∷ ks) = ap (λ (l : List K). k ∷ l) (map_same ks)

  pub proc_keys : map (λ p. p.id) names.procs ≡ ascending proc_order procs_of_nodes
  unfolding procs_used
  proc_keys =
      ap (λ (ns : Names). map (λ (p : ProcName). p.id) ns.procs) (sym (own_names c s.profile.own))
      ∙ map_of_map (λ (p : ProcName). p.id) _ (procs_used (nodes (event_paths_of c))) ∙ map_same (procs_used (nodes (event_paths_of c)))
      ∙ ap (ascending proc_order) (sym (of_nodes scope_procs))

  pub file_keys : map file_key names.files ≡ ascending file_order files_of_nodes
  unfolding files_used
  file_keys =
      ap (λ (ns : Names). map file_key ns.files) (sym (own_names c s.profile.own))
      ∙ map_of_map file_key _ (files_used (nodes (event_paths_of c))) ∙ map_same (files_used (nodes (event_paths_of c)))
      ∙ ap (ascending file_order) (sym (of_nodes scope_files))

  pub procs_up : AllPairs (λ p q. proc_order p.id q.id ≡ Less) names.procs
  procs_up = (own_names_ascend c s.profile.own).procs

  pub files_up : AllPairs (λ f g. file_order (f.table, f.file) (g.table, g.file) ≡ Less) names.files
  files_up = (own_names_ascend c s.profile.own).files

  -- ---- what is used is found

  pub proc_found : (id : ProcId) → Contains procs_of_nodes id → (proc_index names id < length names.procs) × ((get_or names.procs (proc_index names id) no_proc).id ≡ id)
  proc_found id there =
      let e = used_entry proc_order_total proc_order_tells (λ (p : ProcName). p.id) names.procs procs_of_nodes proc_keys id no_proc there in
      let at : proc_index names id ≡ e.0 =
      ap (proc_index names) (sym e.2) ∙ position_own proc_order_total (λ (p : ProcName). p.id) names.procs e.0 no_proc procs_up e.1 in
      (subst (λ (k : ℕ). k < length names.procs) (sym at) e.1, ap (λ (k : ℕ). (get_or names.procs k no_proc).id) at ∙ e.2)

  pub file_found : (f : FileId) → Contains files_of_nodes f → (file_index names f.0 f.1 < length names.files) × (file_key (get_or names.files (file_index names f.0 f.1) no_file) ≡ f)
  file_found f there =
      let e = used_entry file_order_total file_order_tells file_key names.files files_of_nodes file_keys f no_file there in
      let at : file_index names f.0 f.1 ≡ e.0 =
      ap (λ (g : FileId). file_index names g.0 g.1) (sym e.2) ∙ position_own file_order_total file_key names.files e.0 no_file files_up e.1 in
      (subst (λ (k : ℕ). k < length names.files) (sym at) e.1, ap (λ (k : ℕ). file_key (get_or names.files k no_file)) at ∙ e.2)

  -- ---- a scope whose procedure and file are used

  pub record IsFound (scope : Scope) : Type 0 where
    pub proc : All (Contains procs_of_nodes) (scope_procs scope)
    pub file : All (Contains files_of_nodes) (scope_files scope)

  only : {K : Type 0} (P : K → Type 0) (k : K) → All P (k ∷ []) → P k
  only P k all = All-head P k [] all

  file_parts : (a b : FileId) → a ≡ b → (a.0 ≡ b.0) × (a.1 ≡ b.1)
  file_parts a b is = (ap (λ (f : FileId). f.0) is, ap (λ (f : FileId). f.1) is)

  line_again : (line : LineId) → All (Contains files_of_nodes) (line_files line) → line_id names (raw_line names line) ≡ line
  line_again (lines.Row table file line) found =
      let is = (file_found (table, file) (only (Contains files_of_nodes) (table, file) found)).1 in
      let parts = file_parts _ _ is in
      λ i. lines.Row (parts.0 i) (parts.1 i) line
  line_again (lines.Address address) found = refl

  scope_again : (scope : Scope) → IsFound scope → scope_of names (raw_scope names scope) ≡ scope
  scope_again (scopes.Root Thread) found = refl
  scope_again (scopes.Root Partial) found = refl
  scope_again (scopes.Proc p) found = ap scopes.Proc (proc_found p (only (Contains procs_of_nodes) p found.proc)).1
  scope_again (scopes.Inline p line) found =
      let callee = (proc_found p (only (Contains procs_of_nodes) p found.proc)).1 in
      let call = line_again line found.file in
      λ i. scopes.Inline (callee i) (call i)
  scope_again (scopes.Call line) found = ap scopes.Call (line_again line found.file)
  scope_again (scopes.Stmt line) found = ap scopes.Stmt (line_again line found.file)

  pub node_again : (n : Node) → IsFound n.scope → node_of names (raw_node names n) ≡ n
  node_again n found = (let is = scope_again n.scope found in λ i. record { parent = n.parent; scope = is i })

  line_ranged : (line : LineId) → All (Contains files_of_nodes) (line_files line) → line_in_range (length names.files) (raw_line names line) ≡ true
  line_ranged (lines.Row table file line) found =
      lt-ltb (file_index names table file) (length names.files) (file_found (table, file) (only (Contains files_of_nodes) (table, file) found)).0
  line_ranged (lines.Address address) found = refl

  pub scope_ranged : (scope : Scope) → IsFound scope → in_range (length names.procs) (length names.files) (raw_scope names scope) ≡ true
  scope_ranged (scopes.Root Thread) found = refl
  scope_ranged (scopes.Root Partial) found = refl
  scope_ranged (scopes.Proc p) found = lt-ltb (proc_index names p) (length names.procs) (proc_found p (only (Contains procs_of_nodes) p found.proc)).0
  scope_ranged (scopes.Inline p line) found =
      and_from (nat_lt (proc_index names p) (length names.procs)) (line_in_range (length names.files) (raw_line names line))
      (lt-ltb (proc_index names p) (length names.procs) (proc_found p (only (Contains procs_of_nodes) p found.proc)).0) (line_ranged line found.file)
  scope_ranged (scopes.Call line) found = line_ranged line found.file
  scope_ranged (scopes.Stmt line) found = line_ranged line found.file

  pub found : All (λ n. IsFound n.scope) c.nodes
  found i d lt = record {
    proc = all_parts (Contains procs_of_nodes) (λ (n : Node). scope_procs n.scope) c.nodes (All-contains_itself procs_of_nodes) i d lt;
    file = all_parts (Contains files_of_nodes) (λ (n : Node). scope_files n.scope) c.nodes (All-contains_itself files_of_nodes) i d lt;
  }

  -- ---- each name is used

  pub used_proc_numbers : flat_map (λ (n : Node). scope_proc (raw_scope names n.scope)) c.nodes ≡ map (proc_index names) procs_of_nodes
  used_proc_numbers = (λ i. flat_map (λ (n : Node). same n.scope i) c.nodes) ∙ sym (map_of_flat_map (proc_index names) (λ (n : Node). scope_procs n.scope) c.nodes)
    where
      same : (scope : Scope) → scope_proc (raw_scope names scope) ≡ map (proc_index names) (scope_procs scope)
      same (scopes.Root kind) = refl
      same (scopes.Proc p) = refl
      same (scopes.Inline p line) = refl
      same (scopes.Call line) = refl
      same (scopes.Stmt line) = refl

  pub used_file_numbers : flat_map (λ (n : Node). scope_file (raw_scope names n.scope)) c.nodes ≡ map (λ f. file_index names f.0 f.1) files_of_nodes
  used_file_numbers = (λ i. flat_map (λ (n : Node). same n.scope i) c.nodes) ∙ sym (map_of_flat_map (λ (f : FileId). file_index names f.0 f.1) (λ (n : Node). scope_files n.scope) c.nodes)
    where
      line_same : (line : LineId) → line_file (raw_line names line) ≡ map (λ f. file_index names f.0 f.1) (line_files line)
      line_same (lines.Row table file line) = refl
      line_same (lines.Address address) = refl

      same : (scope : Scope) → scope_file (raw_scope names scope) ≡ map (λ f. file_index names f.0 f.1) (scope_files scope)
      same (scopes.Root kind) = refl
      same (scopes.Proc p) = refl
      same (scopes.Inline p line) = line_same line
      same (scopes.Call line) = line_same line
      same (scopes.Stmt line) = line_same line

  among_map : {K : Type 0} (f : K → ℕ) (ks : List K) (k : K) (n : ℕ) → Contains ks k → f k ≡ n → is_among (map f ks) n ≡ true
  among_map {K} f ks k n there is =
      let long = length-map ks f in
      let at : get_or (map f ks) there.0 0 ≡ n = get_or-map f ks there.0 k 0 there.1 ∙ ap f there.2 ∙ is in
      list_any_at (λ (m : ℕ). m == n) (map f ks) there.0 0 (let lt = there.1 in omega (arith, lt, long)) (eq-eqb (get_or (map f ks) there.0 0) n at)

  pub proc_used : (i : ℕ) → i < length names.procs → is_among (map (proc_index names) procs_of_nodes) i ≡ true
  proc_used i lt =
      among_map (proc_index names) procs_of_nodes (get_or names.procs i no_proc).id i
      (entry_used proc_order_total proc_order_tells (λ (p : ProcName). p.id) names.procs procs_of_nodes proc_keys i no_proc lt)
      (position_own proc_order_total (λ (p : ProcName). p.id) names.procs i no_proc procs_up lt)

  pub file_used : (i : ℕ) → i < length names.files → is_among (map (λ f. file_index names f.0 f.1) files_of_nodes) i ≡ true
  file_used i lt =
      among_map (λ (f : FileId). file_index names f.0 f.1) files_of_nodes (file_key (get_or names.files i no_file)) i
      (entry_used file_order_total file_order_tells file_key names.files files_of_nodes file_keys i no_file lt)
      (position_own file_order_total file_key names.files i no_file files_up lt)
