-- The parts of a content that is that of its own paths.
use Rattle.std.proofs.Common.{◌≡◌, ◌≤◌, true, ℕ, All, List, [], ◌∷◌, count_by, length, map, get_or, AllPairs, Ordering, Less, refl, sym, ap, subst, ◌∙◌, ◌<◌, arith}
use Rattle.std.proofs.lemmas.List.{get_or-map, length-map}
use Rattle.std.proofs.lemmas.List.FromFn.{length-map-range_with_len}
use Rattle.scope_types.specs.CallPaths.{ColumnPath}
use Rattle.scope_types.specs.declared.scope.ProcId.{ProcId}
use Rattle.tree_types.specs.declared.content.Content.{Content}
use Rattle.tree_types.specs.declared.content.Names.{Names}
use Rattle.tree_types.specs.declared.content.FileName.{FileName}
use Rattle.tree_types.specs.declared.content.ProcName.{ProcName}
use Rattle.tree_types.specs.Nodes.{nodes, no_parent}
use Rattle.tree_types.specs.Naming.{Naming, FileId, proc_order, file_order, procs_used, files_used}
use Rattle.tree_types.specs.NamesAscend.{NamesAscend}
use Rattle.tree_types.specs.Planes.{profile_plane, context_plane, profile_entries, context_entries}
use Rattle.tree_types.specs.Database.{node_list, names_used, content_of, naming_in}
use Rattle.tree_types.specs.PathsOf.{paths_of}
use Rattle.tree_types.specs.OfContent.{IsOfPaths, IsProfile}
use Rattle.scope_types.specs.Alike.{Alike}
use Rattle.scope_types.specs.Limits.{most_samples}
use Rattle.tree_types.proofs.Sorting.{sorted_ascending}
use Rattle.tree_types.proofs.NodeLaws.{pairs_from_sorted}
use Rattle.tree_types.proofs.NamesAgain.{proc_order_total, file_order_total, of_paths}
use Rattle.tree_types.proofs.PathsAgain.{paths_alike}
use Rattle.tree_types.proofs.Counting.{count_by-cons}
use Rattle.tree_types.proofs.TreeLaws.{nodes_listed}

-- ---- names in order

pairs_map : {K X : Type 0} (R : K → K → Ordering) (key : X → K) (f : K → X) → ((k : K) → key (f k) ≡ k) → (ks : List K) → AllPairs (λ a b. R a b ≡ Less) ks → AllPairs (λ x y. R (key x) (key y) ≡ Less) (map f ks)
pairs_map R key f own ks up i j d less inside =
    let within : j < length ks = omega (arith, inside, length-map ks f) in
    let at : (k : ℕ) → k < length ks → key (get_or (map f ks) k d) ≡ get_or ks k (key d) = λ k lt. ap key (get_or-map f ks k (key d) d lt) ∙ own (get_or ks k (key d)) in
    (λ t. R (at i (omega arith) t) (at j within t)) ∙ up i j (key d) less within

pub used_names_ascend : (naming : Naming) (ps : List ColumnPath) → NamesAscend (names_used naming ps)
unfolding procs_used files_used
used_names_ascend naming ps = record {
  procs = pairs_map proc_order (λ (p : ProcName). p.id) (λ (id : ProcId). record { id = id; name = naming.proc_name id }) (λ id. refl) (procs_used (nodes ps)) (pairs_from_sorted proc_order (procs_used (nodes ps)) (sorted_ascending proc_order_total _));
  files = pairs_map file_order (λ (f : FileName). (f.table, f.file)) (λ (f : FileId). record { table = f.0; file = f.1; name = naming.file_name f.0 f.1 }) (λ f. refl) (files_used (nodes ps)) (pairs_from_sorted file_order (files_used (nodes ps)) (sorted_ascending file_order_total _));
}

-- ---- the parts

pub own_nodes : (c : Content) → IsOfPaths c → c.nodes ≡ node_list (paths_of c)
unfolding content_of
own_nodes c own = sym (ap (λ (x : Content). x.nodes) own)

pub own_profiles : (c : Content) → IsOfPaths c → c.profiles ≡ profile_plane (λ column. c.period) c.columns (paths_of c)
unfolding content_of
own_profiles c own = sym (ap (λ (x : Content). x.profiles) own)

pub own_contexts : (c : Content) → IsOfPaths c → c.contexts ≡ context_plane (λ column. c.period) c.columns (paths_of c)
unfolding content_of
own_contexts c own = sym (ap (λ (x : Content). x.contexts) own)

pub own_node_count : (c : Content) → IsOfPaths c → length c.nodes ≡ length (nodes (paths_of c))
own_node_count c own = ap length (own_nodes c own) ∙ nodes_listed (paths_of c)

pub own_list_count : (c : Content) → IsOfPaths c → length c.contexts ≡ length c.nodes
own_list_count c own = ap length (own_contexts c own) ∙ length-map (nodes (paths_of c)) (context_entries (λ column. c.period) c.columns (paths_of c)) ∙ sym (own_node_count c own)

pub own_column_count : (c : Content) → IsOfPaths c → length c.profiles ≡ c.columns
own_column_count c own = ap length (own_profiles c own) ∙ length-map-range_with_len (profile_entries (λ column. c.period) (paths_of c)) 0 c.columns

own_names : (c : Content) → IsOfPaths c → names_used (naming_in c.names) (paths_of c) ≡ c.names
unfolding content_of
own_names c own = ap (λ (x : Content). x.names) own

pub own_names_ascend : (c : Content) → IsOfPaths c → NamesAscend c.names
own_names_ascend c own = subst (λ (names : Names). NamesAscend names) (own_names c own) (used_names_ascend (naming_in c.names) (paths_of c))

-- ---- the content of paths

all_counted : {X : Type 0} (xs : List X) → count_by (λ x. true) xs ≡ length xs
all_counted [] = refl
all_counted {X} (x ∷ xs) =
    let first = count_by-cons (λ (x : X). true) x xs in
    let rest = all_counted xs in
    omega (arith, first, rest)

pub as_long : {X : Type 0} (xs ys : List X) → Alike xs ys → length xs ≡ length ys
as_long xs ys alike = sym (all_counted xs) ∙ alike.same (λ x. true) ∙ all_counted ys

pub profile_of_paths : (period columns : ℕ) (naming : Naming) (ps : List ColumnPath) → 0 < period → length (nodes ps) ≤ no_parent → All (λ p. 0 < length p.path) ps → All (λ p. p.column < columns) ps
    → length ps ≤ most_samples → IsProfile (content_of period columns naming ps)
unfolding content_of
profile_of_paths period columns naming ps positive few some below samples = record {
  period = positive;
  own = of_paths period columns naming ps positive few some below;
  samples = (let long = as_long (paths_of (content_of period columns naming ps)) ps (paths_alike period columns naming ps positive few some below) in omega (arith, long, samples));
  nodes = (let long = nodes_listed ps in omega (arith, long, few));
}

pub ruleset part_laws = (own_nodes, own_profiles, own_contexts, own_list_count, own_column_count, own_names_ascend, used_names_ascend, profile_of_paths)
