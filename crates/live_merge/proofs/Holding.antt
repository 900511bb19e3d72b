-- The tree of a run's samples holds their call paths.
use Rattle.std.proofs.Common.{◌≡◌, ℕ, ◌<◌, ◌≤◌, nat_lt, List, [], length, map, All, Result, Ok, Err, sym, ap, subst, ◌∙◌, arith}
use Rattle.std.proofs.lemmas.List.Elements.{All-map, Contains-get_or}
use Rattle.prof_bytes.specs.Outcome.{◌>>=◌}
use Rattle.scope_types.specs.Alike.{Alike}
use Rattle.scope_types.specs.CallPaths.{ColumnPath}
use Rattle.scope_types.specs.Distinct.{ColumnRaw, distinct, scopes_in}
use Rattle.scope_types.specs.Limits.{most_scopes_in_all}
use Rattle.scope_types.specs.Raw.{Raw}
use Rattle.tree_types.specs.Database.{node_list}
use Rattle.tree_types.specs.Nodes.{nodes, no_parent}
use Rattle.tree_types.specs.Paths.{Path}
use Rattle.tree_types.specs.PathsOf.{tree_paths}
use Rattle.tree_types.specs.Tree.{CountedTree, IsTree, count_at, node_path, paths_in}
use Rattle.tree_types.specs.Values.{count_below, ends_here}
use Rattle.tree_types.proofs.CountedPaths.{paths_made}
use Rattle.tree_types.proofs.NodeLaws.{node_is_prefix}
use Rattle.tree_types.proofs.PathSteps.{as_many_paths}
use Rattle.tree_types.proofs.TreeLaws.{counts_are_paths, numbers_tell}
use Rattle.path_trie.specs.Trie.{trie_node}
use Rattle.path_trie.proofs.Kept.{nodes_are}
use Rattle.tree_join.specs.Join.{sampled_paths}
use Rattle.tree_join.specs.private.Walk.{path_or_none}
use Rattle.tree_join.proofs.Rooted.{rooted_from}
use Rattle.live_merge.specs.Live.{few_of_run, few_scopes_of, within_limits}
use Rattle.live_merge.specs.Sum.{HasPaths}
use Rattle.live_merge.specs.declared.fault.LiveFault.{LiveFault}
use Rattle.live_merge.specs.declared.fault.LiveFault.TheVariants.{TooManyScopes}
use Rattle.live_merge.proofs.Adding.{parents_before}
use Rattle.live_merge.proofs.Epochs.{at_most, tested_ok}
use Rattle.live_merge.proofs.Grown.{CallPath, Laws, samples_few}
use Rattle.live_merge.proofs.Merging.{of_tree}

-- ---- a tree with few nodes

module _ (tree : CountedTree) (ps : List ColumnPath) (is : IsTree tree) (few : length tree.nodes ≤ most_scopes_in_all) (has : HasPaths ps tree) where
  once : (i j : ℕ) → i < length tree.nodes → j < length tree.nodes → path_or_none (tree_paths tree.nodes) i ≡ path_or_none (tree_paths tree.nodes) j → i ≡ j
  once i j lti ltj e = (let long = as_many_paths tree.nodes in numbers_tell (tree_paths tree.nodes) is.preorder.ascend i j (omega (arith, long, lti)) (omega (arith, long, ltj)) e)

  pub nodes_listed : tree.nodes ≡ node_list ps
  nodes_listed =
      nodes_are tree.nodes (rooted_from tree.nodes (parents_before tree.nodes is.preorder) once) few
      ∙ ap (λ (ns : List Path). map (trie_node ns) ns) has.nodes

  few_nodes : length (nodes ps) ≤ no_parent
  few_nodes = (let long = as_many_paths tree.nodes in let same = ap (λ (l : List Path). length l) has.nodes in omega (arith, long, same, few))

  some_scope : (node : ℕ) → node < length tree.nodes → 0 < length (node_path tree.nodes node)
  some_scope node lt =
      let ns : List Path = nodes ps in
      let inside : node < length ns = (let long = as_many_paths tree.nodes in let same = ap (λ (l : List Path). length l) has.nodes in omega (arith, long, same, lt)) in
      subst (λ (l : List Path). 0 < length (path_or_none l node)) (sym has.nodes) (node_is_prefix ps (path_or_none ns node) (Contains-get_or ns node [] inside)).2.some

  counted : (node column : ℕ) → node < length tree.nodes → count_at tree.counts node column ≡ count_below ends_here ps column (node_path tree.nodes node)
  counted node column lt =
      counts_are_paths tree node column is lt ∙ sym (of_tree tree column (node_path tree.nodes node))
      ∙ has.counts column (node_path tree.nodes node) (some_scope node lt)

  pub paths_held : All (λ p. p.column < tree.columns) ps → All (λ p. 0 < length p.path) ps → Alike (paths_in tree) ps
  paths_held below some = paths_made tree ps is nodes_listed few_nodes below some counted

-- ---- samples within their limits

after_ok : {X Y : Type 0} (r : Result X LiveFault) (f : X → Result Y LiveFault) (y : Y) → (r >>= f) ≡ Ok y → (x : X) × (f x ≡ Ok y)
after_ok (Ok x) f y e = (x, e)
after_ok (Err fault) f y e = absurd cc

scopes_few : (call_path : CallPath) (columns : ℕ) (samples : List ColumnRaw) → within_limits call_path columns samples ≡ Ok samples → scopes_in call_path (distinct columns samples) ≤ most_scopes_in_all
scopes_few call_path columns samples e =
    let last = after_ok (few_of_run columns samples) (few_scopes_of call_path columns) samples e in
    let is = tested_ok (nat_lt most_scopes_in_all (scopes_in call_path (distinct columns last.0))) TooManyScopes last.0 samples last.1 in
    subst (λ (l : List ColumnRaw). scopes_in call_path (distinct columns l) ≤ most_scopes_in_all) is.1
    (at_most most_scopes_in_all (scopes_in call_path (distinct columns last.0)) is.0)

module _ (laws : Laws) (call_path : CallPath) (samples : List ColumnRaw) (tree : CountedTree) (is : IsTree tree) (within : within_limits call_path tree.columns samples ≡ Ok samples) (own : All (λ s. s.column < tree.columns) samples)
    (has : HasPaths (sampled_paths call_path samples) tree) where
  few : length tree.nodes ≤ most_scopes_in_all
  few =
      (let size = samples_few laws call_path tree.columns samples tree own has in
      let most = scopes_few call_path tree.columns samples within in
      omega (arith, size, most))

  pub samples_listed : tree.nodes ≡ node_list (sampled_paths call_path samples)
  samples_listed = nodes_listed tree (sampled_paths call_path samples) is few has

  abbrev path_of_sample : ColumnRaw → ColumnPath
  path_of_sample s = record { column = s.column; path = call_path s.raw }

  pub samples_held : ((raw : Raw) → 0 < length (call_path raw)) → Alike (paths_in tree) (sampled_paths call_path samples)
  samples_held some =
      paths_held tree (sampled_paths call_path samples) is few has (All-map (λ (p : ColumnPath). p.column < tree.columns) path_of_sample samples own)
      (All-map (λ (p : ColumnPath). 0 < length p.path) path_of_sample samples (λ i d lt. some _))
