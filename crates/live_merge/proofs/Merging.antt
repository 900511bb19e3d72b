-- Trees of call paths.
use Rattle.std.proofs.Common.{◌≡◌, ℕ, ◌+◌, ◌<◌, ◌≤◌, ◌==◌, ◌&&◌, true, false, cond, List, [], ◌∷◌, ◌++◌, length, map, replicate, count_by, refl, sym, ap, subst, ◌∙◌, arith, Result, Ok, Err, IfOk}
use Rattle.std.specs.List.{flat_map}
use Rattle.std.proofs.lemmas.List.Sums.{sum_by-cons}
use Rattle.scope_types.specs.Alike.{Alike}
use Rattle.scope_types.specs.CallPaths.{ColumnPath, each_path}
use Rattle.scope_types.specs.Raw.{Raw}
use Rattle.scope_types.specs.declared.path.Entry.{Entry}
use Rattle.scope_types.specs.declared.scope.Scope.{Scope}
use Rattle.prof_bytes.specs.declared.fail.Memory.{Memory}
use Rattle.thread_cct.specs.Plan.{IsMergeable, Planned, all_entries, expanded, expanded_paths}
use Rattle.thread_cct.proofs.PlanLaws.{paths_alike}
use Rattle.stripe_table.specs.Ends.{AllFit, NamesAll, SetValue, named_paths}
use Rattle.stripe_table.specs.Limits.{Chunks}
use Rattle.merge_crew.specs.Merged.{IsOfPlan, NamesEach}
use Rattle.merge_crew.specs.declared.merge.Crew.{Crew}
use Rattle.tree_join.specs.Join.{AreJoinable}
use Rattle.tree_join.proofs.Sampled.{plan_named}
use Rattle.tree_types.proofs.PathsAgain.{nodes_alike}
use Rattle.tree_types.specs.declared.counted_tree.NodeCount.{NodeCount}
use Rattle.tree_types.specs.Database.{node_list}
use Rattle.tree_types.specs.Nodes.{nodes, no_parent}
use Rattle.tree_types.specs.Paths.{Path, after_prefix, rest_passes}
use Rattle.tree_types.specs.PathsOf.{tree_paths}
use Rattle.tree_types.specs.Tree.{CountedTree, counted_path, paths_in}
use Rattle.tree_types.specs.Values.{count_below, ends_here}
use Rattle.tree_types.proofs.TreePaths.{tree_paths_is}
use Rattle.tree_types.proofs.TreeLaws.{paths_in_tree}
use Rattle.tree_types.proofs.ContentParts.{as_long}
use Rattle.path_trie.specs.Trie.{count_of, entries_with_path, same_path, samples_of}
use Rattle.path_trie.proofs.Samples.{counts_of_samples}
use Rattle.tree_join.specs.private.Walk.{path_or_none}
use Rattle.live_merge.specs.Live.{IsMerged}
use Rattle.live_merge.specs.Sum.{HasPaths, count_of_path}
use Rattle.live_merge.proofs.Sums.{counted, counted_cons}

-- a count as an entry
abbrev entry_at : List Path → NodeCount → Entry
entry_at paths c = record { column = c.column; count = c.count; path = path_or_none paths c.node }

abbrev entry_count : Entry → ℕ
entry_count e = e.count

-- the same count of a column and a path
entries_count : (paths : List Path) (cs : List NodeCount) (column : ℕ) (path : Path) → counted cs paths column path ≡ count_of (map (entry_at paths) cs) column path
entries_count paths [] column path = refl
entries_count paths (c ∷ cs) column path =
    counted_cons c cs paths column path ∙ ap (λ (n : ℕ). cond (c.column == column && same_path path (path_or_none paths c.node)) c.count 0 + n) (entries_count paths cs column path)
    ∙ sym (first_entry (entry_at paths c) (map (entry_at paths) cs))
  where
    first_entry : (x : Entry) (rest : List Entry) → count_of (x ∷ rest) column path ≡ cond (x.column == column && same_path path x.path) x.count 0 + count_of rest column path
    first_entry x rest =
        elim (x.column == column && same_path path x.path) as (λ b. samples_of (cond b (x ∷ entries_with_path rest column path) (entries_with_path rest column path)) ≡ cond b x.count 0 + count_of rest column path) [
          | true ↦ sum_by-cons entry_count x (entries_with_path rest column path)
          | false ↦ omega arith
        ]

entries_paths : (t : CountedTree) (cs : List NodeCount) → each_path (map (entry_at (tree_paths t.nodes)) cs) ≡ flat_map (λ c. replicate c.count (counted_path t.nodes c)) cs
unfolding each_path
entries_paths t [] = refl
entries_paths t (c ∷ cs) = ap (λ (l : List ColumnPath). replicate c.count (counted_path t.nodes c) ++ l) (entries_paths t cs)

-- as many paths are counted at a path as end there
pub of_tree : (t : CountedTree) (column : ℕ) (path : Path) → count_of_path t column path ≡ count_below ends_here (paths_in t) column path
unfolding paths_in
of_tree t column path =
    entries_count (tree_paths t.nodes) t.counts column path ∙ counts_of_samples (map (entry_at (tree_paths t.nodes)) t.counts) column path
    ∙ ap (λ (ps : List ColumnPath). count_below ends_here ps column path) (entries_paths t t.counts)

pub alike_below : (ps qs : List ColumnPath) (column : ℕ) (path : Path) → Alike ps qs → count_below ends_here ps column path ≡ count_below ends_here qs column path
unfolding count_below
alike_below ps qs column path a = a.same (λ p. p.column == column && rest_passes ends_here (after_prefix path p.path))

-- a tree with the nodes of paths, in which these end, is theirs, and that of any that are alike
pub tree_has : (t : CountedTree) (ps qs : List ColumnPath) → t.nodes ≡ node_list ps → length (nodes ps) ≤ no_parent → Alike (paths_in t) ps → nodes ps ≡ nodes qs → Alike ps qs → HasPaths qs t
tree_has t ps qs nodes_are few ends same alike = record {
  nodes = ap tree_paths nodes_are ∙ tree_paths_is ps few ∙ same;
  counts = λ column path some. of_tree t column path ∙ alike_below (paths_in t) ps column path ends ∙ alike_below ps qs column path alike;
}

-- ---- the tree of a plan that was merged

module _ (plan : Planned) (call_path : Raw → List Scope) (crew : Crew) (of : IsOfPlan (expanded plan call_path) crew) (names : NamesEach (expanded plan call_path) crew) where
  abbrev set : SetValue
  set = crew.stripes

  fits : AllFit set.view.plan set.stripes
  fits = subst (λ (p : Chunks). AllFit p set.stripes) (sym of.plan) of.fit

  names_all : NamesAll set
  names_all c s c_lt s_lt = (let own = names s c s_lt (subst (λ (p : Chunks). c < length p) of.plan c_lt) in omega arith)

  pub plan_paths : Alike (named_paths set) (each_path (expanded_paths call_path plan))
  plan_paths = record {
    same = λ t.
        (plan_named set fits names_all).same t ∙ ap (λ (p : Chunks). count_by t (each_path (all_entries p))) of.plan ∙ (paths_alike plan call_path).same t;
  }

  pub merged_ok : (columns : ℕ) (r : Result CountedTree Memory) → columns ≡ plan.columns → IfOk r (λ t. t.columns ≡ columns) → IfOk r (λ t. t.nodes ≡ node_list (named_paths set)) → IfOk r (λ t. length (nodes (named_paths set)) ≤ no_parent)
      → IfOk r (λ t. Alike (paths_in t) (named_paths set)) → IfOk r (IsMerged plan call_path)
  merged_ok columns (Ok t) are columns_are nodes_are few ends = record {
    columns = columns_are ∙ are;
    paths = tree_has t (named_paths set) (each_path (expanded_paths call_path plan)) nodes_are few ends
        (nodes_alike (named_paths set) (each_path (expanded_paths call_path plan)) plan_paths) plan_paths;
    samples = sym (paths_in_tree t) ∙ as_long (paths_in t) (named_paths set) ends ∙ as_long (named_paths set) (each_path (expanded_paths call_path plan)) plan_paths;
  }
  merged_ok columns (Err memory) are columns_are nodes_are few ends = tt

-- what the stripes of a plan hold can be joined
pub joinable : (plan : Planned) (call_path : Raw → List Scope) (crew : Crew) → IsOfPlan (expanded plan call_path) crew → (columns : ℕ) → IsMergeable (expanded plan call_path) columns
    → ((set : SetValue) (columns : ℕ) → AllFit set.view.plan set.stripes → IsMergeable set.view.plan columns → AreJoinable set columns) → AreJoinable crew.stripes columns
joinable plan call_path crew of columns can law =
    law crew.stripes columns (subst (λ (p : Chunks). AllFit p crew.stripes.stripes) (sym of.plan) of.fit) (subst (λ (p : Chunks). IsMergeable p columns) (sym of.plan) can)
