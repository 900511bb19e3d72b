-- The pieces that the stripes name, and the samples.
use Rattle.std.proofs.Common.{◌≡◌, ℕ, ◌<◌, ◌==◌, Bool, true, false, cond, List, [], ◌∷◌, get_or, filter, replicate, count_by, sum_by, All, Contains, refl, sym, ap, ◌∙◌}
use Rattle.std.specs.List.{flat_map, range_with_len}
use Rattle.std.proofs.lemmas.Bool.{eqb-true}
use Rattle.std.proofs.lemmas.List.Elements.{All-cons, All-contains, All-nil, All-weaker}
use Rattle.scope_types.specs.declared.path.Entry.{Entry}
use Rattle.scope_types.specs.declared.scope.Scope.{Scope}
use Rattle.scope_types.specs.Alike.{Alike}
use Rattle.scope_types.specs.CallPaths.{ColumnPath, entry_path, each_path}
use Rattle.scope_types.specs.Distinct.{ColumnRaw, distinct}
use Rattle.scope_types.specs.Key.{stripe}
use Rattle.scope_types.specs.Raw.{Raw}
use Rattle.thread_cct.specs.Plan.{CountsSamples, IsMergeable, all_entries, expanded, plan_of}
use Rattle.thread_cct.proofs.PlanLaws.{each_counted, pieces_sum, pieces_hold_samples}
use Rattle.tree_types.specs.declared.content.Kind.{Kind}
use Rattle.tree_types.specs.Nodes.{nodes}
use Rattle.tree_types.specs.Paths.{Path}
use Rattle.tree_types.specs.Values.{count_below, ends_here, value}
use Rattle.tree_types.proofs.PathsAgain.{count_by-flat_map, nodes_alike, values_alike}
use Rattle.path_trie.specs.Trie.{count_of}
use Rattle.path_trie.proofs.Samples.{nodes_of_samples, counts_of_samples, nodes_of_parts, counts_of_parts}
use Rattle.stripe_table.specs.Ends.{SetValue, AllFit, NamesAll, named_paths, stripe_names, paths_named_by}
use Rattle.stripe_table.specs.Limits.{Chunks, dealt}
use Rattle.tree_join.specs.Join.{AreJoinable, nodes_of_all, sampled_paths, stripe_parts}
use Rattle.tree_join.proofs.Named.{named_sum, named_whole}
use Rattle.tree_join.proofs.Parts.{all_held, parts_all, parts_paths}

-- ---- the tries and the pieces

pub nodes_named : (set : SetValue) (columns : ℕ) → AllFit set.view.plan set.stripes → AreJoinable set columns → nodes (named_paths set) ≡ nodes_of_all (stripe_parts set)
nodes_named set columns fit held =
    let es : List Entry = flat_map (λ es. es) (stripe_parts set) in
    ap nodes (sym (parts_paths set fit)) ∙ sym (nodes_of_samples es (All-weaker (CountsSamples columns) (λ e. 0 < e.count) (λ e c. c.some) es (all_held set fit columns held)))
    ∙ nodes_of_parts (stripe_parts set)

pub joinable : (set : SetValue) (columns : ℕ) → AllFit set.view.plan set.stripes → IsMergeable set.view.plan columns → AreJoinable set columns
joinable set columns fit plan = parts_all set fit (CountsSamples columns) plan.entries

pub counts_named : (set : SetValue) → AllFit set.view.plan set.stripes → (column : ℕ) (path : Path) → count_below ends_here (named_paths set) column path ≡ sum_by (λ es. count_of es column path) (stripe_parts set)
counts_named set fit column path =
    ap (λ (ps : List ColumnPath). count_below ends_here ps column path) (sym (parts_paths set fit)) ∙ sym (counts_of_samples (flat_map (λ es. es) (stripe_parts set)) column path)
    ∙ counts_of_parts (stripe_parts set) column path

filter_true : (p : Entry → Bool) (xs : List Entry) → All (λ e. p e ≡ true) (filter p xs)
filter_true p [] = All-nil (λ e. p e ≡ true)
filter_true p (x ∷ xs) = elim (p x) as (λ b. p x ≡ b → All (λ e. p e ≡ true) (cond b (x ∷ filter p xs) (filter p xs))) [
  | true ↦ λ passes. All-cons (λ e. p e ≡ true) x (filter p xs) passes (filter_true p xs)
  | false ↦ λ passes. filter_true p xs
] refl

pub own_stripe : (plan : Chunks) (chunk s : ℕ) (e : Entry) → Contains (dealt plan chunk s) e → stripe e.path ≡ s
own_stripe plan chunk s e there =
    eqb-true (stripe e.path) s (All-contains (λ e. (stripe e.path == s) ≡ true) (dealt plan chunk s) e (filter_true (λ e. stripe e.path == s) (get_or plan chunk [])) there)

pub ruleset named_laws = (nodes_named, joinable, counts_named, own_stripe)

-- ---- where each stripe names each chunk

module _ (set : SetValue) (fit : AllFit set.view.plan set.stripes) where
  module _ (t : ColumnPath → Bool) where
    abbrev passing : Entry → ℕ
    passing e = count_by t (replicate e.count (entry_path e))

    stripe_counted : (s : ℕ) → count_by t (paths_named_by set s) ≡ named_sum set fit passing s
    stripe_counted s =
        count_by-flat_map t (λ c. each_path (dealt set.view.plan c s)) (stripe_names set.stripes s)
        ∙ (λ i. sum_by (λ c. each_counted t (dealt set.view.plan c s) i) (stripe_names set.stripes s))

    all_counted : count_by t (named_paths set) ≡ sum_by (named_sum set fit passing) (range_with_len 0 16)
    unfolding named_paths
    all_counted = count_by-flat_map t (paths_named_by set) (range_with_len 0 16) ∙ (λ i. sum_by (λ s. stripe_counted s i) (range_with_len 0 16))

    counts_whole : NamesAll set → count_by t (named_paths set) ≡ count_by t (each_path (all_entries set.view.plan))
    counts_whole all =
        all_counted ∙ named_whole set fit passing all ∙ sym (pieces_sum passing set.view.plan) ∙ sym (each_counted t (all_entries set.view.plan))

  pub named_are_all : NamesAll set → Alike (named_paths set) (each_path (all_entries set.view.plan))
  named_are_all all = record { same = λ t. counts_whole t all }

pub plan_named : (set : SetValue) → AllFit set.view.plan set.stripes → NamesAll set → Alike (named_paths set) (each_path (all_entries set.view.plan))
plan_named set fit all = named_are_all set fit all

module _ (set : SetValue) (columns : ℕ) (samples : List ColumnRaw) (call_path : Raw → List Scope) (fit : AllFit set.view.plan set.stripes) (all : NamesAll set)
    (is : set.view.plan ≡ expanded (plan_of (distinct columns samples)) call_path) (below : All (λ s. s.column < columns) samples) where
  pub samples_named : Alike (named_paths set) (sampled_paths call_path samples)
  samples_named = record {
    same = λ t.
        (named_are_all set fit all).same t ∙ ap (λ (plan : Chunks). count_by t (each_path (all_entries plan))) is
        ∙ (pieces_hold_samples columns samples call_path below).same t;
  }

  pub sample_nodes : nodes (named_paths set) ≡ nodes (sampled_paths call_path samples)
  sample_nodes = nodes_alike (named_paths set) (sampled_paths call_path samples) samples_named

  pub sample_values : (period column : ℕ) (n : Path) (kind : Kind) → value period (named_paths set) column n kind ≡ value period (sampled_paths call_path samples) column n kind
  sample_values period column n kind = values_alike period (named_paths set) (sampled_paths call_path samples) samples_named column n kind

pub ruleset sample_laws = (plan_named, samples_named, sample_nodes, sample_values)
