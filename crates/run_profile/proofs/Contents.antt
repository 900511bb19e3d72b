-- The content of the paths of a tree.
use Rattle.std.proofs.Common.{◌≡◌, ℕ, zero, suc, ◌<◌, ◌≤◌, true, List, [], ◌∷◌, length, count_by, slice_get, All, Some, refl, sym, ◌∙◌, ap, subst, arith}
use Rattle.std.proofs.lemmas.List.Sums.{sum_by-cons}
use Rattle.scope_types.specs.declared.event.EventPeriod.{EventPeriod}
use Rattle.scope_types.specs.Alike.{Alike}
use Rattle.scope_types.specs.CallPaths.{ColumnPath}
use Rattle.scope_types.specs.Columns.{columns_of, period_of_column}
use Rattle.scope_types.specs.Events.{periods_of}
use Rattle.scope_types.specs.Limits.{most_samples}
use Rattle.tree_types.specs.declared.content.EventContent.{EventContent}
use Rattle.tree_types.specs.Database.{event_content_of, names_used, node_list, period_at}
use Rattle.tree_types.specs.Naming.{Naming}
use Rattle.tree_types.specs.Nodes.{nodes, no_parent}
use Rattle.tree_types.specs.Planes.{context_plane, profile_plane}
use Rattle.tree_types.specs.Tree.{CountedTree, counts_in, paths_in}
use Rattle.run_profile.specs.Merging.{IsTreeOf}

pub long_alike : (ps qs : List ColumnPath) → Alike ps qs → length ps ≡ length qs
long_alike ps qs alike = sym (all_counted ps) ∙ alike.same (λ p. true) ∙ all_counted qs
  where
    all_counted : (xs : List ColumnPath) → count_by (λ p. true) xs ≡ length xs
    all_counted [] = refl
    all_counted (x ∷ xs) = let first = sum_by-cons (λ (p : ColumnPath). 1) x xs in let rest = all_counted xs in omega (arith, first, rest)

-- no more paths than there may be samples
pub few_counts : (tree : CountedTree) (ps : List ColumnPath) → length (paths_in tree) ≡ counts_in tree.counts → Alike (paths_in tree) ps → length ps ≤ most_samples → counts_in tree.counts ≤ most_samples
few_counts tree ps all alike few = let same = long_alike (paths_in tree) ps alike in omega (arith, all, same, few)

pub content_is : (events : List EventPeriod) (runs : List ℕ) (naming : Naming) (ps : List ColumnPath) (content : EventContent) → content.events ≡ events → content.runs ≡ runs → content.names ≡ names_used naming ps → content.nodes ≡ node_list ps
    → content.profiles ≡ profile_plane (period_of_column (periods_of events)) (columns_of (length events) runs) ps → content.contexts ≡ context_plane (period_of_column (periods_of events)) (columns_of (length events) runs) ps → content ≡ event_content_of events runs naming ps
unfolding event_content_of
content_is events runs naming ps content at of names ns profiles contexts =
    λ i. record { events = at i; runs = of i; names = names i; nodes = ns i; profiles = profiles i; contexts = contexts i }

-- the period of the event at a place
pub period_there : (events : List EventPeriod) (place : ℕ) (event : EventPeriod) → slice_get events place ≡ Some event → period_at events place ≡ event.period
period_there [] place event is = absurd cc
period_there (e ∷ events) zero event is = (let same : e ≡ event = cc in ap (λ (q : EventPeriod). q.period) same)
period_there (e ∷ events) (suc place) event is = period_there events place event is

-- an event that is there is at a place of the list
pub there_within : (events : List EventPeriod) (place : ℕ) (event : EventPeriod) → slice_get events place ≡ Some event → place < length events
there_within [] place event is = absurd cc
there_within (e ∷ events) zero event is = omega arith
there_within (e ∷ events) (suc place) event is = (let less = there_within events place event is in omega (arith, less))

-- what is known of a joined tree
pub tree_of : (columns most : ℕ) (ps : List ColumnPath) (tree : CountedTree) → columns ≡ most → tree.columns ≡ columns → tree.nodes ≡ node_list ps → length (nodes ps) ≤ no_parent → Alike (paths_in tree) ps → length ps ≤ most_samples
    → All (λ p. 0 < length p.path) ps × All (λ p. p.column < columns) ps → IsTreeOf most ps tree
tree_of columns most ps tree same columns_are nodes_are few paths samples own = record {
  columns = columns_are ∙ same;
  nodes = nodes_are;
  few = few;
  paths = paths;
  samples = samples;
  some = own.0;
  below = subst (λ (n : ℕ). All (λ (p : ColumnPath). p.column < n) ps) same own.1;
}
