use Rattle.std.proofs.Common.{◌∙◌, ℕ, List, sym, ap, subst, arith}
use Rattle.scope_find.specs.Found.{naming_of}
use Rattle.scope_types.specs.CallPaths.{ColumnPath}
use Rattle.scope_types.specs.Columns.{period_of_column}
use Rattle.scope_types.specs.Events.{periods_of}
use Rattle.tree_types.specs.declared.content.EventContent.{EventContent}
use Rattle.tree_types.specs.NodeValues.{values_of}
use Rattle.tree_types.specs.OfContent.{IsEventProfile, content_of_event, content_table}
use Rattle.tree_types.specs.PathsOf.{tree_paths}
use Rattle.tree_types.specs.Planes.{context_plane, profile_plane}
use Rattle.tree_types.specs.Tree.{CountedTree, IsTree}
use Rattle.run_profile.proofs.Contents.{content_is, few_counts}
use Rattle.run_profile.proofs.FewRuns.{runs_columns}
use Rattle.run_profile.proofs.merged.content_of_tree.Goals as goal

pub sums-requires-clause-few : goal.sums-requires-clause-few
sums-requires-clause-few g c =
    few_counts c.args.tree c.requires.paths.0 (c.trees_hold_paths.ensures.all c.args.tree) c.requires.paths.1.paths c.requires.paths.1.samples

pub returns-clause-content : goal.returns-clause-content
returns-clause-content g c ps of =
    let tree : CountedTree = c.args.tree in
    let period : ℕ → ℕ = period_of_column (periods_of c.args.events.now) in
    let named = c.in_ok-names.ensures.paths ps (ap tree_paths of.nodes ∙ c.trees_hold_paths.ensures.paths ps of.few) in
    let sound : IsTree c.args.tree = subst IsTree c.tree.view_is c.tree.invariant in
    let valued = c.in_ok-values.ensures.values ∙ ap (λ (periods : List ℕ). values_of (period_of_column periods) c.args.tree) (c.as_slice.ensures.value ∙ c.in_ok-periods.ensures) in
    let planes = c.in_ok-planes.ensures.paths (period_of_column (periods_of c.args.events.now)) c.args.tree ps valued sound of.paths of.nodes of.few in
    content_is c.args.events.now c.args.runs.now (naming_of c.args.expander.now) ps
    (record { events = c.of.result; runs = c.of-2.result; names = c.in_ok-names.names; nodes = c.of-3.result; profiles = c.in_ok-planes.planes.0; contexts = c.in_ok-planes.planes.1 })
    (c.of.ensures ∙ c.in_ok-own_events.ensures) (c.of-2.ensures ∙ c.in_ok-own_runs.ensures) named (c.of-3.ensures ∙ c.into_nodes.ensures ∙ of.nodes)
    (planes.0 ∙ ap (λ (n : ℕ). profile_plane (period_of_column (periods_of c.args.events.now)) n ps) of.columns)
    (planes.1 ∙ ap (λ (n : ℕ). context_plane (period_of_column (periods_of c.args.events.now)) n ps) of.columns)

pub returns-clause-profile : goal.returns-clause-profile
returns-clause-profile g c =
    let ps : List ColumnPath = c.requires.paths.0 in
    let of = c.requires.paths.1 in
    let some = c.requires.runs.some in
    subst IsEventProfile (sym (returns-clause-content g c ps of))
    (c.event_paths_make_a_profile.ensures c.args.events.now c.args.runs.now (naming_of c.args.expander.now) ps c.requires.events (omega (arith, some)) c.requires.runs.harts (runs_columns c.args.events.now c.args.runs.now c.requires.events c.requires.runs) of.few of.some of.below of.samples)

pub returns-clause-tables : goal.returns-clause-tables
returns-clause-tables g c ps of place within =
    ap (λ (q : EventContent). content_table (content_of_event q place)) (returns-clause-content g c ps of)
    ∙ c.event_contents_have_parts.ensures.table c.args.events.now c.args.runs.now (naming_of c.args.expander.now) ps place c.requires.events within of.few of.some of.below
