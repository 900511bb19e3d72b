-- The content that is made of a layout.
use Rattle.std.proofs.Common.{◌≡◌, ℕ, List, length, ap, ◌∙◌}
use Rattle.scope_types.specs.Columns.{period_of_column}
use Rattle.scope_types.specs.Events.{periods_of}
use Rattle.scope_types.specs.declared.event.EventPeriod.{EventPeriod}
use Rattle.tree_types.specs.declared.content.ContextEntry.{ContextEntry}
use Rattle.tree_types.specs.declared.content.EventContent.{EventContent}
use Rattle.tree_types.specs.declared.content.Names.{Names}
use Rattle.tree_types.specs.declared.content.Node.{Node}
use Rattle.tree_types.specs.declared.content.ProfileEntry.{ProfileEntry}
use Rattle.tree_types.specs.NodeValues.{NodeValues, values_of}
use Rattle.tree_types.specs.Tree.{CountedTree}
use Rattle.tree_types.specs.ValuePlanes.{entries_by_column, entries_by_node}
use Rattle.sparse_planes.proofs.ByColumn.{as_many_columns}
use Rattle.sparse_planes.proofs.ByNode.{as_many_nodes}
use Rattle.prof_db.specs.declared.raw.Layout.{Layout}
use Rattle.prof_db.specs.HeadRules.{events_of, layout_columns, layout_period}
use Rattle.prof_db.specs.Rules.{content_in, layout_values}

abbrev content_with : List EventPeriod → List ℕ → Names → List Node → List (List ProfileEntry) → List (List ContextEntry) → EventContent
content_with events runs names nodes profiles contexts = record {
  events = events;
  runs = runs;
  names = names;
  nodes = nodes;
  profiles = profiles;
  contexts = contexts;
}

pub content_made : (layout : Layout) (names : Names) (nodes made : List Node) (events : List EventPeriod) (runs periods : List ℕ)
    (values : NodeValues) (profiles : List (List ProfileEntry)) (contexts : List (List ContextEntry)) (tree : CountedTree)
    → events ≡ events_of layout → runs ≡ layout.runs → periods ≡ periods_of (events_of layout)
    → made ≡ tree.nodes → tree.nodes ≡ nodes → values ≡ values_of (period_of_column periods) tree
    → values_of (layout_period layout) tree ≡ layout_values layout nodes
    → profiles ≡ entries_by_column values → contexts ≡ entries_by_node values
    → content_with events runs names made profiles contexts ≡ content_in layout names nodes
content_made layout names nodes made events runs periods values profiles contexts tree events_are runs_are periods_are made_is nodes_are values_are same profiles_are contexts_are =
    let own = made_is ∙ nodes_are in
    let all = values_are ∙ ap (λ (ps : List ℕ). values_of (period_of_column ps) tree) periods_are ∙ same in
    let by_column = profiles_are ∙ ap entries_by_column all in
    let by_node = contexts_are ∙ ap entries_by_node all in
    λ i. record { events = events_are i; runs = runs_are i; names = names; nodes = own i; profiles = by_column i; contexts = by_node i }

pub profiles_long : (layout : Layout) (names : Names) (nodes : List Node) (content : EventContent) → content ≡ content_in layout names nodes → length content.profiles ≡ layout_columns layout
unfolding values_of
profiles_long layout names nodes content is = ap (λ (c : EventContent). length c.profiles) is ∙ as_many_columns (layout_values layout nodes)

pub contexts_long : (layout : Layout) (names : Names) (nodes : List Node) (content : EventContent) → content ≡ content_in layout names nodes → length content.contexts ≡ length nodes
unfolding values_of
contexts_long layout names nodes content is = ap (λ (c : EventContent). length c.contexts) is ∙ as_many_nodes (layout_values layout nodes)
