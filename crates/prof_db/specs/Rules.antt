-- What the bytes of a database say, or the first that they break of the seven rules of this project's format
-- (docs/FORMATS.md, Database).
use Rattle.std.specs.Prelude.{ℕ, List, length, map, Result, Ok, Err, if◌then◌else◌}
use Rattle.prof_bytes.specs.Outcome.{◌>>=◌}
use Rattle.tree_types.specs.declared.content.Content.{Content}
use Rattle.tree_types.specs.declared.content.EventContent.{EventContent}
use Rattle.tree_types.specs.declared.content.Names.{Names}
use Rattle.tree_types.specs.declared.content.Node.{Node}
use Rattle.tree_types.specs.NodeValues.{NodeValues, values_of}
use Rattle.tree_types.specs.OfContent.{single_content}
use Rattle.tree_types.specs.ValuePlanes.{entries_by_column, entries_by_node}
use Rattle.prof_db.specs.declared.fault.DbFault.{DbFault}
use Rattle.prof_db.specs.declared.raw.Layout.{Layout}
use Rattle.prof_db.specs.declared.raw.Version.TheVariants.{One}
use Rattle.prof_db.specs.Broken.{RuleCheck}
use Rattle.prof_db.specs.Fields.{fault}
use Rattle.prof_db.specs.HeadRules.{events_of, head_kept, layout_columns, layout_period}
use Rattle.prof_db.specs.Layout.{begins, layout_in}
use Rattle.prof_db.specs.NameRules.{names_kept, names_in}
use Rattle.prof_db.specs.NodeRules.{node_of, nodes_kept}
use Rattle.prof_db.specs.ValueRules.{entries_kept, tree_of, profile_fields, context_fields, plane_fields, fields_kept}
use Rattle.prof_db.specs.ValueRules.{sampled_nodes, statements_kept}
use Rattle.prof_db.specs.Spelling.{database_magic}

-- the values of the tree that the exclusive values make
abbrev pub layout_values : Layout → List Node → NodeValues
layout_values layout nodes = values_of (layout_period layout)
    (tree_of (layout_period layout) (layout_columns layout) nodes layout.entries)

-- the content, where both planes have just the values of the tree
abbrev pub content_in : Layout → Names → List Node → EventContent
content_in layout names nodes = record {
  events = events_of layout;
  runs = layout.runs;
  names = names;
  nodes = nodes;
  profiles = entries_by_column (layout_values layout nodes);
  contexts = entries_by_node (layout_values layout nodes);
}

-- the sixth rule's second and third parts, and the seventh
unfoldable pub planes_in : Layout → EventContent → Result EventContent DbFault
planes_in layout content = do
  (done, next) ← fields_kept 6 (plane_fields profile_fields content.profiles) layout.profiles
  done ← statements_kept layout.nodes content.nodes (sampled_nodes layout.entries)
  (done, next) ← fields_kept 7 (plane_fields context_fields content.contexts) layout.contexts
  Ok content

-- the sixth rule's first part, and what comes after it
unfoldable pub values_in : Layout → EventContent → Result EventContent DbFault
values_in layout content = do
  done ← entries_kept (layout_period layout) (layout_columns layout) content.nodes layout.entries
  planes_in layout content

-- the fifth rule, and those after it
unfoldable pub nodes_in : Layout → Names → List Node → Result EventContent DbFault
nodes_in layout names nodes = do
  done ← nodes_kept (length layout.procs) (length layout.files) layout.nodes nodes
  values_in layout (content_in layout names nodes)

-- the content that a layout says, or the first rule that it breaks
unfoldable pub content_of_layout : Layout → Result EventContent DbFault
content_of_layout layout = do
  done ← head_kept layout.version layout.events layout.runs (length layout.nodes)
  done ← names_kept layout
  nodes_in layout (names_in layout) (map (node_of (names_in layout)) layout.nodes)

-- the content that bytes of any version say, or the first of the seven rules that they break
unfoldable pub events_in : List ℕ → Result EventContent DbFault
events_in bytes = do
  layout ← layout_in bytes
  content_of_layout layout

-- the first rule for version 1 alone
abbrev pub version_1_kept : List ℕ → RuleCheck
version_1_kept bytes = if begins (database_magic One) bytes then Ok tt else Err (fault 1 0)

-- the content that bytes of version 1 say, which is that of the one event retired; those of any other version break the
-- first rule
unfoldable pub database_in : List ℕ → Result Content DbFault
database_in bytes = do
  done ← version_1_kept bytes
  content ← events_in bytes
  Ok (single_content content)
