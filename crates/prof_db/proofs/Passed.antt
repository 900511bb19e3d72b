-- What the rules say of a layout that a content is read of.
use Rattle.std.proofs.Common.{◌≡◌, ℕ, List, length, map, Ok}
use Rattle.prof_bytes.specs.Reading.{At}
use Rattle.tree_types.specs.declared.content.EventContent.{EventContent}
use Rattle.tree_types.specs.declared.content.Node.{Node}
use Rattle.prof_db.specs.declared.raw.Layout.{Layout}
use Rattle.prof_db.specs.HeadRules.{head_kept, layout_columns, layout_period}
use Rattle.prof_db.specs.Layout.{layout_in}
use Rattle.prof_db.specs.NameRules.{files_kept, names_in, names_kept, procs_kept, used_files, used_procs}
use Rattle.prof_db.specs.NodeRules.{node_of, nodes_kept}
use Rattle.prof_db.specs.Rules.{content_in, content_of_layout, events_in, nodes_in, planes_in, values_in}
use Rattle.prof_db.specs.ValueRules.{context_fields, entries_kept, fields_kept, plane_fields, profile_fields, sampled_nodes, statements_kept}
use Rattle.prof_bytes.proofs.Outcomes.{bind_ok, ok_same}

-- ---- the rules, one after the other

abbrev pub own_nodes : Layout → List Node
own_nodes layout = map (node_of (names_in layout)) layout.nodes

abbrev pub own_content : Layout → EventContent
own_content layout = content_in layout (names_in layout) (own_nodes layout)

-- ---- what they say

-- a layout that passes the rules, and its content
pub record Passed (layout : Layout) (c : EventContent) : Type 0 where
  pub head : head_kept layout.version layout.events layout.runs (length layout.nodes) ≡ Ok tt
  pub procs : procs_kept layout.procs (used_procs layout.nodes) ≡ Ok tt
  pub files : files_kept layout.files (used_files layout.nodes) ≡ Ok tt
  pub nodes : nodes_kept (length layout.procs) (length layout.files) layout.nodes (own_nodes layout) ≡ Ok tt
  pub entries : entries_kept (layout_period layout) (layout_columns layout) (own_nodes layout) layout.entries ≡ Ok tt
  pub behind_profiles : At
  pub profiles : fields_kept 6 (plane_fields profile_fields (own_content layout).profiles) layout.profiles ≡ Ok (tt, behind_profiles)
  pub statements : statements_kept layout.nodes (own_nodes layout) (sampled_nodes layout.entries) ≡ Ok tt
  pub behind_contexts : At
  pub contexts : fields_kept 7 (plane_fields context_fields (own_content layout).contexts) layout.contexts ≡ Ok (tt, behind_contexts)
  pub is : own_content layout ≡ c

pub passed : (bytes : List ℕ) (c : EventContent) → events_in bytes ≡ Ok c → (layout : Layout) × (layout_in bytes ≡ Ok layout) × Passed layout c
unfolding events_in content_of_layout nodes_in values_in planes_in
passed bytes c read =
    let a = bind_ok (layout_in bytes) _ _ read in
    let layout : Layout = a.0 in
    let head = bind_ok (head_kept layout.version layout.events layout.runs (length layout.nodes)) _ _ a.2 in
    let names = bind_ok (names_kept layout) _ _ head.2 in
    let both = bind_ok (procs_kept layout.procs (used_procs layout.nodes)) (λ done. files_kept layout.files (used_files layout.nodes)) tt names.1 in
    let nodes = bind_ok (nodes_kept (length layout.procs) (length layout.files) layout.nodes (own_nodes layout)) _ _ names.2 in
    let entries = bind_ok (entries_kept (layout_period layout) (layout_columns layout) (own_nodes layout) layout.entries) _ _ nodes.2 in
    let profiles = bind_ok (fields_kept 6 (plane_fields profile_fields (own_content layout).profiles) layout.profiles) _ _ entries.2 in
    let statements = bind_ok (statements_kept layout.nodes (own_nodes layout) (sampled_nodes layout.entries)) _ _ profiles.2 in
    let contexts = bind_ok (fields_kept 7 (plane_fields context_fields (own_content layout).contexts) layout.contexts) _ _ statements.2 in (
      layout,
      a.1,
      record {
        head = head.1;
        procs = both.1;
        files = both.2;
        nodes = nodes.1;
        entries = entries.1;
        behind_profiles = profiles.0.1;
        profiles = profiles.1;
        statements = statements.1;
        behind_contexts = contexts.0.1;
        contexts = contexts.1;
        is = ok_same (own_content layout) c contexts.2;
      },
    )
