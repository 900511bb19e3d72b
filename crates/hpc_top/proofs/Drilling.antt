-- The lines of a run's profile.
use Rattle.std.proofs.Common.{◌≡◌, ℕ, List, length, IsTrue, Result, Ok, sym, ap, ◌∙◌}
use Rattle.std.proofs.lemmas.List.{length-map}
use Rattle.prof_bytes.specs.Outcome.{◌>>=◌}
use Rattle.prof_db.specs.Spelling.{events_spelling}
use Rattle.run_report.specs.Drill.{drill_lines}
use Rattle.scope_find.specs.Found.{naming_of}
use Rattle.scope_types.specs.declared.event.EventPeriod.{EventPeriod}
use Rattle.scope_types.specs.CallPaths.{ColumnPath}
use Rattle.tree_types.specs.declared.content.EventContent.{EventContent}
use Rattle.tree_types.specs.Database.{event_content_of, node_list}
use Rattle.tree_types.specs.Naming.{Naming}
use Rattle.tree_types.specs.Nodes.{nodes}
use Rattle.command_line.specs.declared.status.InputFault.{InputFault}
use Rattle.hpc_top.specs.declared.profiling.ProfiledRun.{ProfiledRun}
use Rattle.run_profile.specs.Attribution.{Attributed, attribution_of, call_paths_of, event_content}
use Rattle.run_profile.specs.Merging.{Merging}
use Rattle.command_line.specs.declared.product.Product.{Product}
use Rattle.command_line.specs.Product.{only_text}
use Rattle.hpc_top.specs.commands.Drill.{drill_text}
use Rattle.hpc_top.specs.commands.Profile.{Profiled}
use Rattle.hpc_top.specs.private.Products.{drill_or}
use Rattle.hpc_top.specs.private.Profiling.{IsProfileOf, Profiles}
use Rattle.run_profile.proofs.Products.{ContentsAlike, EventsAlike, TablesAlike, all_content}

nodes_long : (events : List EventPeriod) (runs : List ℕ) (naming : Naming) (ps : List ColumnPath) (content : EventContent) → content ≡ event_content_of events runs naming ps → length content.nodes ≡ length (nodes ps)
unfolding event_content_of
nodes_long events runs naming ps content is = ap (λ (c : EventContent). length c.nodes) is ∙ node_count
  where
    node_count : length (node_list ps) ≡ length (nodes ps)
    node_count = length-map (nodes ps) _

-- the lines by what is told of a run, and by the content of its samples
abbrev lines_by : ℕ → ProfiledRun → List ℕ
lines_by number r = drill_lines number r.summary.retired r.summary.samples (length r.merged.content.nodes) (events_spelling r.merged.content)

module _ (by : Merging) (contents : ContentsAlike) (tables : TablesAlike) (each : EventsAlike) (whole : IsTrue by.whole) where
  lines_are : (number : ℕ) (p : Profiled) (r : ProfiledRun) → IsProfileOf by p r → lines_by number r ≡ drill_text number p
  lines_are number p r is =
      let a : Attributed = p.attributed in
      let content : r.merged.content ≡ event_content a (call_paths_of a) = all_content by contents tables each a r.merged is.merged whole in
      let database : events_spelling r.merged.content ≡ (attribution_of a).stored = ap events_spelling content in
      let many = nodes_long a.events a.runs (naming_of a.scopes) (call_paths_of a) r.merged.content content in
      λ i. drill_lines number (is.summary.retired i) (is.summary.samples i) (many i) (database i)

  pub drilled_is : (number : ℕ) (wanted : Result Profiled InputFault) (r : ProfiledRun) (made : Product) → Profiles by (Ok r) wanted → made ≡ only_text (lines_by number r) → drill_or number wanted ≡ Ok made
  drilled_is number wanted r made (p, is, profile) text =
      ap (λ (r : Result Profiled InputFault). r >>= λ p. Ok (only_text (drill_text number p))) is
      ∙ ap Ok (sym (text ∙ ap only_text (lines_are number p r profile)))
